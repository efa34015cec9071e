-- The edges that contours with curves are drawn as: closed, and on the tile where the coordinates are, control points' too.
--
-- Main results
--   chords_closed                whatever is gained along the edges adds up to 0
--   chords_on                    the chords of a side with all coordinates on the tile are on it
--   contour_on                   and so are those of a contour
--   chords_closed_on             so the edges of an outline are closed edges on the tile
use Rattle.std.specs.Prelude.{◌≡◌, Bool, cond, ℕ, zero, suc, ◌^◌, ◌<◌, ◌≤◌, eqb, ℤ, pos, ◌-ℤ◌}
use Rattle.std.proofs.Math.Path.{refl, ap₂}
use Rattle.std.proofs.Common.{sym, ◌∙◌, ap, arith}
use Rattle.std.proofs.Math.Bool.{true, false}
use mathlib.Core.List.{List, [], ◌∷◌}
use Rattle.std.proofs.Math.ListN.{drop}
use Rattle.std.proofs.Math.IntN.{◌+ℤ◌}
use Rattle.integers.proofs.Theorems.Ring.{read, ring}
use Rattle.integers.specs.RangeSum.{Σ<}
use Rattle.integers.proofs.Theorems.RangeSum.{Σ-zero, Σ_first, Σ_telescope}
use Rattle.integers.specs.ListSum.{All, total, joined}
use Rattle.integers.proofs.Theorems.ListSum.{all_map, all_joined, total_append}
use Rattle.curve.proofs.Laws.ChordEnds.{chord_end_first, chord_end_last, chord_end_low, chord_end_high}
use Rattle.haar.specs.Pictures.{tabulate}
use Rattle.accuracy.specs.Outline.{Point, point_at, edge_between, gain, ClosedEdges}
use Rattle.accuracy.specs.Tile.{OnTile, EdgeOnTile, ClosedOnTile}
use Rattle.accuracy.proofs.Laws.Coordinates.{OnSide}
use Rattle.chords.specs.declared.Curve.{Curve}
use Rattle.chords.specs.declared.Side.{Side}
use Rattle.chords.specs.declared.Side.TheVariants.{Straight, Curved}
use Rattle.chords.specs.Sides.{numbers_of, curve_between, side_to, start_or, sides_from, MarkedContour, sides_of}
use Rattle.chords.specs.Chords.{splits_of, chord_point, chords_of, contour_chords, outline_chords}
use Rattle.chords.specs.Laws.SidesWithin.{Right, SideWithin}
use Rattle.chords.proofs.Laws.SidesWithin.{contour_within}

-- ---- lists by numbers
total-tabulate : {A : Type 0} (f : A → ℤ) (m : ℕ) (g : ℕ → A) → total f (tabulate m g) ≡ Σ< m (λ i. f (g i))
unfolding tabulate total
total-tabulate f zero g = sym (Σ-zero (λ i. f (g i)))
total-tabulate f (suc m) g = ap (λ z. f (g 0) +ℤ z) (total-tabulate f m (λ i. g (suc i))) ∙ sym (Σ_first m (λ i. f (g i)))

all_tabulate : {A : Type 0} (P : A → Type 0) (m : ℕ) (g : ℕ → A) → ((i : ℕ) → i < m → P (g i)) → All P (tabulate m g)
unfolding tabulate
all_tabulate P zero g h = tt
all_tabulate P (suc m) g h = (h 0 (omega arith), all_tabulate P m (λ i. g (suc i)) (λ i k. h (suc i) (omega arith)))

-- ---- the ends of a curve's chords
abbrev point : ℤ → ℤ → Point
point x y = record { x = x; y = y }

chord_first : (c : Curve) → chord_point c 0 ≡ point c.x0 c.y0
chord_first c = ap₂ point (chord_end_first c.x0 c.cx c.x1 (splits_of c)) (chord_end_first c.y0 c.cy c.y1 (splits_of c))

chord_last : (c : Curve) → chord_point c (2 ^ splits_of c) ≡ point c.x1 c.y1
chord_last c = ap₂ point (chord_end_last c.x0 c.cx c.x1 (splits_of c)) (chord_end_last c.y0 c.cy c.y1 (splits_of c))

-- ---- closed
module _ (f : ℤ → ℤ → ℤ) where
  abbrev value : Point → ℤ
  value p = f p.x p.y

  curve_gain : (c : Curve) → total (gain f) (chords_of (Curved c)) ≡ f c.x1 c.y1 -ℤ f c.x0 c.y0
  unfolding chords_of
  curve_gain c =
      total-tabulate (gain f) (2 ^ splits_of c) (λ i. edge_between (chord_point c i) (chord_point c (suc i)))
      ∙ Σ_telescope (2 ^ splits_of c) (λ i. value (chord_point c i))
      ∙ ap₂ (λ a b. value a -ℤ value b) (chord_last c) (chord_first c)

  side_gain : (b : Bool) (zs : List ℤ) (q : Point)
      → total (gain f) (chords_of (cond b (Straight (edge_between (point_at zs 0) q)) (Curved (curve_between (point_at zs 0) (point_at zs 1) q))))
      ≡ value q -ℤ value (point_at zs 0)
  unfolding total chords_of
  side_gain true zs q = ring (value q ∷ value (point_at zs 0) ∷ []) (search read depth 40) tt
  side_gain false zs q = curve_gain (curve_between (point_at zs 0) (point_at zs 1) q)

  from-gain : (first : Point) (ms : List ℕ) (zs : List ℤ) → total (gain f) (joined chords_of (sides_from first ms zs)) ≡ value first -ℤ value (start_or first ms zs)
  unfolding total joined sides_from
  from-gain first [] zs = ring (value first ∷ []) (search read depth 40) tt
  from-gain first (m ∷ ms) zs =
      let rest = drop (numbers_of m) zs in
      let q = start_or first ms rest in
      total_append (gain f) (chords_of (side_to m zs q)) (joined chords_of (sides_from first ms rest))
      ∙ ap₂ ◌+ℤ◌ (side_gain (eqb m 0) zs q) (from-gain first ms rest)
      ∙ ring (value first ∷ value q ∷ value (point_at zs 0) ∷ []) (search read depth 40) tt

  -- the last side ends where the first begins
  contour_gain : (c : MarkedContour) → total (gain f) (contour_chords c) ≡ pos 0
  contour_gain c = from-gain (point_at c.coordinates 0) c.marks c.coordinates ∙ none c.marks
    where
      none : (ms : List ℕ) → value (point_at c.coordinates 0) -ℤ value (start_or (point_at c.coordinates 0) ms c.coordinates) ≡ pos 0
      none [] = ring (value (point_at c.coordinates 0) ∷ []) (search read depth 40) tt
      none (m ∷ ms) = ring (value (point_at c.coordinates 0) ∷ []) (search read depth 40) tt

  outline_gain : (cs : List MarkedContour) → total (gain f) (outline_chords cs) ≡ pos 0
  unfolding total joined
  outline_gain [] = refl
  outline_gain (c ∷ cs) = total_append (gain f) (contour_chords c) (outline_chords cs) ∙ ap₂ ◌+ℤ◌ (contour_gain c) (outline_gain cs)

pub chords_closed : (cs : List MarkedContour) → ClosedEdges (outline_chords cs)
chords_closed cs = record { cancels = λ f. outline_gain f cs }

-- ---- on the tile
module _ (depth : ℕ) where
  chord_on : (c : Curve) → SideWithin (OnSide depth) (Curved c) → (i : ℕ) → i ≤ 2 ^ splits_of c → OnTile depth (chord_point c i)
  chord_on c w i h =
      let k = splits_of c in
      record {
        x_low = chord_end_low c.x0 c.cx c.x1 k i h w.0.0 w.1.0 w.2.0;
        x_high = chord_end_high c.x0 c.cx c.x1 k i h w.0.1 w.1.1 w.2.1;
        y_low = chord_end_low c.y0 c.cy c.y1 k i h w.3.0 w.4.0 w.5.0;
        y_high = chord_end_high c.y0 c.cy c.y1 k i h w.3.1 w.4.1 w.5.1;
      }

  pub chords_on : (s : Side) → SideWithin (OnSide depth) s → All (EdgeOnTile depth) (chords_of s)
  unfolding chords_of
  chords_on (Straight e) w = (
    record {
      start = record { x_low = w.0.0; x_high = w.0.1; y_low = w.1.0; y_high = w.1.1 };
      end = record { x_low = w.2.0; x_high = w.2.1; y_low = w.3.0; y_high = w.3.1 };
    },
    tt,
  )
  chords_on (Curved c) w =
      all_tabulate (EdgeOnTile depth) (2 ^ splits_of c) (λ i. edge_between (chord_point c i) (chord_point c (suc i)))
      (λ i h. record { start = chord_on c w i (omega arith); end = chord_on c w (suc i) h })

  pub contour_on : (c : MarkedContour) → Right (OnSide depth) c → All (EdgeOnTile depth) (contour_chords c)
  contour_on c h = all_joined chords_of (EdgeOnTile depth) (sides_of c) (all_map chords_on (sides_of c) (contour_within (OnSide depth) c h))

  pub chords_closed_on : (cs : List MarkedContour) → All (Right (OnSide depth)) cs → ClosedOnTile depth (outline_chords cs)
  chords_closed_on cs h = record { closed = chords_closed cs; on_tile = all_joined contour_chords (EdgeOnTile depth) cs (all_map contour_on cs h) }
