-- The edges of a side as a list.
--
-- Main results
--   straight_chords              a straight side is its own edge
--   curved_length                a curve has 2^k chords
--   chords_few, contour_few      at most 128 edges in any case; a contour has at most so many for each mark
--   chord_next                   the chord that is next, and those after it
use Rattle.std.specs.Prelude.{◌≡◌, refl, ℕ, suc, ◌+◌, ◌*◌, ◌^◌, ◌<◌, ◌≤◌, length, ℤ, pos}
use Rattle.std.proofs.Common.{sym, ◌∙◌, arith, add-one, length-append, pow_mono}
use Rattle.std.proofs.Math.Path.{ap, ap₂, subst⁻¹}
use mathlib.Core.List.{List, [], ◌∷◌}
use Rattle.std.proofs.Math.ListN.{drop}
use Rattle.std.proofs.Math.Seq.{drop-cons}
use Rattle.integers.specs.Units.{most_splits, most_chords}
use Rattle.integers.specs.ListSum.{joined}
use Rattle.edge.specs.declared.Edge.{Edge}
use Rattle.curve.specs.Curve.{bend}
use Rattle.curve.proofs.Laws.Splits.{splits_most}
use Rattle.haar.proofs.Laws.Pictures.{tabulate-length, tabulate_entry}
use Rattle.accuracy.specs.Outline.{Point, point_at, edge_between}
use Rattle.chords.specs.declared.Curve.{Curve}
use Rattle.chords.specs.declared.Side.{Side}
use Rattle.chords.specs.declared.Side.TheVariants.{Straight, Curved}
use Rattle.chords.specs.Sides.{numbers_of, side_to, start_or, sides_from, MarkedContour}
use Rattle.chords.specs.Chords.{splits_of, chord_point, chords_of, contour_chords}

pub straight_chords : (e : Edge) → chords_of (Straight e) ≡ e ∷ []
unfolding chords_of
straight_chords e = refl

module _ (c : Curve) where
  abbrev chord_at : ℕ → Edge
  chord_at i = edge_between (chord_point c i) (chord_point c (suc i))

  pub curved_length : length (chords_of (Curved c)) ≡ 2 ^ splits_of c
  unfolding chords_of
  curved_length = tabulate-length (2 ^ splits_of c) chord_at

  -- an edge that no list is asked for
  abbrev none : Edge
  none = record { x0 = pos 0; y0 = pos 0; x1 = pos 0; y1 = pos 0 }

  pub chord_next : (i : ℕ) → i < 2 ^ splits_of c
      → drop i (chords_of (Curved c)) ≡ edge_between (chord_point c i) (chord_point c (i + 1)) ∷ drop (i + 1) (chords_of (Curved c))
  unfolding chords_of
  chord_next i h =
      drop-cons (chords_of (Curved c)) i none (subst⁻¹ (λ n. i < n) curved_length h)
      ∙ ap₂ ◌∷◌ (tabulate_entry none (2 ^ splits_of c) chord_at i h ∙ ap (λ j. edge_between (chord_point c i) (chord_point c j)) (sym (add-one i)))
      (ap (λ n. drop n (chords_of (Curved c))) (sym (add-one i)))

pub chords_few : (s : Side) → length (chords_of s) ≤ most_chords
chords_few (Straight e) = omega (arith, ap length (straight_chords e))
chords_few (Curved c) =
    let most = splits_most (bend c.x0 c.cx c.x1) (bend c.y0 c.cy c.y1) in
    omega (arith, curved_length c, pow_mono {i = splits_of c} {j = most_splits} most)

from-few : (first : Point) (ms : List ℕ) (zs : List ℤ) → length (joined chords_of (sides_from first ms zs)) ≤ length ms * most_chords
unfolding joined sides_from
from-few first [] zs = omega arith
from-few first (m ∷ ms) zs =
    let rest = drop (numbers_of m) zs in
    let side = side_to m zs (start_or first ms rest) in
    omega (arith, length-append (chords_of side) (joined chords_of (sides_from first ms rest)), chords_few side, from-few first ms rest)

pub contour_few : (c : MarkedContour) → length (contour_chords c) ≤ length c.marks * most_chords
contour_few c = from-few (point_at c.coordinates 0) c.marks c.coordinates
