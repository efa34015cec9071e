-- The points and contours of a list of coordinates: how many they are, which coordinates they have, and that they are on the tile.
--
-- Main results
--   points_of-length              there are half as many points as coordinates
--   taken_points                  n of them in the first 2n coordinates
--   points_of_entry               point k has coordinates 2k and 2k + 1
--   contours_of-count             "The edges are as many as the points": the counts' sum
--   OnSide, points_on,
--   contours_of_on_tile           coordinates from 0 to the tile's width are those of points on the tile
use Rattle.std.specs.Prelude.{◌≡◌, refl, List, [], ◌∷◌, ℕ, zero, suc, ◌+◌, ◌*◌, ◌/◌, ◌<◌, ◌≤◌, length, get_or, take, drop, ℤ, pos, ◌≤ℤ◌}
use Rattle.std.proofs.Common.{◌∙◌, ap, ap₂, arith, length-drop, length-take-le}
use Rattle.integers.specs.ListSum.{All, tally}
use Rattle.integers.proofs.Theorems.ListSum.{all_take, all_drop}
use Rattle.accuracy.specs.Outline.{Point, points_of, point_at, contours_of, edge_count, outline_edges}
use Rattle.accuracy.specs.Tile.{cell_width, OnTile}
use Rattle.accuracy.proofs.Laws.Contours.{outline_edges-length}

-- ---- how many
pub points_of-length : (l : List ℤ) → length (points_of l) ≡ length l / 2
unfolding points_of
points_of-length [] = refl
points_of-length (x ∷ []) = refl
points_of-length (x ∷ y ∷ rest) = omega (arith, points_of-length rest)

pub taken_points : (n : ℕ) (l : List ℤ) → 2 * n ≤ length l → length (points_of (take (2 * n) l)) ≡ n
taken_points n l h = points_of-length (take (2 * n) l) ∙ ap (λ k. k / 2) (length-take-le (2 * n) l h) ∙ omega arith

point-count : (counts : List ℕ) (l : List ℤ) → 2 * edge_count counts ≤ length l → tally length (contours_of counts l) ≡ edge_count counts
unfolding contours_of tally
point-count [] l h = refl
point-count (n ∷ counts) l h = ap₂ ◌+◌ (taken_points n l (omega arith)) (point-count counts (drop (2 * n) l) (omega (arith, length-drop (2 * n) l)))

pub contours_of-count : (counts : List ℕ) (l : List ℤ) → 2 * edge_count counts ≤ length l → length (outline_edges (contours_of counts l)) ≡ edge_count counts
contours_of-count counts l h = outline_edges-length (contours_of counts l) ∙ point-count counts l h

-- ---- which
pub points_of_entry : (o : Point) (l : List ℤ) (k : ℕ) → k < length l / 2 → get_or (points_of l) k o ≡ point_at l k
unfolding points_of
points_of_entry o [] k h = absurd (omega arith)
points_of_entry o (x ∷ []) k h = absurd (omega arith)
points_of_entry o (x ∷ y ∷ rest) zero h = refl
points_of_entry o (x ∷ y ∷ rest) (suc k) h =
    let i : suc (suc (2 * k)) ≡ 2 * suc k = omega arith in
    let j : suc (suc (2 * k + 1)) ≡ 2 * suc k + 1 = omega arith in
    points_of_entry o rest k (omega arith) ∙ ap₂ (λ i j. record { x = get_or (x ∷ y ∷ rest) i (pos 0); y = get_or (x ∷ y ∷ rest) j (pos 0) }) i j

-- ---- on the tile
-- "A point has whole x and y from 0 to 256 × side, both ends allowed."
abbrev pub OnSide : ℕ → ℤ → Type 0
OnSide depth z = (pos 0 ≤ℤ z) × (z ≤ℤ pos (cell_width depth 0))

pub points_on : (depth : ℕ) (l : List ℤ) → All (OnSide depth) l → All (OnTile depth) (points_of l)
unfolding points_of
points_on depth [] p = tt
points_on depth (x ∷ []) p = tt
points_on depth (x ∷ y ∷ rest) p = (record { x_low = p.0.0; x_high = p.0.1; y_low = p.1.0.0; y_high = p.1.0.1 }, points_on depth rest p.1.1)

pub contours_of_on_tile : (depth : ℕ) (counts : List ℕ) (l : List ℤ) → All (OnSide depth) l → All (All (OnTile depth)) (contours_of counts l)
unfolding contours_of
contours_of_on_tile depth [] l p = tt
contours_of_on_tile depth (n ∷ counts) l p = (
  points_on depth (take (2 * n) l) (all_take (OnSide depth) (2 * n) l p),
  contours_of_on_tile depth counts (drop (2 * n) l) (all_drop (OnSide depth) (2 * n) l p),
)
