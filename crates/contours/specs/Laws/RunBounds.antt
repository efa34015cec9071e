-- How large the areas and details of a run are, in a cell that is narrow.
--
-- Main results
--   narrow_cell                  the cells of the three deepest levels are narrow
--   triangle_small               a triangle in a narrow cell has an area within 2^21
--   part_small                   the details of a run in a narrow cell, in any cell of the tile, are within its area and 2^24
--   above_small                  so they are in the cells above it
use Rattle.std.specs.Prelude.{◌≡◌, refl, [], ◌∷◌, ℕ, ◌+◌, ◌*◌, ◌-◌, ◌/◌, ◌^◌, ◌<◌, ◌≤◌, ℤ, pos, ◌+ℤ◌, ◌-ℤ◌, ◌*ℤ◌}
use Rattle.std.proofs.Common.{arith, mul-le-mul, mul-le-mul_left, pow_mono}
use Rattle.integers.specs.Units.{steps_per_pixel, greatest_depth, greatest_coordinate}
use Rattle.integers.proofs.Theorems.Ring.{read, ring}
use Rattle.integers.proofs.Theorems.Order.{nonneg, pos-≤ℤ}
use Rattle.integers.specs.HalfSign.{half_sign}
use Rattle.integers.proofs.Theorems.HalfSign.{half_sign_cases}
use Rattle.integers.specs.Within.{Within}
use Rattle.integers.proofs.Theorems.Within.{within_le, within_is, within_add, within_sub, within_mul, within_sign}
use Rattle.edge.specs.declared.Edge.{Edge}
use Rattle.edge.specs.declared.Cell.{Cell as Square}
use Rattle.edge.specs.declared.Details.{Details}
use Rattle.edge.specs.Rounded.{details, root_term, DetailsWithin}
use Rattle.edge.specs.Nested.{OnCell}
use Rattle.edge.proofs.Laws.Cells.{difference_on, details_on}
use Rattle.haar.specs.Plane.{at}
use Rattle.accuracy.specs.Outline.{Point, edge_between}
use Rattle.accuracy.specs.Tile.{cell_width, square}
use Rattle.rasterize.specs.Nodes.{node_at}
use Rattle.contours.specs.Runs.{ancestor, half_at, with_area, widest_run, triangle}

pub narrow_cell : (depth K : ℕ) → depth ≤ K + 2 → cell_width depth K ≤ widest_run
narrow_cell depth K h = omega (arith, pow_mono {i = depth - K} {j = 2} (omega arith))

-- ---- areas
-- two products of differences
as_product : (s m t : Point) → (m.x -ℤ s.x) *ℤ (t.y -ℤ m.y) -ℤ (t.x -ℤ m.x) *ℤ (m.y -ℤ s.y) ≡ triangle s m t
unfolding root_term
as_product s m t = ring (s.x ∷ s.y ∷ m.x ∷ m.y ∷ t.x ∷ t.y ∷ []) (search read depth 40) tt

triangle_within : {c : Square} {s m t : Point} → OnCell c (edge_between s m) → OnCell c (edge_between m t)
    → Within (c.width *ℤ c.width +ℤ c.width *ℤ c.width) (triangle s m t)
triangle_within {c} {s} {m} {t} o p =
    within_is refl (as_product s m t)
    (within_sub (within_mul (difference_on o.x0 o.x1) (difference_on p.y0 p.y1)) (within_mul (difference_on p.x0 p.x1) (difference_on o.y0 o.y1)))

pub triangle_small : (depth K x y : ℕ) {s m t : Point} → cell_width depth K ≤ widest_run → OnCell (square depth K (at x y)) (edge_between s m)
    → OnCell (square depth K (at x y)) (edge_between m t) → Within (pos (2 ^ 21)) (triangle s m t)
triangle_small depth K x y h o p =
    let w = cell_width depth K in
    let most : w * w + w * w ≤ 2 ^ 21 = omega (arith, mul-le-mul h h) in
    within_le (pos-≤ℤ most) (triangle_within o p)

-- ---- details
-- an area in either sign
signed_within : {b : ℕ} {a : ℤ} → Within (pos b) a → (i : ℕ) → i < 2 → Within (pos b) (half_sign i *ℤ a)
signed_within h i k = within_sign (half_sign_cases i k) h

area_within : {b n : ℕ} {a : ℤ} {w : Details} → DetailsWithin (pos n) w → Within (pos b) a → (i j : ℕ) → i < 2 → j < 2 → DetailsWithin (pos (n + b)) (with_area w a i j)
area_within {b} {n} {a} {w} d h i j k l = record {
  h = within_add d.h (signed_within h i k);
  v = within_add d.v (signed_within h j l);
  d = within_add d.d (within_is refl (ring (a ∷ pos i ∷ pos j ∷ []) (search read depth 40) tt) (signed_within (signed_within h j l) i k));
}

pub part_small : {depth : ℕ} {e : Edge} {b : ℕ} {a : ℤ} (K x y : ℕ) → depth ≤ greatest_depth → cell_width depth K ≤ widest_run
    → OnCell (square depth K (at x y)) e → Within (pos b) a → (j X Y u v : ℕ) → u < 2 → v < 2
    → DetailsWithin (pos (2 ^ 24 + b)) (with_area (details e (node_at depth j X Y).square) a u v)
part_small {depth} K x y shallow h o small j X Y u v k l =
    area_within (details_on (node_at depth j X Y).square o (nonneg (cell_width depth j)) (pos-≤ℤ most)) small u v k l
  where
    wide : cell_width depth j ≤ greatest_coordinate
    wide = mul-le-mul_left steps_per_pixel (pow_mono {i = depth - j} {j = greatest_depth} (omega arith))

    most : cell_width depth K * cell_width depth j ≤ 2 ^ 24
    most = omega (arith, mul-le-mul h wide)

pub above_small : {depth : ℕ} {e : Edge} {b : ℕ} {a : ℤ} (K x y : ℕ) → depth ≤ greatest_depth → cell_width depth K ≤ widest_run
    → OnCell (square depth K (at x y)) e → Within (pos b) a → (j : ℕ)
    → DetailsWithin (pos (2 ^ 24 + b)) (with_area (details e (ancestor depth K x y j).square) a (half_at K x j) (half_at K y j))
above_small K x y shallow h o small j =
    part_small K x y shallow h o small j (x / 2 ^ (K - j)) (y / 2 ^ (K - j)) (half_at K x j) (half_at K y j) (omega arith) (omega arith)
