-- Half of a square's width; and the quarters of a cell of the tile, which are cells of the tile, one level down.
--
-- Main results
--   few                           a cell's numbers are below the deepest level's
--   half_width_is                 a number that is not negative, and twice which is the width, is half of it
--   quarter_node_at               quarter q of cell (x, y) is cell (2 x + q % 2, 2 y + q / 2) of the next level
--   quarter-below                 in each direction a quarter's number is one of the next level's
use Rattle.std.specs.Prelude.{◌≡◌, ℕ, suc, ◌+◌, ◌*◌, ◌/◌, ◌%◌, ◌^◌, ◌<◌, ℤ, pos, negsuc, nat_abs, ◌+ℤ◌, ◌≤ℤ◌}
use Rattle.std.proofs.Common.{sym, ◌∙◌, ap, ap₂, arith, pow_mono}
use Rattle.std.proofs.Math.Nat.{pow-succ'}
use Rattle.integers.specs.Units.{greatest_depth, greatest_side}
use Rattle.integers.proofs.Theorems.Order.{nonneg}
use Rattle.edge.specs.declared.Cell.{Cell as Square}
use Rattle.edge.specs.Nested.{quarter}
use Rattle.haar.specs.Plane.{at}
use Rattle.accuracy.specs.Tile.{cell_width, square}
use Rattle.accuracy.proofs.Laws.Squares.{cell_width-halves, square-quarter}
use Rattle.rasterize.specs.declared.Node.{Node}
use Rattle.rasterize.specs.Nodes.{quarters, half_width, quarter_node, node_at}

pub few : {n level : ℕ} → n < 2 ^ level → level < greatest_depth → n < greatest_side
few {n} {level} h k = omega (arith, pow_mono {i = level} {j = greatest_depth} (omega arith))

pub half_width_is : (s : Square) (h : ℤ) → s.width ≡ h +ℤ h → pos 0 ≤ℤ h → h ≡ half_width s
half_width_is s (pos n) e h = sym (ap (λ w. pos (nat_abs w / 2)) e ∙ ap pos (omega arith))
half_width_is s (negsuc n) e h = absurd h.le

pub quarter_node_at : (depth j x y q : ℕ) → j < depth → q < quarters
    → quarter_node (node_at depth j x y) q ≡ node_at depth (suc j) (2 * x + q % 2) (2 * y + q / 2)
quarter_node_at depth j x y q h k =
    let across : (2 * x + q % 2) / 2 ≡ x = omega arith in
    let down : (2 * y + q / 2) / 2 ≡ y = omega arith in
    let right : (2 * x + q % 2) % 2 ≡ q % 2 = omega arith in
    let low : (2 * y + q / 2) % 2 ≡ q / 2 = omega arith in
    sym (ap node (square-quarter depth j (2 * x + q % 2) (2 * y + q / 2) h
    ∙ ap₂ (λ a b. part a b (pos w) ((2 * x + q % 2) % 2) ((2 * y + q / 2) % 2)) across down
    ∙ ap₂ (part x y (pos w)) right low
    ∙ ap (λ z. part x y z (q % 2) (q / 2)) (half_width_is (square depth j (at x y)) (pos w) (cell_width-halves depth j h) (nonneg w))))
  where
    w : ℕ
    w = cell_width depth (suc j)

    node : Square → Node
    node s = record { level = suc j; x = 2 * x + q % 2; y = 2 * y + q / 2; square = s }

    part : ℕ → ℕ → ℤ → ℕ → ℕ → Square
    part a b half c d = quarter (square depth j (at a b)) half c d

-- b is 0 for the first half, 1 for the second
pub quarter-below : (j : ℕ) {x b : ℕ} → x < 2 ^ j → b < 2 → 2 * x + b < 2 ^ suc j
quarter-below j h k = omega (arith, pow-succ' 2 j)
