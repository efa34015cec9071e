-- The cells of a tile as squares: a cell of the next level is a quarter of its parent.
--
-- Main results
--   cell_width-halves            a cell's width is twice that of the next level
--   square-quarter               so a cell's square is a quarter of its parent's
--   square-tile                  the cell of level 0 is the tile
use Rattle.std.specs.Prelude.{◌≡◌, [], ◌∷◌, ℕ, suc, ◌*◌, ◌-◌, ◌/◌, ◌%◌, ◌^◌, ◌<◌, pos, negsuc, ◌+ℤ◌, ◌*ℤ◌}
use Rattle.std.proofs.Common.{◌∙◌, ap, ap₂, arith, zero-mul}
use Rattle.std.proofs.Math.Nat.{pow-succ', div-add-mod}
use Rattle.integers.specs.Units.{steps_per_pixel}
use Rattle.integers.proofs.Theorems.Ring.{read, comb, ◌⊕◌, ◌⊗◌}
use Rattle.haar.specs.Plane.{at}
use Rattle.accuracy.specs.Tile.{cell_width, square, tile}
use Rattle.edge.specs.Nested.{quarter}

pub cell_width-halves : (depth j : ℕ) → j < depth → pos (cell_width depth j) ≡ pos (cell_width depth (suc j)) +ℤ pos (cell_width depth (suc j))
cell_width-halves depth j h =
    let e : depth - j ≡ suc (depth - suc j) = omega arith in
    ap (λ k. pos (steps_per_pixel * 2 ^ k)) e ∙ ap pos (omega (arith, pow-succ' 2 (depth - suc j)))

-- one direction: c widths of the next level are c / 2 widths of this one, and c % 2 of the next
side_quarter : (depth j c : ℕ) → j < depth → pos (c * cell_width depth (suc j)) ≡ pos (c / 2 * cell_width depth j) +ℤ pos (c % 2) *ℤ pos (cell_width depth (suc j))
side_quarter depth j c h =
    let m = cell_width depth (suc j) in
    comb (pos c ∷ pos m ∷ pos (cell_width depth j) ∷ pos (c / 2) ∷ pos (c % 2) ∷ [])
    ((negsuc 0 *ℤ pos m) ⊗ ap pos (div-add-mod c 2) ⊕ (negsuc 0 *ℤ pos (c / 2)) ⊗ cell_width-halves depth j h) (search read depth 40) tt

pub square-quarter : (depth j cx cy : ℕ) → j < depth
    → square depth (suc j) (at cx cy) ≡ quarter (square depth j (at (cx / 2) (cy / 2))) (pos (cell_width depth (suc j))) (cx % 2) (cy % 2)
square-quarter depth j cx cy h =
    ap₂ (λ l t. record { left = l; top = t; width = pos (cell_width depth (suc j)) }) (side_quarter depth j cx h) (side_quarter depth j cy h)

pub square-tile : (depth : ℕ) → square depth 0 (at 0 0) ≡ tile depth
square-tile depth = ap (λ n. record { left = pos n; top = pos n; width = pos (cell_width depth 0) }) (zero-mul (cell_width depth 0))
