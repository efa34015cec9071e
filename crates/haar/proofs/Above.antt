-- What can be drawn at a level can be drawn above it.
--
-- Main results
--   root-inside, root_is        the root is in the table, and is the figure of level 0, as it is read
--   shallower                   a level above
--   cell_above                  a cell's parent
use mathlib.Core.Path.{◌≡◌, sym, ◌∙◌}
use mathlib.Core.List.{List}
use Prim.Native.Nat.{ℕ, suc, ◌/◌, ◌<◌, ◌≤◌}
use native.Mathlib.Omega.{arith}
use native.Mathlib.Nat.{pow-succ', one-le-pow, pow-le-pow_right}
use lib.ListN.{length, get_or}
use lib.IntN.{ℤ, pos}
use Rattle.integers.specs.Bits.{back}
use Rattle.integers.proofs.Theorems.Bits.{back_is}
use Rattle.haar.specs.Cells.{children}
use Rattle.haar.specs.Table.{stored}
use Rattle.haar.specs.Plane.{dimensions, figure_in}
use Rattle.haar.specs.Drawable.{Drawable, DrawableCell}
use Rattle.haar.proofs.Laws.Quarters.{figure-top}

pub root-inside : {entries : List ℤ} {level : ℕ} → Drawable entries level → 0 < length entries
root-inside {level = level} d = omega (arith, d.long, one-le-pow level (children dimensions) (omega arith))

pub root_is : {entries : List ℤ} {level : ℕ} → Drawable entries level → (cx cy : ℕ) → back (get_or entries 0 (pos 0)) ≡ figure_in entries 0 cx cy
root_is {entries} d cx cy = back_is tt (d.in_range_lem.each 0) ∙ sym (figure-top (stored dimensions entries) cx cy)

pub shallower : {entries : List ℤ} {level j : ℕ} → Drawable entries level → j ≤ level → Drawable entries j
shallower d h = record {
  shallow = omega (arith, d.shallow);
  long = omega (arith, d.long, pow-le-pow_right {n = children dimensions} (omega arith) h);
  in_range_lem = d.in_range_lem;
}

pub cell_above : {entries : List ℤ} {level cx cy : ℕ} → DrawableCell entries (suc level) cx cy → DrawableCell entries level (cx / 2) (cy / 2)
cell_above {level = level} d =
    record { drawable = shallower d.drawable (omega arith); x_below = omega (arith, d.x_below, pow-succ' 2 level); y_below = omega (arith, d.y_below, pow-succ' 2 level) }
