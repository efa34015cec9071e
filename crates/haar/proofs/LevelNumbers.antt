-- How large the numbers of a level are whose cells have children, so that the machine's sums and products of them fit.
--
-- Main results
--   LevelNumbers, level_numbers       the cells across, and their square
use mathlib.Core.Path.{◌≡◌, ◌∙◌, ap₂}
use Prim.Native.Nat.{ℕ, ◌*◌, ◌-◌, ◌^◌, ◌<◌, ◌≤◌}
use native.Mathlib.Omega.{arith}
use native.Mathlib.Nat.{mul-le-mul}
use lib.Pow.{pow_mono}
use Rattle.integers.specs.Units.{greatest_depth}
use Rattle.haar.specs.Cells.{children}
use Rattle.haar.specs.Plane.{dimensions}
use Rattle.haar.specs.Pairs.{scale_limit}
use Rattle.haar.proofs.Laws.Cells.{level_square}

pub record LevelNumbers (level n : ℕ) : Type 0 where
  pub across : n ≤ 2 ^ (greatest_depth - 1)
  pub square : n * n ≡ children dimensions ^ level
  pub few : n * n ≤ scale_limit

pub level_numbers : {level n : ℕ} → level < greatest_depth → n ≡ 2 ^ level → LevelNumbers level n
level_numbers {level} {n} h e =
    let g : n ≤ 2 ^ (greatest_depth - 1) = omega (arith, pow_mono {i = level} {j = greatest_depth - 1} (omega arith)) in
    record { across = g; square = ap₂ ◌*◌ e e ∙ level_square level; few = mul-le-mul g g }
