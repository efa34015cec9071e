-- The square begins x widths from the left side, and y from the top.
use Rattle.std.proofs.Common.{ap, ap₂, ◌∙◌, ℕ, ◌<◌, ◌≤◌, ◌*◌, ◌^◌, pos, ◌*ℤ◌, w64, to_z, arith}
use Rattle.std.proofs.lemmas.Int.{to_z_pos}
use Rattle.integers.specs.Units.{greatest_side}
use Rattle.integers.proofs.Theorems.Order.{nonneg, pos-≤ℤ}
use Rattle.integers.proofs.Theorems.Within.{within_le, within_self}
use Rattle.integers.specs.Held.{Held}
use Rattle.integers.proofs.Theorems.Held.{held-mul, held_fits, held_back}
use Rattle.edge.specs.Room.{coordinate_limit}
use Rattle.rasterize.specs.declared.stages.Stage.{Stage}
use Rattle.rasterize.specs.Stages.{StageRoom}
use Rattle.rasterize.proofs.Laws.Stages.{stage_few}
use Rattle.rasterize.proofs.stages.Stage.node.Goals as goal

number : {n b : ℕ} → b < 2 ^ 63 → n ≤ b → Held b (to_z w64 n) (pos n)
number {n} f h = record { is = to_z_pos w64 n (omega arith); within = within_le (pos-≤ℤ h) (within_self (nonneg n)) }

module _ {p : Stage} (r : StageRoom p) where
  width : Held coordinate_limit (to_z w64 p.width) (pos p.width)
  width = number (omega arith) r.wide

  side : {n : ℕ} → n < 2 ^ p.level → Held (greatest_side * coordinate_limit) (to_z w64 n *ℤ to_z w64 p.width) (pos n *ℤ pos p.width)
  side h = held-mul {a = greatest_side} (number (omega arith) (omega (arith, stage_few h r.shallow))) width

pub overflow_mul-result : goal.overflow_mul-result
overflow_mul-result c = held_fits tt (side c.requires c.requires.x_below)

pub overflow_mul-result-2 : goal.overflow_mul-result-2
overflow_mul-result-2 c = held_fits tt (side c.requires c.requires.y_below)

pub returns : goal.returns
returns c =
    let a = c.args.self in
    let r = c.requires in
    ap₂ (λ l t. record { level = a.level; x = a.x; y = a.y; square = record { left = l; top = t; width = to_z w64 a.width } })
    (held_back tt (side r r.x_below)).is (held_back tt (side r r.y_below)).is
    ∙ ap (λ w. record { level = a.level; x = a.x; y = a.y; square = record { left = pos a.x *ℤ pos a.width; top = pos a.y *ℤ pos a.width; width = w } })
    (width r).is
