-- How far past a line the walk is after t steps, `scale` times over: both products and their sum stay in range.
use Rattle.std.proofs.Common.{◌+◌, ◌*◌, ◌+ℤ◌, ◌-ℤ◌, ◌*ℤ◌}
use Rattle.integers.specs.Bits.{back}
use Rattle.integers.specs.Held.{Held}
use Rattle.integers.proofs.Theorems.Held.{held_number, held-add, held-mul, held_fits, held_back}
use Rattle.edge.specs.Walk.{beyond}
use Rattle.edge.specs.Room.{extent_limit, crossing_limit}
use Rattle.edge.proofs.Sizes.{difference}
use Rattle.edge.proofs.AxisNumbers.{scale_held, sign-held}
use Rattle.edge.proofs.Across.beyond.Goals as goal
use Rattle.edge.proofs.Across.beyond.Goals.{Start}

module _ (c : Start) where
  start : Held (extent_limit * extent_limit) (back c.args.self.axis.scale *ℤ back (back c.args.self.axis.start -ℤ back c.args.self.side))
      (c.args.self.axis.scale *ℤ (c.args.self.axis.start -ℤ c.args.self.side))
  start = let r = c.args.self.room in held-mul (scale_held r) (held_back tt (difference r.line r.start))

  sum : Held (extent_limit * extent_limit + 1 * crossing_limit)
      (back (back c.args.self.axis.scale *ℤ back (back c.args.self.axis.start -ℤ back c.args.self.side)) +ℤ back (back c.args.self.axis.sign *ℤ back c.args.t))
      (beyond c.args.self.axis c.args.self.side c.args.t)
  sum = held-add (held_back tt start) (held_back tt (held-mul (sign-held c.args.self.room) (held_number tt c.requires)))

pub overflow_mul-result : goal.overflow_mul-result
overflow_mul-result c = held_fits tt (start (goal.at.overflow_mul-result c).Start)

pub overflow_add-result : goal.overflow_add-result
overflow_add-result c = held_fits tt (sum (goal.at.overflow_add-result c).Start)

pub returns : goal.returns
returns c = (held_back tt (sum (goal.at.returns c).Start)).is
