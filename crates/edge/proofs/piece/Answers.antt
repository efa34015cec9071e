-- Twice a trapezoid: a sum, a difference and their product, all in range.
use Rattle.std.proofs.Common.{◌+◌, ◌*◌, ◌+ℤ◌, ◌-ℤ◌, ◌*ℤ◌}
use Rattle.integers.specs.Units.{width_times_extent_limit}
use Rattle.integers.specs.Bits.{back}
use Rattle.integers.specs.Held.{Held}
use Rattle.integers.proofs.Theorems.Held.{held_number, held-add, held_sub, held-mul, held_fits, held_back}
use Rattle.edge.proofs.piece.Goals as goal

product : (c : goal.Start) → Held ((width_times_extent_limit + width_times_extent_limit) * (width_times_extent_limit + width_times_extent_limit))
    (back (back c.args.f0 +ℤ back c.args.f1) *ℤ back (back c.args.g1 -ℤ back c.args.g0)) ((c.args.f0 +ℤ c.args.f1) *ℤ (c.args.g1 -ℤ c.args.g0))
product c =
    let p = c.requires in
    held-mul (held_back tt (held-add (held_number tt p.0) (held_number tt p.1))) (held_back tt (held_sub (held_number tt p.3) (held_number tt p.2)))

pub overflow_mul-result : goal.overflow_mul-result
overflow_mul-result c = held_fits tt (product c)

pub returns : goal.returns
returns c = (held_back tt (product c)).is
