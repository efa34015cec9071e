-- Two products of coordinates, and their difference.
use Rattle.std.proofs.Common.{◌+◌, ◌*◌, ℤ, pos, ◌-ℤ◌, ◌*ℤ◌}
use Rattle.integers.specs.Within.{Within}
use Rattle.integers.specs.Bits.{back}
use Rattle.integers.specs.Held.{Held}
use Rattle.integers.proofs.Theorems.Held.{held_number, held_sub, held-mul, held_fits, held_back}
use Rattle.edge.specs.declared.Edge.{Edge}
use Rattle.edge.specs.Room.{coordinate_limit, Measured}
use Rattle.edge.specs.Rounded.{root_term}
use Rattle.rasterize.proofs.root_term.Goals as goal

product : {x y : ℤ} → Within (pos coordinate_limit) x → Within (pos coordinate_limit) y → Held (coordinate_limit * coordinate_limit) (back x *ℤ back y) (x *ℤ y)
product i j = held-mul (held_number tt i) (held_number tt j)

term : {e : Edge} → Measured e
    → Held (coordinate_limit * coordinate_limit + coordinate_limit * coordinate_limit)
    (back (back e.x0 *ℤ back e.y1) -ℤ back (back e.x1 *ℤ back e.y0)) (root_term e)
unfolding root_term
term m = held_sub (held_back tt (product m.x0 m.y1)) (held_back tt (product m.x1 m.y0))

pub overflow_mul-result : goal.overflow_mul-result
overflow_mul-result c = held_fits tt (product c.requires.x0 c.requires.y1)

pub overflow_mul-result-2 : goal.overflow_mul-result-2
overflow_mul-result-2 c = held_fits tt (product c.requires.x1 c.requires.y0)

pub overflow_sub-result : goal.overflow_sub-result
overflow_sub-result c = held_fits tt (term c.requires)

pub returns : goal.returns
returns c = (held_back tt (term c.requires)).is
