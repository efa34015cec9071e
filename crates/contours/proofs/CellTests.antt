-- What `is_on_cell` tells of a point whose coordinates are read back from their bits.
use mathlib.Core.Path.{subst}
use mathlib.Core.Bool.{Bool}
use lib.IntN.{ℤ, pos}
use Rattle.integers.specs.Within.{Within}
use Rattle.integers.specs.Bits.{back}
use Rattle.integers.proofs.Theorems.Bits.{back_is}
use Rattle.edge.specs.declared.Cell.{Cell as Square}
use Rattle.edge.specs.Room.{coordinate_limit}
use Rattle.edge.specs.Nested.{OnRange}
use Rattle.edge.specs.WalkOf.{Decides}

pub on_back : {b : Bool} (c : Square) {x y : ℤ} → Within (pos coordinate_limit) x → Within (pos coordinate_limit) y
    → Decides b (OnRange c.left c.width (back x) × OnRange c.top c.width (back y)) → Decides b (OnRange c.left c.width x × OnRange c.top c.width y)
on_back {b} c {x} {y} i j d =
    subst (λ z. Decides b (OnRange c.left c.width x × OnRange c.top c.width z)) (back_is tt j)
    (subst (λ z. Decides b (OnRange c.left c.width z × OnRange c.top c.width (back y))) (back_is tt i) d)
