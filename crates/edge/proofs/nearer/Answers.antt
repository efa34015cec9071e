-- The smaller of both distances.
use Rattle.std.proofs.Common.{to_z-of_z}
use Rattle.integers.proofs.Theorems.Held.{held_number, held_sub, held_back}
use Rattle.edge.proofs.Laws.Methods.{min-answer}
use Rattle.edge.proofs.nearer.Goals as goal

pub returns : goal.returns
returns c =
    let p = c.requires in
    min-answer c.min.type_inv c.min.ensures.value (to_z-of_z c.ranges.u) (held_back tt (held_sub (held_number tt p.0) (held_number tt p.1))).is
