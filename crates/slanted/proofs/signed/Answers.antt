-- Two numbers with their signs, and one as it is.
use Rattle.std.proofs.Common.{to_z-of_z}
use Rattle.integers.proofs.Theorems.Held.{held_number, held-mul, held-neg, held_back}
use Rattle.edge.proofs.Lemmas.Records.{details-eq}
use Rattle.slanted.proofs.signed.Goals as goal

pub returns : goal.returns
returns c =
    let r = c.requires in
    details-eq
    (held_back tt (held-mul (held_number tt r.1) (held_number tt r.2))).is
    (held_back tt (held-neg (held_back tt (held-mul (held_number tt r.0) (held_number tt r.3))))).is
    (to_z-of_z c.ranges.d)
