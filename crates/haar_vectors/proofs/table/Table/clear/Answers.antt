-- Noughts are a table of that depth.
use Rattle.std.proofs.Common.{refl}
use Rattle.haar_vectors.proofs.Tables.{blank_drawable}
use Rattle.haar_vectors.proofs.table.Table.clear.Goals as goal

pub invariant_of-self : goal.invariant_of-self
invariant_of-self c = record { drawable = blank_drawable 4096 refl c.requires }
