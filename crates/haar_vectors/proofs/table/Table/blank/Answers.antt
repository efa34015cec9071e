-- Noughts are a table of depth 0.
use Rattle.std.proofs.Common.{refl, arith}
use Rattle.haar_vectors.proofs.Tables.{blank_drawable}
use Rattle.haar_vectors.proofs.table.Table.blank.Goals as goal

pub invariant_of-result : goal.invariant_of-result
invariant_of-result c = record { drawable = blank_drawable 4096 refl (omega arith) }
