-- The cells across, squared.
use Rattle.std.proofs.Common.{ap, ◌∙◌, ◌*◌}
use Rattle.haar.proofs.Laws.Cells.{level_square}
use Rattle.haar_vectors.proofs.table.cells.Goals as goal

pub returns : goal.returns
returns c = ap (λ n. n * n) c.cells_across-n.ensures ∙ level_square c.args.level
