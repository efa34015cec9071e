-- The cell is one of its level.
use Rattle.std.proofs.Common.{rules}
use Rattle.haar_vectors.proofs.Tables.{level_cell}
use Rattle.haar_vectors.proofs.table.Table.figure.Goals as goal

pub figure_at-requires : goal.figure_at-requires
figure_at-requires c =
    level_cell c.args.self.now.drawable (search rules) c.cells_across-n.ensures c.if-x-n.true c.if-y-n.true
