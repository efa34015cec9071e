-- Each place of the level is that of a cell.
use Rattle.haar_vectors.proofs.Tables.{level_cell}
use Rattle.haar_vectors.proofs.table.Table.figures_alone.Goals as goal

pub figure_at-requires : goal.figure_at-requires
figure_at-requires c =
    level_cell c.args.self.now.drawable c.requires c.cells_across-n.ensures c.loop-x-test.true c.loop-y-test.true
