-- The picture has as many places as the level has cells.
use Rattle.haar_vectors.proofs.Tables.{level_picture}
use Rattle.haar_vectors.proofs.table.Table.figures.Goals as goal

pub figures-requires : goal.figures-requires
figures-requires c = level_picture c.args.self.now.drawable c.requires.0 c.requires.1
