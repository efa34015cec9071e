-- The cells across, squared, are the level's cells.
use Rattle.std.proofs.Common.{◌*◌, eqb, ◌∙◌, ap, ap₂}
use Rattle.haar.proofs.Laws.Cells.{level_square}
use Rattle.tile.proofs.is_picture.Goals as goal

pub returns : goal.returns
returns c = let e = c.cells_across-n.ensures in ap (eqb c.args.size) (ap₂ ◌*◌ e e ∙ level_square c.args.level)
