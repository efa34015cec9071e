-- What is not refused can be drawn.
use Rattle.std.proofs.Common.{length, sym}
use Rattle.tile.proofs.Laws.Answers.{drawable-picture}
use Rattle.tile.proofs.figures.Goals as goal

pub figures-requires : goal.figures-requires
figures-requires c = drawable-picture c.args.side c.args.level c.args.table.now (length c.args.picture.now) (sym c.in_ok-draw_refusal.ensures)
