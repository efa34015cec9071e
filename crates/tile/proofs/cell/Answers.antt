-- What is not refused can be drawn.
use Rattle.std.proofs.Common.{sym}
use Rattle.tile.proofs.Laws.Answers.{drawable-cell}
use Rattle.tile.proofs.cell.Goals as goal

pub figure_at-requires : goal.figure_at-requires
figure_at-requires c = drawable-cell c.args.side c.args.level c.args.cx c.args.cy c.args.table.now (sym c.in_ok-cell_refusal.ensures)
