-- A level that was not refused is no deeper than a tile can be.
use Rattle.tile.proofs.Laws.Answers.{level_shallow}
use Rattle.tile.proofs.cell_refusal.Goals as goal

pub is_cell-requires : goal.is_cell-requires
is_cell-requires c = level_shallow c.args.side c.args.level c.args.table.now c.in_ok-level_refusal.ensures
