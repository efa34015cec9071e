-- From the last cell of the row to the first.
use Rattle.std.proofs.Common.{pos}
use Rattle.haar.specs.Levels.{RowsBelow}
use Rattle.haar.proofs.CutLevel.draw_rows.Given as goal

abbrev pub invariant-loop-x : goal.invariant-loop-x
invariant-loop-x g l = RowsBelow (g.D.Drawing.shade l.drawing) (g.D.Drawing.shade l.drawing (pos 0)) l.self.table.now l.self.level l.y l.initial.picture l.picture l.x
