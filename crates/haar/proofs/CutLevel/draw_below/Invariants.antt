-- From the last row of parents to the first.
use Rattle.std.proofs.Common.{pos}
use Rattle.haar.proofs.NextLevel.{LevelBelow}
use Rattle.haar.proofs.CutLevel.draw_below.Given as goal

abbrev pub invariant-loop-y : goal.invariant-loop-y
invariant-loop-y g l = LevelBelow (g.D.Drawing.shade l.drawing) (g.D.Drawing.shade l.drawing (pos 0)) l.self.table.now l.self.level l.initial.picture l.picture l.y
