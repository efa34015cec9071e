-- Each row of parents is still where it was, and above them are the rows that are drawn.
use Rattle.std.proofs.Common.{arith}
use Rattle.haar.proofs.NextLevel.{level_step, level_entry}
use Rattle.haar.proofs.CutLevel.draw_below.Goals as goal

pub loop-y-preserved : goal.loop-y-preserved
loop-y-preserved g c = level_step c.loop-y-test.true c.loop-y.invariant c.draw_rows.ensures

pub returns-clause-drawn : goal.returns-clause-drawn
returns-clause-drawn g c = record { entry = level_entry c.loop-y.invariant (omega arith) }
