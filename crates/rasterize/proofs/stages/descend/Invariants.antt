-- From cell to cell, as long as the edge lies in one quarter.
use Rattle.std.proofs.Common.{◌-◌}
use Rattle.rasterize.specs.Stages.{stage_node}
use Rattle.rasterize.proofs.Descending.{OnWay}
use Rattle.rasterize.proofs.stages.descend.Given as goal

abbrev pub invariant-loop-p : goal.invariant-loop-p
invariant-loop-p l = OnWay l.e (stage_node l.fn.start) (l.depth - l.fn.start.level) l.fn.table l.p l.table

abbrev pub decreases-loop-p : goal.decreases-loop-p
decreases-loop-p l = l.depth - l.p.level
