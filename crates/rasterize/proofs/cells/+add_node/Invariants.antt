-- The levels left go down at each call; the loop has added what the first q quarters add.
use Rattle.std.proofs.Common.{◌-◌}
use Rattle.rasterize.proofs.QuarterLoop.{QuarterLoop, as_numbered}
use Rattle.rasterize.proofs.cells.+add_node.Given as goal

abbrev pub decreases-add_node : goal.decreases-add_node
decreases-add_node l = l.left

abbrev pub invariant-loop-q : goal.invariant-loop-q
invariant-loop-q l = QuarterLoop as_numbered l.walk.edge l.c (l.left - 1) l.initial.table l.table l.q
