-- The levels left go down at each call; the loop has added what the first q quarters on the way add.
use Rattle.std.proofs.Common.{◌-◌}
use Rattle.rasterize.proofs.SlantedLoop.{SlantedLoop}
use Rattle.rasterize.proofs.cells.+add_slanted.Given as goal

abbrev pub decreases-add_slanted : goal.decreases-add_slanted
decreases-add_slanted l = l.left

abbrev pub invariant-loop-q : goal.invariant-loop-q
invariant-loop-q l = SlantedLoop l.l l.p l.k (l.left - 1) l.initial.table l.table l.q
