-- The list goes on after what was read, so each turn leaves less of it.
use Rattle.std.proofs.Common.{◌≤◌, ◌-◌, length}
use Rattle.tile_program.proofs.read_full.Given as goal

abbrev pub invariant-loop-done : goal.invariant-loop-done
invariant-loop-done g l = l.done ≤ length l.list

abbrev pub decreases-loop-done : goal.decreases-loop-done
decreases-loop-done g l = length l.list - l.done
