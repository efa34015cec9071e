-- From the root to the level that is asked for.
use Rattle.std.proofs.Common.{◌≡◌, ◌≤◌, length}
use Rattle.haar.specs.Levels.{HasFigures}
use Rattle.haar.proofs.figures_to.Given as goal

abbrev pub invariant-loop-j : goal.invariant-loop-j
invariant-loop-j l = record { figures : HasFigures l.table l.j l.picture; same_length : length l.picture ≡ length l.initial.picture; within : l.j ≤ l.level }
