-- The points so far, and those of the marks that are left.
use Rattle.std.proofs.Common.{◌≡◌, ◌+◌, ◌*◌, ◌≤◌, drop}
use Rattle.chords.specs.Sides.{numbers}
use Rattle.chords.proofs.marked.points_of.Given as goal

abbrev pub invariant-loop-mark : goal.invariant-loop-mark
invariant-loop-mark l = record { all : 2 * l.sum + numbers (drop l.mark-index l.marks) ≡ numbers l.marks; few : l.sum ≤ 2 * l.mark-index }
