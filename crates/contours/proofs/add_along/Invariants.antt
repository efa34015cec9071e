-- The run so far, whose edges are the ones before `next`.
use Rattle.std.proofs.Common.{◌≡◌}
use Rattle.placement.specs.Coordinates.{coordinates}
use Rattle.contours.specs.Runs.{Along}
use Rattle.contours.proofs.add_along.Given as goal

abbrev pub invariant-loop-next : goal.invariant-loop-next
invariant-loop-next l = record { along : Along l.depth (coordinates l.points) l.k l.c l.fn.table l.table l.r; is_next : l.r.next ≡ l.next }
