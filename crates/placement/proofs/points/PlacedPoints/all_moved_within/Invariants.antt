-- The coordinates from 2 k on decide.
use Rattle.std.proofs.Common.{◌≡◌, ◌*◌, drop}
use Rattle.integers.specs.Tests.{every, between}
use Rattle.placement.specs.Coordinates.{coordinates}
use Rattle.placement.proofs.points.PlacedPoints.all_moved_within.Given as goal

abbrev pub invariant-loop-k : goal.invariant-loop-k
invariant-loop-k l = every (between l.low l.high) (coordinates l.self) ≡ every (between l.low l.high) (drop (2 * l.k) (coordinates l.self))
