-- The first k edges are added.
use Rattle.std.proofs.Common.{◌-◌, pos}
use Rattle.placement.specs.Coordinates.{coordinates, point_count}
use Rattle.rasterize.specs.declared.View.TheVariants.{Alone}
use Rattle.contours.proofs.ContourLoop.{ContourLoop}
use Rattle.contours.proofs.add_in_runs.Given as goal

abbrev pub invariant-loop-k : goal.invariant-loop-k
invariant-loop-k l = ContourLoop Alone l.depth (pos 1) (coordinates l.points) l.fn.table l.table l.k

abbrev pub decreases-loop-k : goal.decreases-loop-k
decreases-loop-k l = point_count l.points - l.k
