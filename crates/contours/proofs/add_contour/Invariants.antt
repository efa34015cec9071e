-- The first k edges are added.
use Rattle.placement.specs.Coordinates.{coordinates}
use Rattle.contours.proofs.ContourLoop.{ContourLoop}
use Rattle.contours.proofs.add_contour.Given as goal

abbrev pub invariant-loop-k : goal.invariant-loop-k
invariant-loop-k l = ContourLoop l.pass.view l.pass.depth l.pass.sign (coordinates l.points) l.fn.table l.table l.k
