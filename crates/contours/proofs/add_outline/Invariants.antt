-- The contours that are left are those of the counts and coordinates that are left.
use Rattle.std.proofs.Common.{drop}
use Rattle.placement.specs.Coordinates.{coordinates}
use Rattle.contours.proofs.OutlineLoop.{Left, outlined}
use Rattle.contours.proofs.add_outline.Given as goal

abbrev pub invariant-loop-count : goal.invariant-loop-count
invariant-loop-count l =
    Left l.pass.view l.pass.depth l.pass.sign (outlined l.pass.view l.pass.depth l.pass.sign l.counts (coordinates l.points) l.fn.table) l.table
    (drop l.count-index l.counts) (coordinates l.left)
