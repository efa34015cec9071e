-- In runs, or edge by edge.
use Rattle.std.proofs.Common.{arith}
use Rattle.placement.specs.Coordinates.{coordinates}
use Rattle.contours.proofs.ContourLoop.{contour_start, contour_step, contour_end, of_all, contour_asks, contour_edge, contour_one}
use Rattle.contours.proofs.add_contour.Goals as goal

pub loop-k-init : goal.loop-k-init
loop-k-init c = contour_start c.args.pass.sign c.requires.0

pub add_edge-requires : goal.add_edge-requires
add_edge-requires c =
    (contour_asks c.loop-k.invariant (omega arith), contour_edge (coordinates c.args.points.now) c.requires.1 (omega arith) (of_all (coordinates c.args.points.now) c.loop-k.k c.edge_from.ensures c.count-n.ensures))

pub loop-k-preserved : goal.loop-k-preserved
loop-k-preserved c =
    let a = c.args in
    let points = coordinates a.points.now in
    contour_step 1 c.requires.1 a.pass.sign_within (omega arith) c.loop-k.invariant
    (contour_one a.pass.view a.pass.depth a.pass.sign points c.loop-k.table c.loop-k.k (of_all points c.loop-k.k c.edge_from.ensures c.count-n.ensures) c.add_edge.ensures)

pub returns : goal.returns
returns c = contour_end c.loop-k.invariant (omega arith)
