-- A run, where its first edge lies on its cell; else one edge.
use Rattle.std.proofs.Common.{pos, ◌∙◌, arith, pow_mono}
use Rattle.integers.specs.Units.{greatest_depth}
use Rattle.placement.specs.Coordinates.{coordinates}
use Rattle.rasterize.specs.declared.View.TheVariants.{Alone}
use Rattle.rasterize.proofs.Laws.EdgeAdded.{measured_in}
use Rattle.rasterize.proofs.Laws.Fitting.{fits_le}
use Rattle.rasterize.proofs.Laws.TurnedEdges.{seen_in_view}
use Rattle.contours.specs.Contour.{edges_from}
use Rattle.contours.proofs.ContourLoop.{of_all, contour_edge, contour_one, once}
use Rattle.contours.proofs.add_some.Goals as goal

pub lies_on_cell-requires : goal.lies_on_cell-requires
lies_on_cell-requires c =
    let r = c.requires.0 in
    let i = c.is_cell.ensures.yes c.if-is_cell.true in
    let m = pow_mono {i = c.cell_from-c.result.level} {j = greatest_depth} (omega (arith, c.cell_from-c.ensures, r.fits.shallow)) in
    (omega (arith, i.0, m), omega (arith, i.1, m), measured_in (seen_in_view (contour_edge (coordinates c.args.points.now) r.in_view r.from (of_all (coordinates c.args.points.now) c.args.k c.edge_from-e.ensures c.count.ensures))))

pub add_edge-requires : goal.add_edge-requires
add_edge-requires c =
    let r = c.requires.0 in
    (fits_le (omega (arith, r.from)) r.fits, contour_edge (coordinates c.args.points.now) r.in_view r.from (of_all (coordinates c.args.points.now) c.args.k c.edge_from-e.ensures c.count.ensures))

pub returns : goal.returns
returns c =
    let a = c.args in
    let points = coordinates a.points.now in (
      omega arith,
      omega (arith, c.requires.0.from),
      contour_one Alone a.depth (pos 1) points a.table.now a.k (of_all points a.k c.edge_from-e.ensures c.count.ensures) c.add_edge.ensures ∙ once a.table.now (edges_from Alone a.depth points a.k 1),
    )
