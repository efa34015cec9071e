-- Some edges more.
use Rattle.std.proofs.Common.{pos, sym, ◌∙◌, arith}
use Rattle.integers.proofs.Theorems.Order.{nonneg}
use Rattle.integers.proofs.Theorems.Within.{within_self}
use Rattle.accuracy.specs.Outline.{points_of, contour_edges}
use Rattle.placement.specs.Coordinates.{coordinates}
use Rattle.rasterize.specs.Added.{entry_of}
use Rattle.rasterize.specs.Views.{view_table}
use Rattle.rasterize.specs.declared.View.TheVariants.{Alone}
use Rattle.contours.specs.Contour.{edges_from}
use Rattle.contours.proofs.ContourLoop.{contour_start, contour_step, contour_end, once}
use Rattle.contours.proofs.add_in_runs.Goals as goal

pub loop-k-init : goal.loop-k-init
loop-k-init c = contour_start (pos 1) c.requires.0

pub loop-k-preserved : goal.loop-k-preserved
loop-k-preserved c =
    let a = c.add_some-k.ensures in
    let points = coordinates c.args.points.now in
    contour_step c.add_some-k.result c.requires.1 (within_self (nonneg 1)) (omega (arith, a.1)) c.loop-k.invariant
    (a.2 ∙ sym (once c.loop-k.table (edges_from Alone c.args.depth points c.loop-k.k c.add_some-k.result)))

pub returns : goal.returns
returns c =
    let points = coordinates c.args.points.now in
    contour_end c.loop-k.invariant (omega (arith, c.count.ensures, c.loop-k-test.false))
    ∙ once c.args.table.now (entry_of c.args.depth (view_table Alone c.args.depth (contour_edges (points_of points))))
