-- By what `correct_curves` leaves.
use mathlib.Core.Path.{refl, subst⁻¹}
use Rattle.corrections.specs.Corrections.{tile_of}
use Rattle.curves.specs.CurvedCorrections.{taking_curve}
use Rattle.curves.specs.CurvedHolding.{HoldsCurves}
use Rattle.curves.proofs.Laws.CurvedKept.{contour_near, holds_taken_curve}
use Rattle.curves.proofs.take_curves.Goals as goal

pub returns-clause-near_contour : goal.returns-clause-near_contour
returns-clause-near_contour c =
    contour_near (taking_curve c.args.site c.args.points.now c.args.count c.args.marks.now c.args.placement) (tile_of c.args.table.now c.args.edges.now)

pub returns-clause-holds_one_less_curve : goal.returns-clause-holds_one_less_curve
returns-clause-holds_one_less_curve c =
    let k = taking_curve c.args.site c.args.points.now c.args.count c.args.marks.now c.args.placement in
    let t = tile_of c.args.table.now c.args.edges.now in
    λ others h done. subst⁻¹ (HoldsCurves c.args.site others) c.correct_curves.ensures.edges_after (holds_taken_curve k t done refl h)
