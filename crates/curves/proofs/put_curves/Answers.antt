-- By what `correct_curves` leaves.
use mathlib.Core.Path.{refl, subst⁻¹}
use mathlib.Core.List.{◌∷◌}
use Rattle.corrections.specs.Corrections.{tile_of}
use Rattle.curves.specs.CurvedCorrections.{putting_curve, contour_in}
use Rattle.curves.specs.CurvedHolding.{HoldsCurves}
use Rattle.curves.proofs.Laws.CurvedKept.{contour_near, holds_put_curve}
use Rattle.curves.proofs.put_curves.Goals as goal

pub returns-clause-near_contour : goal.returns-clause-near_contour
returns-clause-near_contour c =
    contour_near (putting_curve c.args.site c.args.points.now c.args.count c.args.marks.now c.args.placement) (tile_of c.args.table.now c.args.edges.now)

pub returns-clause-holds_one_more_curve : goal.returns-clause-holds_one_more_curve
returns-clause-holds_one_more_curve c =
    let k = putting_curve c.args.site c.args.points.now c.args.count c.args.marks.now c.args.placement in
    let t = tile_of c.args.table.now c.args.edges.now in
    λ cs h done. subst⁻¹ (HoldsCurves c.args.site (contour_in k ∷ cs)) c.correct_curves.ensures.edges_after (holds_put_curve k t done refl h)
