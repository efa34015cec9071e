-- By what `correct` leaves.
use mathlib.Core.Path.{refl, subst⁻¹}
use mathlib.Core.List.{◌∷◌}
use Rattle.sheet.specs.declared.Site.TheVariants.{Alone}
use Rattle.corrections.specs.Corrections.{tile_of, putting, contour_of}
use Rattle.corrections.specs.Holding.{HoldsContours}
use Rattle.corrections.proofs.Laws.Kept.{holds_put}
use Rattle.corrections.proofs.put.Goals as goal

pub returns-clause-holds_one_more : goal.returns-clause-holds_one_more
returns-clause-holds_one_more c =
    let k = putting c.args.side c.args.points.now c.args.count c.args.placement in
    let t = tile_of c.args.table.now c.args.edges.now in
    λ cs h done. subst⁻¹ (HoldsContours (Alone c.args.side) (contour_of k ∷ cs)) c.correct.ensures.edges_after (holds_put k t done refl h)
