-- By what `correct` leaves.
use mathlib.Core.Path.{refl, subst⁻¹}
use Rattle.sheet.specs.declared.Site.TheVariants.{Alone}
use Rattle.corrections.specs.Corrections.{tile_of, taking}
use Rattle.corrections.specs.Holding.{HoldsContours}
use Rattle.corrections.proofs.Laws.Kept.{holds_taken}
use Rattle.corrections.proofs.take.Goals as goal

pub returns-clause-holds_one_less : goal.returns-clause-holds_one_less
returns-clause-holds_one_less c =
    let k = taking c.args.side c.args.points.now c.args.count c.args.placement in
    let t = tile_of c.args.table.now c.args.edges.now in
    λ others h done. subst⁻¹ (HoldsContours (Alone c.args.side) others) c.correct.ensures.edges_after (holds_taken k t done refl h)
