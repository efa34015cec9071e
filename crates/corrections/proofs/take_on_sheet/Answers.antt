-- By what `correct` leaves.
use mathlib.Core.Path.{refl, subst⁻¹}
use Rattle.sheet.specs.declared.Site.TheVariants.{OnSheet}
use Rattle.corrections.specs.Corrections.{tile_of, taking_on}
use Rattle.corrections.specs.Holding.{HoldsContours}
use Rattle.corrections.proofs.Laws.Kept.{holds_taken}
use Rattle.corrections.proofs.take_on_sheet.Goals as goal

pub returns-clause-holds_one_less : goal.returns-clause-holds_one_less
returns-clause-holds_one_less c =
    let k = taking_on c.args.place c.args.points.now c.args.count c.args.placement in
    let t = tile_of c.args.table.now c.args.edges.now in
    λ others h done. subst⁻¹ (HoldsContours (OnSheet c.args.place) others) c.correct.ensures.edges_after (holds_taken k t done refl h)
