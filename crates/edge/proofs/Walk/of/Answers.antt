-- The differences' extents and signs are what the walk is made of.
use Rattle.std.proofs.Common.{pos, ◌∙◌, ap}
use Rattle.integers.proofs.Theorems.Bits.{result_is}
use Rattle.integers.proofs.Theorems.Held.{held_back}
use Rattle.edge.specs.Walk.{extent, sign}
use Rattle.edge.proofs.Laws.Methods.{signum_is}
use Rattle.edge.proofs.Sizes.{difference}
use Rattle.edge.proofs.Walk.of.Goals as goal

pub walk_along-requires : goal.walk_along-requires
walk_along-requires c =
    let p = c.requires in
    let d = (held_back tt (difference p.x0 p.x1)).is in
    let e = (held_back tt (difference p.y0 p.y1)).is in (
      p,
      result_is c.extent.type_inv (c.extent.ensures ∙ ap (λ z. pos (extent z)) d),
      result_is c.extent-2.type_inv (c.extent-2.ensures ∙ ap (λ z. pos (extent z)) e),
      result_is c.signum.type_inv (c.signum.ensures.value ∙ signum_is _ ∙ ap sign d),
      result_is c.signum-2.type_inv (c.signum-2.ensures.value ∙ signum_is _ ∙ ap sign e),
    )
