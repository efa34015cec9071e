-- The larger of |d| and 1.
use Rattle.std.proofs.Common.{pos, nat_abs, ◌∙◌, ap, to_z-of_z}
use Rattle.std.specs.Int.{int_max}
use Rattle.integers.proofs.Theorems.Bits.{result_is}
use Rattle.edge.proofs.Laws.Methods.{extent_is}
use Rattle.edge.proofs.extent.Goals as goal

pub returns : goal.returns
returns c =
    let d = result_is c.abs.type_inv (c.abs.ensures.value ∙ ap (λ z. pos (nat_abs z)) (to_z-of_z c.ranges.d)) in
    result_is c.max.type_inv (c.max.ensures.value ∙ ap (λ z. int_max z (pos 1)) d ∙ extent_is c.args.d)
