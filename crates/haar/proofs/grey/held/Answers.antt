-- A magnitude from the full figure on has the full grey, and one below it is itself.
use Rattle.std.proofs.Common.{◌∙◌, ap, nat_abs, to_z-of_z}
use Rattle.std.proofs.Math.Path.{subst⁻¹}
use Rattle.haar.specs.Greys.{SameGrey}
use Rattle.haar.proofs.grey.Numbers.{same_grey}
use Rattle.haar.proofs.grey.held.Goals as goal

pub returns : goal.returns
returns c =
    subst⁻¹ (SameGrey c.args.figure c.args.full) c.min.ensures
    (same_grey c.args.figure (c.unsigned_abs-ink.ensures.value ∙ ap nat_abs (to_z-of_z c.ranges.figure)))
