-- A number times its magnitude.
use Rattle.std.proofs.Common.{◌∙◌, ap, pos, nat_abs}
use Rattle.integers.specs.Units.{width_times_extent_limit}
use Rattle.integers.specs.Magnitude.{abs}
use Rattle.integers.proofs.Theorems.Magnitude.{abs-nonneg}
use Rattle.integers.proofs.Theorems.Within.{within_le, within_self, abs_of_within}
use Rattle.integers.specs.Bits.{back}
use Rattle.integers.proofs.Theorems.Bits.{back_is, result_is}
use Rattle.integers.specs.Held.{Held}
use Rattle.integers.proofs.Theorems.Held.{held_number, held-mul, held_back}
use Rattle.slanted.proofs.signed_square.Goals as goal

pub returns : goal.returns
unfolding abs
returns c =
    let size : Held width_times_extent_limit (back c.abs.result) (abs c.args.z) = record {
      is = result_is c.abs.type_inv (c.abs.ensures.value ∙ ap (λ z. pos (nat_abs z)) (back_is tt c.requires));
      within = within_le (abs_of_within c.requires) (within_self (abs-nonneg c.args.z));
    } in
    (held_back tt (held-mul (held_number tt c.requires) size)).is
