-- The sign goes along when a number is rounded.
use Rattle.std.proofs.Common.{◌∙◌, ap₂, subst, ◌*◌, nat_abs, ◌*ℤ◌, to_z-of_z}
use Rattle.integers.specs.Rounding.{round_half_away}
use Rattle.integers.specs.Bits.{back}
use Rattle.integers.specs.Held.{Held}
use Rattle.integers.proofs.Theorems.Held.{held_number, held-mul, held_fits, held_back}
use Rattle.slanted.specs.Under.{sum_limit, Turns}
use Rattle.slanted.proofs.SumBits.{rounded_within, sign_within, sign-rounded}
use Rattle.slanted.proofs.away.Goals as goal

turns : (c : goal.After-nearest) → Turns c.args.m c.turn-s.result
turns c = subst (λ m. Turns m c.turn-s.result) (to_z-of_z c.ranges.m) c.turn-s.ensures

answer : (c : goal.After-nearest)
    → Held (1 * sum_limit) (back c.turn-s.result *ℤ back c.nearest.result) (c.turn-s.result *ℤ round_half_away (c.turn-s.result *ℤ c.args.m) (nat_abs c.args.n))
answer c =
    let sign = held_number tt (sign_within (turns c)) in
    let size = held_back tt (held-mul sign (held_number tt c.requires.0)) in
    held-mul sign
    (held_back {b = sum_limit} tt (record {
      is = c.nearest.ensures ∙ ap₂ (λ m n. round_half_away m (nat_abs n)) size.is (to_z-of_z c.ranges.n);
      within = rounded_within c.args.n c.requires.1 size.within;
    }))

pub overflow_mul-result : goal.overflow_mul-result
overflow_mul-result c = held_fits tt (answer c)

pub returns : goal.returns
returns c = (held_back tt (answer c)).is ∙ sign-rounded (turns c) c.requires.1
