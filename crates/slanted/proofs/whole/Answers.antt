-- The details over 1: the sums with their signs.
use Rattle.std.proofs.Common.{◌≡◌, sym, ◌∙◌, ap, ℤ, pos, nat_abs}
use Rattle.integers.specs.Rounding.{round_half_away}
use Rattle.integers.proofs.Theorems.RoundHalfAway.{round_half_away_one}
use Rattle.integers.proofs.Theorems.Held.{held_back, held_within}
use Rattle.slanted.specs.Pieces.{rounded_details}
use Rattle.slanted.proofs.PieceBits.{x_sum, y_sum, turned_sum, signed_by_eq}
use Rattle.slanted.proofs.whole.Goals as goal

-- over 1 a number is itself
itself : {n : ℤ} → n ≡ pos 1 → (z : ℤ) → z ≡ round_half_away z (nat_abs n)
itself e z = sym (ap (λ n. round_half_away z (nat_abs n)) e ∙ round_half_away_one z)

pub signed-requires : goal.signed-requires
signed-requires c =
    let r = c.requires.0 in
    (r.x, r.y, held_within (x_sum r c.under-h.ensures), held_within (y_sum r c.under-v.ensures))

pub returns : goal.returns
unfolding rounded_details
returns c =
    let r = c.requires.0 in
    let one = itself c.requires.1 in
    c.signed.ensures
    ∙ signed_by_eq c.args.l
    ((x_sum r c.under-h.ensures).is ∙ one _)
    ((y_sum r c.under-v.ensures).is ∙ one _)
    ((held_back tt (turned_sum r c.turned.ensures)).is ∙ one _)
