-- A numerator, rounded. Over 1 it is itself.
use Rattle.std.proofs.Common.{◌≡◌, pos, nat_abs, sym, ◌∙◌, ap, to_z, to_z-of_z, w64}
use Rattle.integers.specs.Rounding.{round_half_away}
use Rattle.integers.proofs.Theorems.RoundHalfAway.{round_half_away_one}
use Rattle.edge.proofs.round_one.Goals as goal

pub returns-then-n-eq1 : goal.returns-then-n-eq1
returns-then-n-eq1 c =
    let e : c.args.n ≡ pos 1 = sym (to_z-of_z c.ranges.n) ∙ ap (to_z w64) c.if-n-eq1.true in
    to_z-of_z c.ranges.m ∙ sym (round_half_away_one c.args.m) ∙ ap (λ y. round_half_away c.args.m (nat_abs y)) (sym e)
