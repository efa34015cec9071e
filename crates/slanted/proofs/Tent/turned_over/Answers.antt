-- The same over n, rounded.
use Rattle.std.proofs.Common.{◌≡◌, refl, sym, ◌∙◌, ap, ℤ, pos, neg_ℤ, nat_abs, ◌≤ℤ◌, ◌<ℤ◌, to_z-of_z}
use Rattle.std.proofs.Math.Path.{subst⁻¹}
use Rattle.integers.proofs.Theorems.Machine.{tests}
use Rattle.integers.specs.Within.{Within}
use Rattle.integers.specs.Rounding.{round_half_away}
use Rattle.integers.proofs.Theorems.Bits.{fits_within, result_is}
use Rattle.integers.proofs.Theorems.Held.{held_number, held-neg, held_fits, held_back}
use Rattle.edge.specs.Room.{crossing_limit}
use Rattle.slanted.specs.Under.{under, under_limit, sum_limit, Arch}
use Rattle.slanted.proofs.Laws.Sums.{turned_before, turned_after, turned-range}
use Rattle.slanted.proofs.Laws.PieceDetails.{rounded-neg}
use Rattle.slanted.proofs.SumBits.{sum_within, turned-eq, rounded_within}
use Rattle.slanted.proofs.Tent.turned_over.Goals as goal

rounded : (n : ℤ) {z z' : ℤ} → z ≡ z' → round_half_away z (nat_abs n) ≡ round_half_away z' (nat_abs n)
rounded n e = ap (λ z. round_half_away z (nat_abs n)) e

-- the whole sum over n, which is passed
r-within : {p m u v h r n : ℤ} → Arch p m u v → h ≡ under p m u v → r ≡ round_half_away h (nat_abs n) → pos 0 <ℤ n → Within (pos under_limit) r
r-within {n = n} a i j k = subst⁻¹ (Within (pos under_limit)) (j ∙ rounded n i) (rounded_within n k (sum_within a))

pub overflow_sub-result : goal.overflow_sub-result
overflow_sub-result c = let r = c.requires in held_fits tt (held-neg (held_number tt (r-within c.args.self.arch r.0 r.1 r.2)))

pub away-requires : goal.away-requires
away-requires c =
    let f = c.ranges in
    let n = to_z-of_z f.n in
    let e = turned-eq refl refl refl refl (to_z-of_z f.y) in (
      subst⁻¹ (Within (pos sum_limit)) (result_is c.turned.type_inv (c.turned.ensures ∙ e)) (turned-range c.args.self.arch c.args.y),
      subst⁻¹ (λ z. pos 0 <ℤ z) n c.requires.2,
      subst⁻¹ (λ z. z ≤ℤ pos crossing_limit) n c.requires.3,
    )

pub returns-then-to-y : goal.returns-then-to-y
returns-then-to-y c =
    let f = (fits_within tt c.args.self.arch.to) in
    let g = c.ranges.y in
    let k : c.args.self.last ≤ℤ c.args.y = search tests in
    let r = c.requires in
    to_z-of_z c.ranges.r ∙ r.1 ∙ rounded c.args.n (r.0 ∙ sym (turned_before c.args.self.half c.args.self.middle c.args.self.arch.order k))

pub returns-then-y-self : goal.returns-then-y-self
returns-then-y-self c =
    let f = (fits_within tt c.args.self.arch.from) in
    let g = c.ranges.y in
    let k : c.args.y ≤ℤ c.args.self.first = search tests in
    let r = c.requires in
    (held_back tt (held-neg (held_number tt (r-within c.args.self.arch r.0 r.1 r.2)))).is ∙ ap neg_ℤ (r.1 ∙ rounded c.args.n r.0)
    ∙ sym (rounded-neg r.2 (under c.args.self.half c.args.self.middle c.args.self.first c.args.self.last)) ∙ rounded c.args.n (sym (turned_after c.args.self.half c.args.self.middle c.args.self.last k))
