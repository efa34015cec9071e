-- The details: each sum over the divisor, rounded, with its sign.
use Rattle.std.proofs.Common.{◌≡◌, refl, ◌∙◌, ap₂, [], ℕ, T, leb, ℤ, pos, nat_abs, ◌≤ℤ◌, to_z-of_z}
use Rattle.std.proofs.Math.Path.{subst⁻¹}
use Rattle.integers.proofs.Theorems.Order.{≤ℤ_trans}
use Rattle.integers.proofs.Theorems.Linear.{none!, linear, lin≤}
use Rattle.integers.specs.Rounding.{round_half_away}
use Rattle.integers.specs.Bits.{back, greatest}
use Rattle.integers.specs.Held.{Held}
use Rattle.integers.proofs.Theorems.Held.{held_back, held_within}
use Rattle.slanted.specs.declared.Slope.{Slope}
use Rattle.slanted.specs.declared.Piece.{Piece}
use Rattle.slanted.specs.Under.{under, sum_limit, Arch}
use Rattle.slanted.specs.Pieces.{rounded_details, Sound}
use Rattle.slanted.proofs.Laws.Sums.{under-range}
use Rattle.slanted.proofs.SumBits.{rounded_within}
use Rattle.slanted.proofs.PieceBits.{x_sum, y_sum, turned_sum, divisor_fits, divisor_back, signed_by_eq}
use Rattle.slanted.proofs.divided.Goals as goal

-- what `nearest` asks of a sum
small : {z p m u v : ℤ} → z ≡ under p m u v → Arch p m u v → (pos 0 ≤ℤ z) × (z ≤ℤ pos sum_limit)
small e r =
    let k = under-range r in
    subst⁻¹ (λ z. (pos 0 ≤ℤ z) × (z ≤ℤ pos sum_limit)) e (k.0, ≤ℤ_trans k.1 (lin≤ [] none! (search linear depth 40) tt))

-- what is answered for z over the divisor, where z is v
rounded : {l : Slope} {k : Piece} → Sound l k → {b : ℕ} {z v q : ℤ} → T (leb b greatest) → Held b z v → q ≡ round_half_away z (nat_abs (back l.divisor))
    → Held b (back q) (round_half_away v (nat_abs l.divisor))
rounded {l} r t h e = held_back t (record {
  is = e ∙ ap₂ (λ z n. round_half_away z (nat_abs n)) h.is (to_z-of_z (divisor_fits r));
  within = rounded_within l.divisor r.above h.within;
})

pub nearest-r-requires : goal.nearest-r-requires
nearest-r-requires c =
    let r = c.requires in
    let k = small (x_sum r c.under-h.ensures).is r.arch_x in
    let n = divisor_back r in
    (k.0, k.1, n.0, n.1)

pub nearest-v-requires : goal.nearest-v-requires
nearest-v-requires c =
    let r = c.requires in
    let k = small (y_sum r c.under.ensures).is r.arch_y in
    let n = divisor_back r in
    (k.0, k.1, n.0, n.1)

pub signed-requires : goal.signed-requires
signed-requires c =
    let r = c.requires in (
      r.x,
      r.y,
      held_within (rounded r tt (x_sum r c.under-h.ensures) c.nearest-r.ensures),
      held_within (rounded r tt (y_sum r c.under.ensures) c.nearest-v.ensures),
    )

pub returns : goal.returns
unfolding rounded_details
returns c =
    let r = c.requires in
    c.signed.ensures
    ∙ signed_by_eq c.args.l
    (rounded r tt (x_sum r c.under-h.ensures) c.nearest-r.ensures).is
    (rounded r tt (y_sum r c.under.ensures) c.nearest-v.ensures).is
    (rounded r tt (turned_sum r refl) c.turned_over.ensures).is
