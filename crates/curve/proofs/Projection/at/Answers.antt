-- The curve's place at i / n, rounded: n² times it is not negative, and at most 2^29.
use Rattle.std.proofs.Common.{◌≡◌, refl, ◌∙◌, ap, ap₂, [], ◌∷◌, ◌*◌, ◌^◌, ℤ, pos, nat_abs, ◌*ℤ◌, ◌≤ℤ◌, ◌<ℤ◌, to_z-of_z}
use Rattle.std.proofs.Math.Path.{subst⁻¹}
use Rattle.integers.specs.Units.{greatest_sheet_coordinate, most_chords}
use Rattle.integers.proofs.Theorems.Order.{≤ℤ_trans, ≤ℤ-mul}
use Rattle.integers.proofs.Theorems.Linear.{le, ◌&◌, linear, lin≤, lin<}
use Rattle.integers.specs.Within.{Within}
use Rattle.integers.proofs.Theorems.Within.{within_le, within_self}
use Rattle.integers.specs.Rounding.{round_half_up}
use Rattle.integers.specs.Bits.{back}
use Rattle.integers.proofs.Theorems.Bits.{result_is}
use Rattle.integers.specs.Held.{Held}
use Rattle.integers.proofs.Theorems.Held.{held_number, held-mul, held_fits, held_back}
use Rattle.curve.specs.Curve.{curve_num}
use Rattle.curve.proofs.Numerators.{num_low, num_high}
use Rattle.curve.proofs.Projection.at.Goals as goal

square : {n : ℤ} → pos 1 ≤ℤ n → n ≤ℤ pos most_chords → Held (most_chords * most_chords) (back n *ℤ back n) (n *ℤ n)
square {n} h k =
    let w : Within (pos most_chords) n = within_le k (within_self (lin≤ (n ∷ []) (le h) (search linear depth 40) tt)) in
    held-mul (held_number tt w) (held_number tt w)

same-num : {p p' q q' r r' n n' i i' : ℤ} → p ≡ p' → q ≡ q' → r ≡ r' → n ≡ n' → i ≡ i' → curve_num p q r n i ≡ curve_num p' q' r' n' i'
same-num {p} {p'} {q} {q'} {r} {r'} {n} {n'} {i} {i'} a b c d e =
    ap₂ (λ p q. curve_num p q r n i) a b ∙ ap₂ (λ r n. curve_num p' q' r n i) c d ∙ ap (curve_num p' q' r' n') e

pub overflow_mul-n : goal.overflow_mul-n
overflow_mul-n c = held_fits tt (square c.requires.0 c.requires.1)

pub round_half_up-requires : goal.round_half_up-requires
round_half_up-requires c =
    let f = c.ranges in
    let r = c.requires in
    let n = c.args.n in
    let s = square r.0 r.1 in
    let o = c.args.self.on_sheet in
    let square-high : (n *ℤ n) ≤ℤ pos 16384 = s.within.high in
    let high : (pos greatest_sheet_coordinate *ℤ (n *ℤ n)) ≤ℤ pos (2 ^ 60) = lin≤ (n ∷ []) (le square-high) (search linear depth 40) tt in
    let num-is = result_is c.num.type_inv (c.num.ensures ∙ same-num refl refl refl (to_z-of_z f.n) (to_z-of_z f.i)) in (
      subst⁻¹ (λ z. pos 0 ≤ℤ z) num-is (num_low r.2 r.3 o.0.0 o.1.0 o.2.0),
      subst⁻¹ (λ z. z ≤ℤ pos (2 ^ 60)) num-is (≤ℤ_trans (num_high r.2 r.3 o.0.1 o.1.1 o.2.1) high),
      subst⁻¹ (λ z. pos 0 <ℤ z) (held_back tt s).is (lin< (n ∷ []) (le (≤ℤ-mul r.0 r.0) & le r.0) (search linear depth 40) tt),
      subst⁻¹ (λ z. z ≤ℤ pos (2 ^ 60)) (held_back tt s).is (lin≤ (n ∷ []) (le square-high) (search linear depth 40) tt),
    )

pub returns : goal.returns
returns c =
    let f = c.ranges in
    let num-is = result_is c.num.type_inv (c.num.ensures ∙ same-num refl refl refl (to_z-of_z f.n) (to_z-of_z f.i)) in
    result_is c.round_half_up.type_inv
    (c.round_half_up.ensures ∙ ap₂ (λ z d. round_half_up z (nat_abs d)) num-is (held_back tt (square c.requires.0 c.requires.1)).is)
