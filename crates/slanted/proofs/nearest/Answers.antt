-- Half of the divisor added, and divided: the remainder tells how far the quotient is off.
use Rattle.std.proofs.Common.{◌≡◌, ◌∙◌, ap, ap₂, inl, inr, [], ◌∷◌, ◌⊎◌, ◌+◌, ℤ, pos, nat_abs, ◌+ℤ◌, ◌-ℤ◌, ◌*ℤ◌, ◌≤ℤ◌, ◌<ℤ◌, w64, SFits, to_z-of_z}
use Rattle.std.proofs.Math.Path.{subst⁻¹}
use Rattle.std.specs.Int.Signed.{quot_z, rem_z, shr_z, lt_z_yes}
use Rattle.integers.proofs.Theorems.Order.{≤ℤ_or_<ℤ, ≤ℤ-mul, ≤ℤ_of_<ℤ, add_one_≤ℤ}
use Rattle.integers.proofs.Theorems.Linear.{le, lt, eq, ◌&◌, linear, lin≤, lin<, lin⊥}
use Rattle.integers.proofs.Theorems.Machine.{known}
use Rattle.integers.specs.Rounding.{round_half_away}
use Rattle.integers.proofs.Theorems.RoundHalfAway.{round_half_away_of_bounds'}
use Rattle.integers.proofs.Theorems.Division.{truncated, quot_fits, shift_quot}
use Rattle.integers.specs.Bits.{back}
use Rattle.integers.proofs.Theorems.Bits.{fits_within}
use Rattle.integers.specs.Held.{Held}
use Rattle.integers.proofs.Theorems.Held.{held_back}
use Rattle.integers.proofs.Theorems.Within.{within_le, within_self, within_add}
use Rattle.edge.specs.Room.{crossing_limit}
use Rattle.slanted.specs.Under.{sum_limit}
use Rattle.slanted.proofs.nearest.Goals as goal

-- ---- the quotient of m + n / 2 is the nearest
module _ (m n : ℤ) (h : pos 0 ≤ℤ m) (k : pos 0 <ℤ n) where
  abbrev half : ℤ
  half = quot_z n (pos 2)

  abbrev r₂ : ℤ
  r₂ = rem_z n (pos 2)

  abbrev q : ℤ
  q = quot_z (m +ℤ half) n

  abbrev r : ℤ
  r = rem_z (m +ℤ half) n

  n≥0 : pos 0 ≤ℤ n
  n≥0 = ≤ℤ_of_<ℤ k

  half≥0 : pos 0 ≤ℤ half
  half≥0 = ((truncated n (pos 2) (lt_z_yes tt)).nonnegative n≥0).0

  sum≥0 : pos 0 ≤ℤ (m +ℤ half)
  sum≥0 = lin≤ (m ∷ half ∷ []) (le h & le half≥0) (search linear depth 40) tt

  is-nearest : q ≡ round_half_away m (nat_abs n)
  is-nearest =
      let a = truncated n (pos 2) (lt_z_yes tt) in
      let b = truncated (m +ℤ half) n k in
      let r≥0 = (b.nonnegative sum≥0).1 in
      let r₂≥0 = (a.nonnegative n≥0).1 in
      round_half_away_of_bounds' k (record {
        over = lin≤ (m ∷ n ∷ half ∷ r₂ ∷ q ∷ r ∷ []) (eq a.whole & eq b.whole & le r≥0 & le r₂≥0) (search linear depth 40) tt;
        under = lin≤ (m ∷ n ∷ half ∷ r₂ ∷ q ∷ r ∷ []) (eq a.whole & eq b.whole & lt b.below & lt a.below) (search linear depth 40) tt;
        under_strict = λ _. lin< (m ∷ n ∷ half ∷ r₂ ∷ q ∷ r ∷ []) (eq a.whole & eq b.whole & lt b.below & lt a.below) (search linear depth 40) tt;
        over_strict = λ z. go (≤ℤ_or_<ℤ q (pos 0)) z;
      })
    where
      go : (q ≤ℤ pos 0) ⊎ (pos 0 <ℤ q) → m ≤ℤ pos 0 → (pos 2 *ℤ (n *ℤ q -ℤ m)) <ℤ n
      go (inl i) z =
          lin< (m ∷ n ∷ q ∷ []) (le (≤ℤ-mul n≥0 i) & le h & lt k) (search linear depth 40) tt
      go (inr i) z =
          let a = truncated n (pos 2) (lt_z_yes tt) in
          let b = truncated (m +ℤ half) n k in
          lin⊥ (m ∷ n ∷ half ∷ r₂ ∷ q ∷ r ∷ [])
          (eq a.whole & eq b.whole & le (b.nonnegative sum≥0).1 & le (a.nonnegative n≥0).1 & le z & le (≤ℤ-mul n≥0 (add_one_≤ℤ i)) & lt k & le half≥0) (search linear depth 40) tt

  -- ---- as the machine has it
  half_is : SFits w64 n → back (shr_z (back n) 2) ≡ half
  half_is f =
      let e = shift_quot n 2 n≥0 in
      ap (λ x. back (shr_z x 2)) (to_z-of_z f) ∙ known (subst⁻¹ (SFits w64) e (quot_fits n (pos 2) f (lt_z_yes tt))) e

  half_high : n ≤ℤ pos crossing_limit → half ≤ℤ pos crossing_limit
  half_high l =
      let a = truncated n (pos 2) (lt_z_yes tt) in
      let b = a.nonnegative n≥0 in
      lin≤ (n ∷ half ∷ r₂ ∷ []) (eq a.whole & le b.0 & le b.1 & le l) (search linear depth 40) tt

  sum-held : SFits w64 m → SFits w64 n → m ≤ℤ pos sum_limit → n ≤ℤ pos crossing_limit
      → Held (sum_limit + crossing_limit) (back m +ℤ back (shr_z (back n) 2)) (m +ℤ half)
  sum-held f g i l = record {
    is = ap₂ ◌+ℤ◌ (to_z-of_z f) (half_is g);
    within = within_add (within_le i (within_self h)) (within_le (half_high l) (within_self half≥0));
  }

pub returns : goal.returns
returns c =
    let m = c.args.m in
    let n = c.args.n in
    let r = c.requires in
    let s = sum-held m n r.0 r.2 c.ranges.m c.ranges.n r.1 r.3 in
    let e = ap₂ quot_z (held_back tt s).is (to_z-of_z c.ranges.n) in
    known (subst⁻¹ (SFits w64) e (quot_fits (m +ℤ quot_z n (pos 2)) n (fits_within tt s.within) r.2)) (e ∙ is-nearest m n r.0 r.2)
