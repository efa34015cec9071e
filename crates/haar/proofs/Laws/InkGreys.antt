-- 01's rule of a grey: a byte, which does not fall as the fraction rises, and moves by at most one where that moves by at most a grey. Where it matters, sides and
-- denominators are above 0.
--
-- Main results
--   full-pos                     a tile's full figure is above 0
--   ink_clamp, ink_byte          a grey is the rounded fraction, held; it is at most 255
--   one_up                       a fraction at most a 255th of the full figure above another has a grey at most one above (both ways: CloseInkGreys)
--   ink_nearest                  from 0 to the full figure it is how many 255ths of it the fraction is, to the nearest whole number, halves up
--   ink_half                     n and a half 255ths of the full figure have the grey n + 1, up to 255
--   ink_full                     the full figure or more has the full grey
use Rattle.std.specs.Prelude.{◌≡◌, [], ◌∷◌, ℕ, ◌+◌, ◌*◌, ◌<◌, ◌≤◌, ℤ, pos, nat_abs, ◌+ℤ◌, ◌-ℤ◌, ◌*ℤ◌, ◌≤ℤ◌}
use Rattle.std.proofs.Common.{sym, ◌∙◌, ap, subst, subst₂, arith, mul-pos}
use Rattle.std.proofs.Math.Path.{subst⁻¹}
use Rattle.std.specs.Int.Signed.{yes_non_neg, pos-nat_abs}
use Rattle.integers.specs.Units.{full_grey}
use Rattle.integers.proofs.Theorems.Ring.{read, ring}
use Rattle.integers.proofs.Theorems.Order.{≤ℤ-mul, ≤ℤ_scale, pos-≤ℤ, ≤_of_pos, nonneg}
use Rattle.integers.proofs.Theorems.Linear.{le, eq, ◌&◌, linear, lin≤, lin<}
use Rattle.integers.specs.Within.{Within}
use Rattle.integers.proofs.Theorems.Within.{bounds, within_self}
use Rattle.integers.specs.Clamp.{clamp}
use Rattle.integers.proofs.Theorems.Clamp.{clamp_low, clamp_high, clamp-inside, clamp-mono, clamp_moves}
use Rattle.integers.specs.Rounding.{round_half_up}
use Rattle.integers.specs.RoundHalfUp.{UpBounds}
use Rattle.integers.proofs.Theorems.RoundHalfUp.{round_half_up-bounds, round_half_up_of_bounds, round_half_up-mono, round_half_up-mul, round_half_up_one_apart}
use Rattle.haar.specs.Greys.{full, ink_grey}

pub full-pos : {side : ℕ} → 0 < side → 0 < full side
full-pos {side} s = let k : 0 < side * side = mul-pos s s in omega arith

-- ---- a byte
-- a fraction's 255ths of the full figure, rounded; and held
abbrev rounded : ℕ → ℤ → ℕ → ℤ
rounded side num den = round_half_up (pos full_grey *ℤ num) (full side * den)

abbrev held : ℤ → ℤ
held q = clamp q (pos 0) (pos full_grey)

pub ink_clamp : (side : ℕ) (num : ℤ) (den : ℕ)
    → pos (ink_grey side num den) ≡ clamp (round_half_up (pos full_grey *ℤ num) (full side * den)) (pos 0) (pos full_grey)
unfolding ink_grey
ink_clamp side num den = pos-nat_abs (held (rounded side num den)) (yes_non_neg (clamp_low (rounded side num den) (pos 0) (pos full_grey)))

pub ink_byte : (side : ℕ) (num : ℤ) (den : ℕ) → ink_grey side num den ≤ full_grey
ink_byte side num den =
    ≤_of_pos (subst⁻¹ (λ z. z ≤ℤ pos full_grey) (ink_clamp side num den) (clamp_high (nonneg full_grey) (rounded side num den)))

-- ---- two fractions, a / d and b / e
module _ {side : ℕ} (s : 0 < side) (a b : ℤ) {d e : ℕ} (g : 0 < d) (h : 0 < e) where
  -- a / d ≤ b / e
  ink_mono : (a *ℤ pos e) ≤ℤ (b *ℤ pos d) → ink_grey side a d ≤ ink_grey side b e
  ink_mono k =
      let i : rounded side a d ≤ℤ rounded side b e =
      round_half_up-mono (pos full_grey *ℤ a) (pos full_grey *ℤ b) (mul-pos (full-pos s) g) (mul-pos (full-pos s) h)
      (lin≤ (a ∷ b ∷ pos d ∷ pos e ∷ pos side ∷ []) (le (≤ℤ_scale (full side) k)) (search linear depth 40) tt) in
      ≤_of_pos (subst₂ ◌≤ℤ◌ (sym (ink_clamp side a d)) (sym (ink_clamp side b e)) (clamp-mono (pos 0) (pos full_grey) i))

  -- 255 × (a / d − b / e) ≤ full
  pub one_up : (pos full_grey *ℤ (a *ℤ pos e -ℤ b *ℤ pos d)) ≤ℤ pos (full side * (d * e)) → ink_grey side a d ≤ ink_grey side b e + 1
  one_up k =
      let i : rounded side a d ≤ℤ (rounded side b e +ℤ pos 1) =
      round_half_up_one_apart (pos full_grey *ℤ a) (pos full_grey *ℤ b) (mul-pos (full-pos s) g) (mul-pos (full-pos s) h)
      (lin≤ (a ∷ b ∷ pos d ∷ pos e ∷ pos side ∷ []) (le (≤ℤ_scale (full side) k)) (search linear depth 40) tt) in
      let x = held (rounded side a d) in
      let y = held (rounded side b e) in
      let y' = held (rounded side b e +ℤ pos 1) in
      let j : x ≤ℤ y' = clamp-mono (pos 0) (pos full_grey) i in
      let m : Within (pos 1) (y' -ℤ y) = clamp_moves (pos 0) (pos full_grey) (rounded side b e) (pos 1) (within_self (nonneg 1)) in
      ≤_of_pos (lin≤ (x ∷ y ∷ y' ∷ pos (ink_grey side a d) ∷ pos (ink_grey side b e) ∷ [])
      (le j & bounds m & eq (ink_clamp side a d) & eq (ink_clamp side b e)) (search linear depth 40) tt)

-- ---- the nearest: where nothing is held
pub ink_nearest : {side den : ℕ} {num : ℤ} → 0 < side → 0 < den → pos 0 ≤ℤ num → num ≤ℤ pos (full side * den)
    → UpBounds (pos full_grey *ℤ num) (pos (full side * den)) (pos (ink_grey side num den))
ink_nearest {side} {den} {num} s g low high =
    let d : 0 < full side * den = mul-pos (full-pos s) g in
    let from : pos 0 ≤ℤ rounded side num den =
    subst (λ z. z ≤ℤ rounded side num den) (round_half_up-mul (pos 0) d)
    (round_half_up-mono (pos 0 *ℤ pos (full side * den)) (pos full_grey *ℤ num) d d
    (lin≤ (num ∷ pos (full side * den) ∷ []) (le (≤ℤ-mul low (nonneg (full side * den)))) (search linear depth 40) tt)) in
    let to : rounded side num den ≤ℤ pos full_grey =
    subst (λ z. rounded side num den ≤ℤ z) (round_half_up-mul (pos full_grey) d)
    (round_half_up-mono (pos full_grey *ℤ num) (pos full_grey *ℤ pos (full side * den)) d d
    (lin≤ (num ∷ pos (full side * den) ∷ []) (le (≤ℤ-mul high (nonneg (full side * den)))) (search linear depth 40) tt)) in
    subst⁻¹ (UpBounds (pos full_grey *ℤ num) (pos (full side * den))) (ink_clamp side num den ∙ clamp-inside from to)
    (round_half_up-bounds (pos full_grey *ℤ num) d)

-- ---- known greys
ink_whole : {side : ℕ} (n : ℕ) → 0 < side → n ≤ full_grey → ink_grey side (pos (n * full side)) full_grey ≡ n
ink_whole {side} n s k = ap nat_abs (ink_clamp side (pos (n * full side)) full_grey ∙ ap held exact ∙ clamp-inside (nonneg n) (pos-≤ℤ k))
  where
    exact : rounded side (pos (n * full side)) full_grey ≡ pos n
    exact =
        let e : pos full_grey *ℤ pos (n * full side) ≡ pos n *ℤ pos (full side * full_grey) = ring (pos n ∷ pos side ∷ []) (search read depth 40) tt in
        ap (λ z. round_half_up z (full side * full_grey)) e ∙ round_half_up-mul (pos n) (mul-pos (full-pos s) (omega arith))

-- halves up
pub ink_half : {side : ℕ} (n : ℕ) → 0 < side → n + 1 ≤ full_grey → ink_grey side (pos ((2 * n + 1) * full side)) (2 * full_grey) ≡ n + 1
ink_half {side} n s k = ap nat_abs (ink_clamp side (pos ((2 * n + 1) * full side)) (2 * full_grey) ∙ ap held up ∙ clamp-inside (nonneg (n + 1)) (pos-≤ℤ k))
  where
    up : rounded side (pos ((2 * n + 1) * full side)) (2 * full_grey) ≡ pos (n + 1)
    up =
        let d : 0 < full side * (2 * full_grey) = mul-pos (full-pos s) (omega arith) in
        sym (round_half_up_of_bounds d (record {
          over = lin≤ (pos n ∷ pos side ∷ []) (le (nonneg n)) (search linear depth 40) tt;
          under = lin< (pos n ∷ pos side ∷ []) (le (pos-≤ℤ d)) (search linear depth 40) tt;
        }))

pub ink_full : {side den : ℕ} {num : ℤ} → 0 < side → 0 < den → pos (full side * den) ≤ℤ num → ink_grey side num den ≡ full_grey
ink_full {side} {den} {num} s g k =
    let i = ink_mono s (pos (full_grey * full side)) num {d = full_grey} {e = den} (omega arith) g
    (lin≤ (num ∷ pos side ∷ pos den ∷ []) (le k) (search linear depth 40) tt) in
    omega (arith, ink_whole full_grey s (omega arith), ink_byte side num den)
