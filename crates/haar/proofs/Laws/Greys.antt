-- Greys, of magnitudes: bytes, the same either way round, which move by at most one where the fraction moves by at most a grey. Where it matters, sides and
-- denominators are above 0.
--
-- Main results
--   grey-neg                     −num / den has the grey of num / den
--   grey_byte                    a grey is at most 255
--   greys_one_apart              fractions at most a 255th of the full figure apart have greys at most one apart
--   grey-nearest                 up to the full figure a grey is how many 255ths of it the magnitude is, to the nearest whole number, halves up
--   grey_half, grey_half_below   n and a half 255ths of it have the grey n + 1, up to 255; below zero too: the magnitude is rounded, and not the fraction
--   grey-full                    from the full figure's magnitude on it is the full grey
--   grey-magnitude               a figure's grey is 01's, of its magnitude
use Rattle.std.specs.Prelude.{◌≡◌, [], ◌∷◌, ℕ, ◌+◌, ◌*◌, ◌<◌, ◌≤◌, ℤ, neg_ℤ, nat_abs, ◌*ℤ◌, ◌≤ℤ◌}
use Rattle.std.proofs.Math.Path.{refl, ap₂}
use Rattle.std.proofs.Common.{sym, ◌∙◌, ap}
use Rattle.std.proofs.Math.IntN.{pos, ◌-ℤ◌}
use Rattle.integers.specs.Units.{full_grey}
use Rattle.integers.proofs.Theorems.Ring.{read, ring}
use Rattle.integers.proofs.Theorems.Order.{pos-≤ℤ}
use Rattle.integers.specs.Magnitude.{abs}
use Rattle.integers.proofs.Theorems.Magnitude.{abs-pos, abs-nonneg, abs_neg, abs-mul}
use Rattle.integers.specs.Within.{Within}
use Rattle.integers.proofs.Theorems.Within.{within_is, within_abs}
use Rattle.integers.specs.RoundHalfUp.{UpBounds}
use Rattle.haar.specs.Greys.{full, ink_grey, grey, grey_of, OneApart}
use Rattle.haar.proofs.Laws.InkGreys.{ink_byte, ink_nearest, ink_half, ink_full}
use Rattle.haar.proofs.Laws.CloseInkGreys.{ink_one_apart}

pub grey-neg : (side : ℕ) (num : ℤ) (den : ℕ) → grey side (neg_ℤ num) den ≡ grey side num den
unfolding grey
grey-neg side num den = ap (λ z. ink_grey side z den) (abs_neg num)

pub grey_byte : (side : ℕ) (num : ℤ) (den : ℕ) → grey side num den ≤ full_grey
unfolding grey
grey_byte side num den = ink_byte side (abs num) den

-- ---- two fractions, a / d and b / e
module _ {side : ℕ} (s : 0 < side) (a b : ℤ) {d e : ℕ} (g : 0 < d) (h : 0 < e) where
  scaled : (z : ℤ) (n : ℕ) → abs (pos full_grey *ℤ (z *ℤ pos n)) ≡ pos full_grey *ℤ (abs z *ℤ pos n)
  scaled z n = abs-mul (pos full_grey) (z *ℤ pos n) ∙ ap₂ ◌*ℤ◌ (abs-pos full_grey) (abs-mul z (pos n) ∙ ap (λ k. abs z *ℤ k) (abs-pos n))

  -- 255 × |a / d − b / e| ≤ full; and | |a / d| − |b / e| | is no more
  pub greys_one_apart : Within (pos (full side * (d * e))) (pos full_grey *ℤ (a *ℤ pos e -ℤ b *ℤ pos d)) → OneApart (grey side a d) (grey side b e)
  unfolding grey
  greys_one_apart w =
      let x = pos full_grey *ℤ (a *ℤ pos e) in
      let y = pos full_grey *ℤ (b *ℤ pos d) in
      let apart : pos full_grey *ℤ (a *ℤ pos e -ℤ b *ℤ pos d) ≡ x -ℤ y = ring (a ∷ b ∷ pos d ∷ pos e ∷ []) (search read depth 40) tt in
      let magnitudes : abs x -ℤ abs y ≡ pos full_grey *ℤ (abs a *ℤ pos e -ℤ abs b *ℤ pos d) =
      ap₂ ◌-ℤ◌ (scaled a e) (scaled b d) ∙ ring (abs a ∷ abs b ∷ pos d ∷ pos e ∷ []) (search read depth 40) tt in
      ink_one_apart s (abs a) (abs b) g h (within_is refl magnitudes (within_abs x y (within_is refl apart w)))

-- ---- the nearest, halves up
pub grey-nearest : {side den : ℕ} (num : ℤ) → 0 < side → 0 < den → abs num ≤ℤ pos (full side * den)
    → UpBounds (pos full_grey *ℤ abs num) (pos (full side * den)) (pos (grey side num den))
unfolding grey
grey-nearest {side} {den} num s g high = ink_nearest s g (abs-nonneg num) high

-- ---- known greys
pub grey_half : {side : ℕ} (n : ℕ) → 0 < side → n + 1 ≤ full_grey → grey side (pos ((2 * n + 1) * full side)) (2 * full_grey) ≡ n + 1
unfolding grey
grey_half {side} n s k = ap (λ z. ink_grey side z (2 * full_grey)) (abs-pos ((2 * n + 1) * full side)) ∙ ink_half n s k

pub grey_half_below : {side : ℕ} (n : ℕ) → 0 < side → n + 1 ≤ full_grey → grey side (neg_ℤ (pos ((2 * n + 1) * full side))) (2 * full_grey) ≡ n + 1
grey_half_below {side} n s k = grey-neg side (pos ((2 * n + 1) * full side)) (2 * full_grey) ∙ grey_half n s k

pub grey-full : {side den : ℕ} (num : ℤ) → 0 < side → 0 < den → full side * den ≤ nat_abs num → grey side num den ≡ full_grey
unfolding grey abs
grey-full num s g h = ink_full s g (pos-≤ℤ h)

-- n is the magnitude as code has it, a natural number
pub grey-magnitude : (side : ℕ) (f : ℤ) (n : ℕ) → n ≡ nat_abs f → grey_of side f ≡ ink_grey side (pos n) 1
unfolding grey abs
grey-magnitude side f n e = ap (λ k. ink_grey side (pos k) 1) (sym e)
