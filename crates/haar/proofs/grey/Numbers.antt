-- The numbers of `grey_of`: a tile's full figure as a power of two, and the grey of a figure as a quotient by it.
--
-- Main results
--   bits, full_shift             the full figure is 2^(17 + 2 × depth)
--   full_most                    and no greater than that of the deepest tile
--   grey_quotient                (255 × n + full / 2) / full is 01's grey of n, for n up to full
--   same_grey                    a magnitude held at the full figure has the figure's grey
use mathlib.Core.Path.{◌≡◌, sym, ◌∙◌, ap, ap₂}
use Prim.Native.Nat.{ℕ, ◌+◌, ◌*◌, ◌/◌, ◌^◌, ◌<◌, ◌≤◌}
use native.Mathlib.Omega.{arith}
use native.Mathlib.Decide.{dec_lt}
use native.Mathlib.Nat.{two-mul, mul-div-mul_left, div-lt_iff_lt-mul}
use lib.Pow.{pow-add, pow_mono}
use lib.IntN.{ℤ, pos, nat_abs, ◌*ℤ◌}
use Rattle.std.specs.Prelude.{min}
use Rattle.integers.specs.Units.{greatest_depth, full_grey}
use Rattle.integers.proofs.Theorems.Order.{nonneg, pos-≤ℤ}
use Rattle.integers.specs.Clamp.{clamp}
use Rattle.integers.proofs.Theorems.Clamp.{clamp-inside}
use Rattle.integers.specs.Rounding.{floor, round_half_up}
use Rattle.haar.specs.Greys.{full, ink_grey, SameGrey}
use Rattle.haar.proofs.Laws.InkGreys.{full-pos, ink_clamp, ink_full}
use Rattle.haar.proofs.Laws.Greys.{grey-full, grey-magnitude}

-- a pixel has 2^17 units: `full_shift` fails where it has not
abbrev pixel_bits : ℕ
pixel_bits = 17

-- the bits that `grey_of` shifts by: a tile has 2^depth × 2^depth pixels
abbrev pub bits : ℕ → ℕ
bits depth = pixel_bits + 2 * depth

pub full_shift : (depth : ℕ) → 2 ^ bits depth ≡ full (2 ^ depth)
full_shift depth = pow-add 2 pixel_bits (2 * depth) ∙ ap (λ n. 2 ^ pixel_bits * n) (ap (λ n. 2 ^ n) (two-mul depth) ∙ pow-add 2 depth depth)

pub full_most : {depth : ℕ} → depth ≤ greatest_depth → 2 ^ bits depth ≤ 2 ^ bits greatest_depth
full_most {depth} h = pow_mono {i = bits depth} {j = bits greatest_depth} (omega arith)

-- n is a figure's magnitude, N the full figure, as the code has them
module _ (side half : ℕ) {n N : ℕ} (e : N ≡ full side) (s : 0 < side) (k : n ≤ N) (h : 2 * half ≡ N) where
  -- the definition's fraction has both parts twice over
  rounded : round_half_up (pos full_grey *ℤ pos n) (full side * 1) ≡ pos ((full_grey * n + half) / N)
  unfolding round_half_up floor
  rounded =
      let above : 2 * (full_grey * n) + full side * 1 ≡ 2 * (full_grey * n + half) = omega arith in
      let below : 2 * (full side * 1) ≡ 2 * N = omega arith in
      ap pos (ap₂ ◌/◌ above below ∙ mul-div-mul_left (full_grey * n + half) N (omega arith))

  pub grey_quotient : (full_grey * n + half) / N ≡ ink_grey side (pos n) 1
  grey_quotient =
      let q = (full_grey * n + half) / N in
      let N>0 : 0 < N = omega (arith, full-pos s) in
      let b : q < full_grey + 1 = (div-lt_iff_lt-mul N>0).1 (omega arith) in
      sym (ap nat_abs (ink_clamp side (pos n) 1 ∙ ap (λ z. clamp z (pos 0) (pos full_grey)) rounded ∙ clamp-inside (nonneg q) (pos-≤ℤ (omega arith))))

-- a magnitude from the full figure on has the full grey, and one below it is itself
pub same_grey : (f : ℤ) {ink most : ℕ} → ink ≡ nat_abs f → SameGrey f most (min ink most)
same_grey f {ink} {most} e = record {
  few = omega arith;
  same = λ side s r.
      elim (dec_lt ink most) [
        | yes h ↦ ap (λ n. ink_grey side (pos n) 1) (omega arith) ∙ sym (grey-magnitude side f ink e)
        | no h ↦ ink_full s (omega arith) (pos-≤ℤ (omega arith)) ∙ sym (grey-full f s (omega arith) (omega (arith, e)))
      ];
}
