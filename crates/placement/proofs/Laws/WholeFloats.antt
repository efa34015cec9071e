-- Whole numbers as floats, and back.
--
-- Main results
--   whole_value, whole_fits       a whole number up to 2^53 either way, cast to a float, is that number
--   whole_inside                  a float that is a whole number is within that number's magnitude
--   cut-signed                    what a cast cuts a float to, where it is in the range of 64 bits
--   cut_whole                     a float that is a whole number is cut to that number
use Rattle.std.specs.Prelude.{◌≡◌, ℕ, suc, ◌-◌, ◌*◌, ◌/◌, ◌^◌, ◌≤◌, min, Bool, true, false, T, ℤ, pos, negsuc, neg_ℤ, unsigned_abs, Float}
use Rattle.std.proofs.Common.{sym, ap, ◌∙◌, mul-one, mul-le-mul_right, le_trans, le_of_eq, mul-div_cancel, arith, lt→ltb, le→leb}
use Rattle.std.specs.Float.{nan, inf, fin, binary64}
use Rattle.std.specs.Float.Ieee.{up, down, round, of_int, to_signed, in_float}
use Rattle.std.specs.Float.Ieee.Fits.{down_pos}
use Rattle.std.specs.Float.Ieee.Back.{round_whole}
use Rattle.placement.specs.Parts.{signed, Value, Inside, kept_digits, cast_limit}
use Rattle.placement.proofs.Laws.Values.{of_has, has}

pub whole_value : (z : ℤ) → unsigned_abs z ≤ 2 ^ kept_digits → Value (of_int binary64 z) z 1
unfolding of_int
whole_value (pos n) h = of_has (round binary64 false n 1) false n 1 (round_whole binary64 false n h)
whole_value (negsuc n) h = of_has (round binary64 true (suc n) 1) true (suc n) 1 (round_whole binary64 true (suc n) h)

pub whole_fits : (z : ℤ) → unsigned_abs z ≤ 2 ^ kept_digits → T (in_float binary64 z)
unfolding in_float
whole_fits (pos n) h = le→leb n (2 ^ kept_digits) h
whole_fits (negsuc n) h = lt→ltb n (2 ^ kept_digits) h

-- ---- a float that is a whole number
size : (s : Bool) (m : ℕ) (e k : ℤ) → Value (fin s m e) k 1 → m * up e ≡ unsigned_abs k * down e
size s m e k v = sym (mul-one (m * up e)) ∙ (has s m e k 1 v).1

pub whole_inside : (limit : ℕ) (x : Float) (k : ℤ) → Value x k 1 → unsigned_abs k ≤ limit → Inside limit x
whole_inside limit nan k v b = absurd v
whole_inside limit (inf s) k v b = absurd v
whole_inside limit (fin s m e) k v b = le_trans (le_of_eq (size s m e k v)) (mul-le-mul_right (down e) b)

-- ---- a cast holds what it cuts within 64 bits
held : (a : ℕ) → a ≤ cast_limit → min a (2 ^ 63 - 1) ≡ a
held a h = omega arith

held_low : (a : ℕ) → a ≤ cast_limit → min a (2 ^ 63) ≡ a
held_low a h = omega arith

pub cut-signed : (s : Bool) (m : ℕ) (e : ℤ) (q : ℕ) → m * up e / down e ≡ q → q ≤ cast_limit → to_signed 63 (fin s m e) ≡ signed s q
unfolding to_signed
cut-signed true m e q i h = ap (λ (z : ℕ). neg_ℤ (pos (min z (2 ^ 63)))) i ∙ ap (λ (z : ℕ). neg_ℤ (pos z)) (held_low q h)
cut-signed false m e q i h = ap (λ (z : ℕ). pos (min z (2 ^ 63 - 1))) i ∙ ap pos (held q h)

pub cut_whole : (x : Float) (k : ℤ) → Value x k 1 → unsigned_abs k ≤ cast_limit → to_signed 63 x ≡ k
cut_whole nan k v b = absurd v
cut_whole (inf s) k v b = absurd v
cut_whole (fin s m e) k v b =
    cut-signed s m e (unsigned_abs k) (ap (λ (z : ℕ). z / down e) (size s m e k v) ∙ mul-div_cancel (unsigned_abs k) (down_pos e)) b ∙ sym (has s m e k 1 v).0
