-- What a float's value is, by its sign and its magnitude; the toolchain's `HasValue x s a c` has the two apart.
--
-- Main results
--   signed_mul, signed_times, abs-signed     of a magnitude with a sign
--   of_has, has                              between `HasValue` and `Value`
use Rattle.std.specs.Prelude.{◌≡◌, ℕ, zero, suc, ◌*◌, ◌<◌, Bool, true, false, T, ℤ, pos, negsuc, ◌*ℤ◌, neg_ℤ, ◌≢◌, unsigned_abs, refl, Float}
use Rattle.std.proofs.Common.{sym, ap, ap₂, ◌∙◌, subst, zero-mul, mul-zero, mul-pos, zero-lt-suc, lt_irrefl}
use Rattle.std.specs.Int.Signed.{non_neg}
use Rattle.std.specs.Float.{nan, inf, fin}
use Rattle.std.specs.Float.Ieee.{up, down, unlike}
use Rattle.std.specs.Float.Ieee.Fits.{down_pos}
use Rattle.std.specs.Float.Ieee.Exact.{HasValue}
use Rattle.integers.proofs.Theorems.Magnitude.{nat_abs_mul}
use Rattle.placement.specs.Parts.{signed, Value}

-- ---- a magnitude with a sign
pub signed_mul : (s : Bool) (a c : ℕ) → signed s a *ℤ pos c ≡ signed s (a * c)
signed_mul false a c = refl
signed_mul true zero c = ap pos (zero-mul c) ∙ sym (ap (λ (n : ℕ). neg_ℤ (pos n)) (zero-mul c))
signed_mul true (suc a) c = refl

pub signed_times : (s t : Bool) (p r : ℕ) → signed s p *ℤ signed t r ≡ signed (unlike s t) (p * r)
signed_times false false p r = refl
signed_times true false p r = signed_mul true p r
signed_times false true p zero = ap pos (mul-zero p) ∙ sym (ap (λ (n : ℕ). neg_ℤ (pos n)) (mul-zero p))
signed_times false true p (suc r) = refl
signed_times true true zero zero = refl
signed_times true true zero (suc r) = ap (λ (n : ℕ). neg_ℤ (pos n)) (zero-mul (suc r)) ∙ sym (ap pos (zero-mul (suc r)))
signed_times true true (suc p) zero = ap (λ (n : ℕ). neg_ℤ (pos n)) (mul-zero (suc p)) ∙ sym (ap pos (mul-zero (suc p)))
signed_times true true (suc p) (suc r) = refl

pub abs-signed : (s : Bool) (a : ℕ) → unsigned_abs (signed s a) ≡ a
abs-signed false a = refl
abs-signed true zero = refl
abs-signed true (suc a) = refl

-- ---- a whole number has the float's sign, unless both are zero
not-both : (x y : ℕ) → 0 < y → pos x ≢ neg_ℤ (pos y)
not-both x zero h e = lt_irrefl 0 h
not-both x (suc y) h e = subst (λ (z : ℤ). T (non_neg z)) e tt

not_either : (x y : ℕ) → 0 < y → neg_ℤ (pos x) ≢ pos y
not_either zero y h e = lt_irrefl 0 (subst (λ (z : ℤ). 0 < unsigned_abs z) (sym e) h)
not_either (suc x) y h e = subst (λ (z : ℤ). T (non_neg z)) (sym e) tt

own_sign : (s : Bool) (a D : ℕ) (k : ℤ) → 0 < D → signed s a ≡ k *ℤ pos D → k ≡ signed s (unsigned_abs k)
own_sign false a D (pos k) h e = refl
own_sign false a D (negsuc k) h e = absurd (not-both a (suc k * D) (mul-pos (zero-lt-suc k) h) e)
own_sign true a D (pos zero) h e = refl
own_sign true a D (pos (suc k)) h e = absurd (not_either a (suc k * D) (mul-pos (zero-lt-suc k) h) e)
own_sign true a D (negsuc k) h e = refl

-- ---- between the two ways of saying a value
pub of_has : (x : Float) (s : Bool) (q c : ℕ) → HasValue x s q c → Value x (signed s q) c
of_has nan s q c h = h
of_has (inf t) s q c h = h
of_has (fin t m e) s q c h = signed_mul t (m * up e) c ∙ ap₂ signed h.0 h.1 ∙ sym (signed_mul s q (down e))

pub has : (s : Bool) (m : ℕ) (e : ℤ) (k : ℤ) (c : ℕ) → Value (fin s m e) k c → (k ≡ signed s (unsigned_abs k)) × (m * up e * c ≡ unsigned_abs k * down e)
has s m e k c v = (
  own_sign s (m * up e * c) (down e) k (down_pos e) (sym (signed_mul s (m * up e) c) ∙ v),
  sym (abs-signed s (m * up e * c)) ∙ ap unsigned_abs (sym (signed_mul s (m * up e) c) ∙ v) ∙ nat_abs_mul k (pos (down e)),
)
