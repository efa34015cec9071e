-- Floats of 64 bits that are multiples of 1/2^t: their product and their sum are exact while the magnitudes, in parts of 1/2^t, stay below 2^53. A float
-- keeps 53 binary digits, and the operations of IEEE 754 round only what has more. Nothing here is about placements.
--
-- Definitions
--   finest, span              the smallest float is 1/2^finest, and every float lies below 2^span times it
-- Main results
--   mul_exact                 k / 2^t times l / 2^u is k l / 2^(t + u), where |k| |l| is below 2^53
--   add_exact                 k / 2^t plus l / 2^t is (k + l) / 2^t, where |k| + |l| is below 2^53
use Rattle.std.specs.Prelude.{◌≡◌, ℕ, ◌+◌, ◌-◌, ◌*◌, ◌^◌, ◌<◌, ◌≤◌, Bool, true, false, cond, not, T, [], ◌∷◌, ℤ, pos, ◌+ℤ◌, ◌*ℤ◌, neg_ℤ, nat_lt, unsigned_abs, Float}
use Rattle.std.proofs.Common.{sym, ap₂, ◌∙◌, mul_assoc, mul_comm, mul_right_comm, mul-pos, add-mul, mul-le-mul_right, le_trans, le_of_eq, le_of_lt, le_of_mul-le-mul_right, lt_of_lt_of_le, lt_of_le_of_lt, add_comm, ltb→lt, nltb→le, pow-add, pow_mono, shl_lt}
use Rattle.std.proofs.Math.Path.{ap, subst}
use Rattle.std.proofs.Math.Nat.{eq_of_mul-eq-mul_right, mul-mul-mul_comm, mul-sub}
use native.Mathlib.Omega.{arith}
use Rattle.std.specs.Float.{nan, inf, fin}
use Rattle.std.specs.Float.Ieee.{binary64, up, down, round, sum, add, mul, unlike}
use Rattle.std.specs.Float.Ieee.Fits.{down_pos}
use Rattle.std.specs.Float.Ieee.Exact.{HasValue, round_exact}
use Rattle.integers.proofs.Theorems.Ring.{read, ring, comb}
use Rattle.placement.specs.Parts.{signed, Value, kept_digits}
use Rattle.placement.proofs.Laws.Values.{signed_times, of_has, has}

-- ---- rounding
-- the smallest float is 1/2^1074,
abbrev pub finest : ℕ
finest = 1074

-- and every float lies below 2^1024, which is so many doublings of the smallest
abbrev pub span : ℕ
span = finest + 1024

split : (t : ℕ) → t ≤ finest → 2 ^ t * 2 ^ (finest - t) ≡ 2 ^ finest
split t h = sym (pow-add 2 t (finest - t)) ∙ ap (λ (n : ℕ). 2 ^ n) (back t h)
  where
    back : (t : ℕ) → t ≤ finest → t + (finest - t) ≡ finest
    back t h = omega arith

-- num / den is q / 2^t, and q has no more digits than a float keeps
round_at : (s : Bool) (num den q t : ℕ) → 0 < den → t ≤ finest → q < 2 ^ kept_digits → num * 2 ^ t ≡ q * den → HasValue (round binary64 s num den) s q (2 ^ t)
round_at s num den q t D T' Q h =
    rescale (round binary64 s num den)
    (round_exact binary64 s num den q (finest - t) D Q (lt_of_lt_of_le (shl_lt 53 (finest - t) Q) (pow_mono (room t)))
    (ap (λ (z : ℕ). num * z) (sym (split t T'))
    ∙ sym (mul_assoc num (2 ^ t) (2 ^ (finest - t)))
    ∙ ap (λ (z : ℕ). z * 2 ^ (finest - t)) h
    ∙ mul_right_comm q den (2 ^ (finest - t))))
  where
    room : (t : ℕ) → kept_digits + (finest - t) ≤ span
    room t = omega arith

    rescale : (x : Float) → HasValue x s num den → HasValue x s q (2 ^ t)
    rescale nan v = v
    rescale (inf u) v = v
    rescale (fin u m e) v = (
      v.0,
      eq_of_mul-eq-mul_right den D (m * up e * 2 ^ t) (q * down e)
          (mul_right_comm (m * up e) (2 ^ t) den
          ∙ ap (λ (z : ℕ). z * 2 ^ t) v.1
          ∙ mul_right_comm num (down e) (2 ^ t)
          ∙ ap (λ (z : ℕ). z * down e) h
          ∙ mul_right_comm q den (down e)),
    )

-- ---- the product
pub mul_exact : (x y : Float) (k l : ℤ) (t u : ℕ) → t + u ≤ finest → Value x k (2 ^ t) → Value y l (2 ^ u) → unsigned_abs k * unsigned_abs l < 2 ^ kept_digits → Value (mul binary64 x y) (k *ℤ l) (2 ^ (t + u))
unfolding mul
mul_exact nan y k l t u b v w small = absurd v
mul_exact (inf s) y k l t u b v w small = absurd v
mul_exact (fin s m e) nan k l t u b v w small = absurd w
mul_exact (fin s m e) (inf s') k l t u b v w small = absurd w
mul_exact (fin s m e) (fin s' n d) k l t u b v w small =
    let h = has s m e k (2 ^ t) v in
    let g = has s' n d l (2 ^ u) w in
    let p = unsigned_abs k in
    let r = unsigned_abs l in
    let num = m * up e * (n * up d) in
    let den = down e * down d in
    subst (λ (z : ℤ). Value (round binary64 (unlike s s') num den) z (2 ^ (t + u))) (sym (signed_times s s' p r) ∙ sym (ap₂ ◌*ℤ◌ h.0 g.0))
    (of_has (round binary64 (unlike s s') num den) (unlike s s') (p * r) (2 ^ (t + u))
    (round_at (unlike s s') num den (p * r) (t + u) (mul-pos (down_pos e) (down_pos d)) b small
    (ap (λ (z : ℕ). num * z) (pow-add 2 t u)
    ∙ mul-mul-mul_comm (m * up e) (n * up d) (2 ^ t) (2 ^ u)
    ∙ ap₂ ◌*◌ h.1 g.1
    ∙ mul-mul-mul_comm p (down e) r (down d))))

-- ---- the sum
neg_sum : (p r : ℕ) → neg_ℤ (pos (p + r)) ≡ neg_ℤ (pos p) +ℤ neg_ℤ (pos r)
neg_sum p r = ring (pos p ∷ pos r ∷ []) (search read depth 40) tt

down_to : (p r : ℕ) → p ≤ r → neg_ℤ (pos (r - p)) ≡ pos p +ℤ neg_ℤ (pos r)
down_to p r h = let e : r ≡ r - p + p = omega arith in comb (pos p ∷ pos r ∷ pos (r - p) ∷ []) (ap pos e) (search read depth 40) tt

up_to : (p r : ℕ) → r ≤ p → pos (p - r) ≡ pos p +ℤ neg_ℤ (pos r)
up_to p r h = let e : p ≡ p - r + r = omega arith in comb (pos p ∷ pos r ∷ pos (p - r) ∷ []) (ap pos (sym e)) (search read depth 40) tt

flip : (x y : ℤ) → x +ℤ y ≡ y +ℤ x
flip x y = ring (x ∷ y ∷ []) (search read depth 40) tt

sub_mul : (a b c : ℕ) → (a - b) * c ≡ a * c - b * c
sub_mul a b c = mul_comm (a - b) c ∙ mul-sub c a b ∙ ap₂ ◌-◌ (mul_comm c a) (mul_comm c b)

less : (a b : ℕ) → a - b ≤ a + b
less a b = omega arith

module _ (a b C p r t : ℕ) (D : 0 < C) (B : t ≤ finest) (A : a * 2 ^ t ≡ p * C) (R : b * 2 ^ t ≡ r * C) (small : p + r < 2 ^ kept_digits) where
  ordered : a ≤ b → p ≤ r
  ordered h = le_of_mul-le-mul_right (le_trans (le_of_eq (sym A)) (le_trans (mul-le-mul_right (2 ^ t) h) (le_of_eq R))) D

  ordered' : b ≤ a → r ≤ p
  ordered' h = le_of_mul-le-mul_right (le_trans (le_of_eq (sym R)) (le_trans (mul-le-mul_right (2 ^ t) h) (le_of_eq A))) D

  plus : (s : Bool) → Value (round binary64 s (a + b) C) (signed s (p + r)) (2 ^ t)
  plus s =
      of_has (round binary64 s (a + b) C) s (p + r) (2 ^ t)
      (round_at s (a + b) C (p + r) t D B small (add-mul a b (2 ^ t) ∙ ap₂ ◌+◌ A R ∙ sym (add-mul p r C)))

  minus : (s : Bool) → Value (round binary64 s (a - b) C) (signed s (p - r)) (2 ^ t)
  minus s =
      of_has (round binary64 s (a - b) C) s (p - r) (2 ^ t)
      (round_at s (a - b) C (p - r) t D B (lt_of_le_of_lt (less p r) small) (sub_mul a b (2 ^ t) ∙ ap₂ ◌-◌ A R ∙ sym (sub_mul p r C)))

  minus' : (s : Bool) → Value (round binary64 s (b - a) C) (signed s (r - p)) (2 ^ t)
  minus' s =
      of_has (round binary64 s (b - a) C) s (r - p) (2 ^ t)
      (round_at s (b - a) C (r - p) t D B (lt_of_le_of_lt (le_trans (less r p) (le_of_eq (add_comm r p))) small) (sub_mul b a (2 ^ t) ∙ ap₂ ◌-◌ R A ∙ sym (sub_mul r p C)))

  sum_at : (s u : Bool) → Value (sum binary64 s a u b C) (signed s p +ℤ signed u r) (2 ^ t)
  unfolding sum
  sum_at false false = plus false
  sum_at true true = subst (λ (z : ℤ). Value (round binary64 true (a + b) C) z (2 ^ t)) (neg_sum p r) (plus true)
  sum_at false true = go (nat_lt a b) (ltb→lt a b) (nltb→le a b)
    where
      go : (c : Bool) → (T c → a < b) → (T (not c) → b ≤ a) → Value (cond c (round binary64 true (b - a) C) (round binary64 false (a - b) C)) (pos p +ℤ neg_ℤ (pos r)) (2 ^ t)
      go true h g = subst (λ (z : ℤ). Value (round binary64 true (b - a) C) z (2 ^ t)) (down_to p r (ordered (le_of_lt (h tt)))) (minus' true)
      go false h g = subst (λ (z : ℤ). Value (round binary64 false (a - b) C) z (2 ^ t)) (up_to p r (ordered' (g tt))) (minus false)
  sum_at true false = go (nat_lt a b) (ltb→lt a b) (nltb→le a b)
    where
      equal : (c : Bool) → (T (not c) → a ≤ b) → b ≤ a → Value (round binary64 c (a - b) C) (neg_ℤ (pos p) +ℤ pos r) (2 ^ t)
      equal true n g = subst (λ (z : ℤ). Value (round binary64 true (a - b) C) z (2 ^ t)) (down_to r p (ordered' g) ∙ flip (pos r) (neg_ℤ (pos p))) (minus true)
      equal false n g =
          subst (λ (z : ℤ). Value (round binary64 false (a - b) C) z (2 ^ t))
          (ap pos (both p r (ordered (n tt))) ∙ ap (λ (x : ℕ). neg_ℤ (pos x)) (sym (both p r (ordered (n tt)))) ∙ down_to r p (ordered' g) ∙ flip (pos r) (neg_ℤ (pos p))) (minus false)
        where
          both : (x y : ℕ) → x ≤ y → x - y ≡ 0
          both x y h = omega arith

      go : (c : Bool) → (T c → a < b) → (T (not c) → b ≤ a) → Value (cond c (round binary64 false (b - a) C) (round binary64 (nat_lt b a) (a - b) C)) (neg_ℤ (pos p) +ℤ pos r) (2 ^ t)
      go true h g = subst (λ (z : ℤ). Value (round binary64 false (b - a) C) z (2 ^ t)) (up_to r p (ordered (le_of_lt (h tt))) ∙ flip (pos r) (neg_ℤ (pos p))) (minus' false)
      go false h g = equal (nat_lt b a) (nltb→le b a) (g tt)

pub add_exact : (x y : Float) (k l : ℤ) (t : ℕ) → t ≤ finest → Value x k (2 ^ t) → Value y l (2 ^ t) → unsigned_abs k + unsigned_abs l < 2 ^ kept_digits → Value (add binary64 x y) (k +ℤ l) (2 ^ t)
unfolding add
add_exact nan y k l t b v w small = absurd v
add_exact (inf s) y k l t b v w small = absurd v
add_exact (fin s m e) nan k l t b v w small = absurd w
add_exact (fin s m e) (inf s') k l t b v w small = absurd w
add_exact (fin s m e) (fin s' n d) k l t b v w small =
    let h = has s m e k (2 ^ t) v in
    let g = has s' n d l (2 ^ t) w in
    let p = unsigned_abs k in
    let r = unsigned_abs l in
    subst (λ (z : ℤ). Value (sum binary64 s (m * up e * down d) s' (n * up d * down e) (down e * down d)) z (2 ^ t)) (sym (ap₂ ◌+ℤ◌ h.0 g.0))
    (sum_at (m * up e * down d) (n * up d * down e) (down e * down d) p r t (mul-pos (down_pos e) (down_pos d)) b
    (mul_right_comm (m * up e) (down d) (2 ^ t) ∙ ap (λ (z : ℕ). z * down d) h.1 ∙ mul_assoc p (down e) (down d))
    (mul_right_comm (n * up d) (down e) (2 ^ t) ∙ ap (λ (z : ℕ). z * down e) g.1 ∙ mul_assoc r (down d) (down e) ∙ ap (λ (z : ℕ). r * z) (mul_comm (down d) (down e)))
    small s s')
