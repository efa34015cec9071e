-- A float times 65,536, which is 2^16: the same digits with another exponent, so that the product is exact, whatever the float, as long as it is no
-- larger than a placed coordinate.
--
-- Main results
--   scaled                        the product is the float in parts
--   whole_parts                   k / 65,536 in parts is the whole number k
use Rattle.std.specs.Prelude.{◌≡◌, ℕ, zero, suc, ◌+◌, ◌-◌, ◌*◌, ◌%◌, ◌^◌, ◌<◌, ◌≤◌, Bool, true, false, not, ◌&&◌, T, leb, [], ◌∷◌, ℤ, pos, negsuc, ◌*ℤ◌, nat_eq, nat_le, nat_lt, unsigned_abs, Float}
use Rattle.std.proofs.Common.{sym, ap, ◌∙◌, subst, mul_assoc, mul_right_comm, mul-one, zero-mul, mul-pos, mul-le-mul_right, le_trans, le_of_eq, lt_of_lt_of_le, lt_of_le_of_lt, not-le_of_lt, arith, ltb→lt, leb→le, lit<, pow-add, pow_pos, pow_mono, shl_lt}
use Rattle.std.proofs.Math.Nat.{eq_of_mul-eq-mul_right}
use Rattle.std.proofs.Math.Dec.{nleb→lt}
use Rattle.std.proofs.Math.Pow.{pow-lt}
use Rattle.std.specs.Float.{nan, inf, fin, binary64}
use Rattle.std.specs.Float.Ieee.{up, down, round, mul, fits}
use Rattle.std.specs.Float.Ieee.Fits.{down_pos, and_l, and_r}
use Rattle.std.specs.Float.Ieee.Exact.{HasValue, round_exact}
use Rattle.integers.specs.Units.{parts_per_step, placed_limit}
use Rattle.integers.proofs.Theorems.Linear.{eq, linear, lin≡}
use Rattle.placement.specs.Parts.{signed, Value, Inside, InParts, part_bits, per_step, kept_digits}
use Rattle.placement.proofs.Laws.Values.{of_has, has, signed_mul}
use Rattle.placement.proofs.Laws.ExactArithmetic.{finest, span}

-- ---- a float of 64 bits has at most 53 digits, and no exponent below −1074
digits : (s : Bool) (m : ℕ) (e : ℤ) → T (fits binary64 (fin s m e)) → m < 2 ^ kept_digits
unfolding fits
digits s zero e t = lit< tt
digits s (suc m) e t =
    let a : Bool = nat_eq (suc m % 2) 1 in
    let b : Bool = nat_lt (suc m) (2 ^ kept_digits) in
    let c : Bool = leb (down e) (2 ^ finest) in
    let d : Bool = nat_lt (suc m * up e) (2 ^ 1024 * down e) in
    ltb→lt (suc m) (2 ^ kept_digits) (and_r a b (and_l (a && b) c (and_l (a && b && c) d t)))

depth : (s : Bool) (m j : ℕ) → T (fits binary64 (fin s (suc m) (negsuc j))) → suc j ≤ finest
unfolding fits
depth s m j t =
    let a : Bool = nat_eq (suc m % 2) 1 in
    let b : Bool = nat_lt (suc m) (2 ^ kept_digits) in
    let c : Bool = leb (2 ^ suc j) (2 ^ finest) in
    let d : Bool = nat_lt (suc m * 1) (2 ^ 1024 * 2 ^ suc j) in
    let h : 2 ^ suc j ≤ 2 ^ finest = leb→le (2 ^ suc j) (2 ^ finest) (and_r (a && b) c (and_l (a && b && c) d t)) in
    go (nat_le (suc j) finest) (leb→le (suc j) finest) (nleb→lt (suc j) finest) h
  where
    go : (b : Bool) → (T b → suc j ≤ finest) → (T (not b) → finest < suc j) → 2 ^ suc j ≤ 2 ^ finest → suc j ≤ finest
    go true f g h = f tt
    go false f g h = absurd (not-le_of_lt (pow-lt (g tt)) h)

-- ---- x × 65,536: the same digits, with an exponent greater by 16, which is in range both ways
abbrev raised : ℕ
raised = finest + part_bits

exact_scale : (s : Bool) (m : ℕ) (e : ℤ) → T (fits binary64 (fin s m e)) → m * up e ≤ placed_limit * down e
    → HasValue (round binary64 s (m * up e * parts_per_step) (down e * 1)) s (m * up e * parts_per_step) (down e * 1)
exact_scale s m (pos i) f b =
    let whole : m * 2 ^ (i + raised) ≡ m * 2 ^ i * 2 ^ raised = ap (λ (z : ℕ). m * z) (pow-add 2 i raised) ∙ sym (mul_assoc m (2 ^ i) (2 ^ raised)) in
    round_exact binary64 s (m * 2 ^ i * parts_per_step) 1 m (i + raised) (lit< tt) (digits s m (pos i) f)
    (lt_of_le_of_lt (le_trans (le_of_eq whole) (mul-le-mul_right (2 ^ raised) b)) (lit< tt))
    (mul_assoc (m * 2 ^ i) parts_per_step (2 ^ finest) ∙ sym whole ∙ sym (mul-one (m * 2 ^ (i + raised))))
exact_scale s zero (negsuc j) f b =
    round_exact binary64 s 0 (2 ^ suc j * 1) 0 0 (mul-pos (pow_pos (suc j)) (lit< tt)) (lit< tt) (lit< tt) (sym (zero-mul (2 ^ suc j * 1)))
exact_scale s (suc m) (negsuc j) f b =
    let t = suc j in
    let d = depth s m j f in
    let n = suc m in
    round_exact binary64 s (n * 1 * parts_per_step) (2 ^ t * 1) n (raised - t) (mul-pos (pow_pos t) (lit< tt)) (digits s n (negsuc j) f)
    (lt_of_lt_of_le (shl_lt 53 (raised - t) (digits s n (negsuc j) f)) (pow_mono (room t)))
    (mul_assoc (n * 1) parts_per_step (2 ^ finest)
    ∙ ap (λ (z : ℕ). z * 2 ^ raised) (mul-one n)
    ∙ ap (λ (z : ℕ). n * z) (ap (λ (z : ℕ). 2 ^ z) (back t d) ∙ pow-add 2 (raised - t) t)
    ∙ sym (mul_assoc n (2 ^ (raised - t)) (2 ^ t))
    ∙ ap (λ (z : ℕ). n * 2 ^ (raised - t) * z) (sym (mul-one (2 ^ t))))
  where
    room : (t : ℕ) → kept_digits + (raised - t) ≤ span
    room t = omega arith

    back : (t : ℕ) → t ≤ finest → raised ≡ raised - t + t
    back t h = omega arith

scale_has : (s : Bool) (m : ℕ) (e : ℤ) → T (fits binary64 (fin s m e)) → m * up e ≤ placed_limit * down e
    → HasValue (mul binary64 (fin s m e) per_step) s (m * up e * parts_per_step) (down e * 1)
unfolding mul
scale_has true m e f b = exact_scale true m e f b
scale_has false m e f b = exact_scale false m e f b

scaled_value : (x : Float) → T (fits binary64 x) → Inside placed_limit x → (k : ℤ) (d : ℕ) → Value x k d → Value (mul binary64 x per_step) (k *ℤ pos parts_per_step) d
scaled_value nan f b k d w = absurd b
scaled_value (inf s) f b k d w = absurd b
scaled_value (fin s m e) f b k d w = go (mul binary64 (fin s m e) per_step) (scale_has s m e f b)
  where
    size : unsigned_abs k * down e ≡ m * up e * d
    size = sym (has s m e k d w).1

    sign : signed s (unsigned_abs k * parts_per_step) ≡ k *ℤ pos parts_per_step
    sign = sym (signed_mul s (unsigned_abs k) parts_per_step) ∙ ap (λ (z : ℤ). z *ℤ pos parts_per_step) (sym (has s m e k d w).0)

    go : (x : Float) → HasValue x s (m * up e * parts_per_step) (down e * 1) → Value x (k *ℤ pos parts_per_step) d
    go nan v = absurd v
    go (inf t) v = absurd v
    go (fin t n i) v =
        let product : n * up i * down e ≡ m * up e * parts_per_step * down i = ap (λ (z : ℕ). n * up i * z) (sym (mul-one (down e))) ∙ v.1 in
        let q = unsigned_abs k * parts_per_step in
        let cross : n * up i * d ≡ q * down i =
        eq_of_mul-eq-mul_right (down e) (down_pos e) (n * up i * d) (q * down i)
        (mul_right_comm (n * up i) d (down e)
        ∙ ap (λ (z : ℕ). z * d) product
        ∙ ap (λ (z : ℕ). z * d) (mul_right_comm (m * up e) parts_per_step (down i))
        ∙ mul_right_comm (m * up e * down i) parts_per_step d
        ∙ ap (λ (z : ℕ). z * parts_per_step) (mul_right_comm (m * up e) (down i) d ∙ ap (λ (z : ℕ). z * down i) (sym size) ∙ mul_right_comm (unsigned_abs k) (down e) (down i))
        ∙ mul_right_comm (unsigned_abs k * down i) (down e) parts_per_step
        ∙ ap (λ (z : ℕ). z * down e) (mul_right_comm (unsigned_abs k) (down i) parts_per_step)) in
        subst (λ (z : ℤ). Value (fin t n i) z d) sign (of_has (fin t n i) s q d (v.0, cross))

pub scaled : (x : Float) → T (fits binary64 x) → Inside placed_limit x → InParts x (mul binary64 x per_step)
scaled x f i = record { exact = scaled_value x f i }

-- ---- of k parts, the whole number k
pub whole_parts : (w : Float) (k : ℤ) → Value w (k *ℤ pos parts_per_step) parts_per_step → Value w k 1
whole_parts nan k v = v
whole_parts (inf s) k v = v
whole_parts (fin s m e) k v = lin≡ (signed s (m * up e) ∷ k ∷ pos (down e) ∷ []) (eq v) (search linear depth 40) (tt, tt)
