-- Laws of what specs/Division.antt defines. The head of that file lists the main results.
use Rattle.std.specs.Prelude.{◌≡◌, refl, [], ◌∷◌, ℕ, zero, suc, ◌/◌, ◌%◌, ◌<◌, ◌≤◌, ℤ, pos, negsuc, neg_ℤ, ◌≤ℤ◌, ◌<ℤ◌}
use Rattle.std.proofs.Common.{ap, arith, le_trans, lt_of_le_of_lt, mod-lt, div-le_self, ltb→lt, SFits}
use Rattle.std.proofs.Math.Nat.{div-add-mod, mod-le}
use Rattle.std.specs.Int.Signed.{mag, quot_z, rem_z, shr_z, mag_rem}
use Rattle.std.specs.Int.{Width}
use Rattle.integers.proofs.Theorems.Ring.{read, comb, ◌⊗◌}
use Rattle.integers.proofs.Theorems.Order.{nonneg, pos-≤ℤ, ≤_of_pos, ≤ℤ-neg}
use Rattle.integers.proofs.Theorems.Linear.{le, lt, ◌&◌, linear, lin≤, lin<}
use Rattle.integers.specs.Division.{Truncated}

pub truncated-neg : {n d q r : ℤ} → Truncated n d q r → Truncated (neg_ℤ n) d (neg_ℤ q) (neg_ℤ r)
truncated-neg {n} {d} {q} {r} t = record {
  whole = comb (n ∷ d ∷ q ∷ r ∷ []) (negsuc 0 ⊗ t.whole) (search read depth 40) tt;
  nonnegative = λ h. let k = t.nonpositive (lin≤ (n ∷ []) (le h) (search linear depth 40) tt) in (≤ℤ-neg k.0, ≤ℤ-neg k.1);
  nonpositive = λ h. let k = t.nonnegative (lin≤ (n ∷ []) (le h) (search linear depth 40) tt) in (≤ℤ-neg k.0, ≤ℤ-neg k.1);
  below = t.above;
  above = lin< (r ∷ d ∷ []) (lt t.below) (search linear depth 40) tt;
}

-- of a magnitude
truncated-pos : (a : ℕ) {d : ℕ} → 0 < d → Truncated (pos a) (pos d) (pos (a / d)) (pos (a % d))
truncated-pos a {d} h =
    let k : a % d < d = mod-lt a {m = d} h in
    record {
      whole = ap pos (omega (arith, div-add-mod a d));
      nonnegative = λ i. (nonneg (a / d), nonneg (a % d));
      nonpositive = λ i. (pos-≤ℤ (le_trans (div-le_self a d) (≤_of_pos i)), pos-≤ℤ (le_trans (mod-le a d) (≤_of_pos i)));
      below = lin< (pos (a % d) ∷ pos d ∷ []) (le (pos-≤ℤ k)) (search linear depth 40) tt;
      above = lin< (pos (a % d) ∷ pos d ∷ []) (le (pos-≤ℤ h) & le (nonneg (a % d))) (search linear depth 40) tt;
    }

pub truncated : (n d : ℤ) → pos 0 <ℤ d → Truncated n d (quot_z n d) (rem_z n d)
truncated n (negsuc d) h = absurd h.lt
truncated (pos a) (pos d) h = truncated-pos a (ltb→lt 0 d h.lt)
truncated (negsuc a) (pos d) h = truncated-neg (truncated-pos (suc a) (ltb→lt 0 d h.lt))

-- ---- both fit
mag-neg : (r : ℕ) {a : ℕ} → r ≤ suc a → mag (neg_ℤ (pos r)) ≤ a
mag-neg zero h = omega arith
mag-neg (suc r) h = omega arith

mag_quot : (n d : ℤ) → pos 0 <ℤ d → mag (quot_z n d) ≤ mag n
mag_quot n (negsuc d) h = absurd h.lt
mag_quot (pos a) (pos d) h = div-le_self a d
mag_quot (negsuc a) (pos d) h = mag-neg (suc a / d) (div-le_self (suc a) d)

fits_smaller : {w : Width} (x y : ℤ) → mag x ≤ mag y → SFits w y → SFits w x
fits_smaller {w} x y h f = let k = f.sfits in record { sfits = lt_of_le_of_lt h k }

pub quot_fits : {w : Width} (n d : ℤ) → SFits w n → pos 0 <ℤ d → SFits w (quot_z n d)
quot_fits n d f h = fits_smaller (quot_z n d) n (mag_quot n d h) f

pub rem_fits : {w : Width} (n d : ℤ) → SFits w n → SFits w (rem_z n d)
rem_fits n d f = fits_smaller (rem_z n d) n (mag_rem n d) f

-- ---- by a shift
pub shift_quot : (z : ℤ) (d : ℕ) → pos 0 ≤ℤ z → shr_z z d ≡ quot_z z (pos d)
shift_quot (pos a) d h = refl
shift_quot (negsuc a) d h = absurd h.le
