-- The ends of a curve's chords: the first and the last are the curve's own, and all lie between what its three points lie between.
--
-- Main results
--   power_square                2^k × 2^k is 4^k
--   chord_end_first, chord_end_last
--   chord_end_low, chord_end_high
use Rattle.std.specs.Prelude.{◌≡◌, refl, [], ◌∷◌, ℕ, zero, suc, ◌*◌, ◌^◌, ◌<◌, ◌≤◌, ℤ, pos, ◌-ℤ◌, ◌*ℤ◌, ◌≤ℤ◌}
use Rattle.std.proofs.Common.{sym, ◌∙◌, ap, ap₂, subst, arith, pow-suc}
use Rattle.std.proofs.Math.Nat.{one-le-pow, mul-mul-mul_comm}
use Rattle.integers.proofs.Theorems.Ring.{read, comb, ◌⊗◌}
use Rattle.integers.proofs.Theorems.Order.{pos-≤ℤ, nonneg, ≤ℤ_scale, ≤ℤ-mul, ≤ℤ-mul-nonneg, ≤ℤ-square}
use Rattle.integers.proofs.Theorems.Linear.{le, eq, ◌&◌, linear, lin≤}
use Rattle.integers.specs.Rounding.{round_half_up}
use Rattle.integers.proofs.Theorems.RoundHalfUp.{round_half_up-mul, round_half_up-mono}
use Rattle.curve.specs.Curve.{curve_num, chord_end}

pub power_square : (k : ℕ) → 2 ^ k * 2 ^ k ≡ 4 ^ k
power_square zero = refl
power_square (suc k) =
    ap₂ ◌*◌ (pow-suc 2 k) (pow-suc 2 k) ∙ mul-mul-mul_comm (2 ^ k) 2 (2 ^ k) 2 ∙ ap (λ x. x * 4) (power_square k) ∙ sym (pow-suc 4 k)

some : (k : ℕ) → 0 < 4 ^ k
some k = one-le-pow k 4 (omega arith)

-- 4^k times a whole number
whole : (k : ℕ) (n z : ℤ) → z ≡ n *ℤ pos (4 ^ k) → round_half_up z (4 ^ k) ≡ n
whole k n z e = ap (λ x. round_half_up x (4 ^ k)) e ∙ round_half_up-mul n (some k)

module _ (p q r : ℤ) (k : ℕ) where
  abbrev n : ℤ
  n = pos (2 ^ k)

  square : n *ℤ n ≡ pos (4 ^ k)
  square = ap pos (power_square k)

  pub chord_end_first : chord_end p q r k 0 ≡ p
  chord_end_first = whole k p (curve_num p q r n (pos 0)) (comb (p ∷ q ∷ r ∷ n ∷ pos (4 ^ k) ∷ []) (p ⊗ square) (search read depth 40) tt)

  pub chord_end_last : chord_end p q r k (2 ^ k) ≡ r
  chord_end_last = whole k r (curve_num p q r n n) (comb (p ∷ q ∷ r ∷ n ∷ pos (4 ^ k) ∷ []) (r ⊗ square) (search read depth 40) tt)

  module _ (i : ℕ) (h : i ≤ 2 ^ k) where
    -- the three weights are not negative, and add up to n²
    left : pos 0 ≤ℤ (n -ℤ pos i)
    left = lin≤ (n ∷ pos i ∷ []) (le (pos-≤ℤ h)) (search linear depth 40) tt

    pub chord_end_high : {w : ℤ} → p ≤ℤ w → q ≤ℤ w → r ≤ℤ w → chord_end p q r k i ≤ℤ w
    chord_end_high {w} a b c =
        subst (λ z. chord_end p q r k i ≤ℤ z) (round_half_up-mul w (some k))
        (round_half_up-mono (curve_num p q r n (pos i)) (w *ℤ pos (4 ^ k)) (some k) (some k)
        (lin≤ (p ∷ q ∷ r ∷ n ∷ pos i ∷ w ∷ pos (4 ^ k) ∷ []) (le (≤ℤ_scale (4 ^ k) below)) (search linear depth 40) tt))
      where
        below : curve_num p q r n (pos i) ≤ℤ (w *ℤ pos (4 ^ k))
        below =
            lin≤ (p ∷ q ∷ r ∷ n ∷ pos i ∷ w ∷ pos (4 ^ k) ∷ [])
            (le (≤ℤ-mul a (≤ℤ-square (n -ℤ pos i))) & le (≤ℤ-mul b (≤ℤ-mul-nonneg (nonneg i) left)) & le (≤ℤ-mul c (≤ℤ-square (pos i)))
            & eq (w ⊗ square)) (search linear depth 40) tt

    pub chord_end_low : {w : ℤ} → w ≤ℤ p → w ≤ℤ q → w ≤ℤ r → w ≤ℤ chord_end p q r k i
    chord_end_low {w} a b c =
        subst (λ z. z ≤ℤ chord_end p q r k i) (round_half_up-mul w (some k))
        (round_half_up-mono (w *ℤ pos (4 ^ k)) (curve_num p q r n (pos i)) (some k) (some k)
        (lin≤ (p ∷ q ∷ r ∷ n ∷ pos i ∷ w ∷ pos (4 ^ k) ∷ []) (le (≤ℤ_scale (4 ^ k) above)) (search linear depth 40) tt))
      where
        above : (w *ℤ pos (4 ^ k)) ≤ℤ curve_num p q r n (pos i)
        above =
            lin≤ (p ∷ q ∷ r ∷ n ∷ pos i ∷ w ∷ pos (4 ^ k) ∷ [])
            (le (≤ℤ-mul a (≤ℤ-square (n -ℤ pos i))) & le (≤ℤ-mul b (≤ℤ-mul-nonneg (nonneg i) left)) & le (≤ℤ-mul c (≤ℤ-square (pos i)))
            & eq (w ⊗ square)) (search linear depth 40) tt
