-- n² times where a curve is: not negative, and at most n² times what its three points are at most.
--
-- Main results
--   num_low, num_high            the bounds
use Rattle.std.proofs.Common.{[], ◌∷◌, ℤ, pos, ◌-ℤ◌, ◌*ℤ◌, ◌≤ℤ◌}
use Rattle.integers.proofs.Theorems.Order.{≤ℤ-mul, ≤ℤ-mul-nonneg, ≤ℤ-square}
use Rattle.integers.proofs.Theorems.Linear.{le, ◌&◌, linear, lin≤}
use Rattle.curve.specs.Curve.{curve_num}

left : {n i : ℤ} → i ≤ℤ n → pos 0 ≤ℤ (n -ℤ i)
left {n} {i} k = lin≤ (n ∷ i ∷ []) (le k) (search linear depth 40) tt

-- the three weights are not negative, and add up to n²
module _ {n i : ℤ} (h : pos 0 ≤ℤ i) (k : i ≤ℤ n) where
  pub num_low : {p q r : ℤ} → pos 0 ≤ℤ p → pos 0 ≤ℤ q → pos 0 ≤ℤ r → pos 0 ≤ℤ curve_num p q r n i
  num_low {p} {q} {r} a b c =
      lin≤ (p ∷ q ∷ r ∷ n ∷ i ∷ [])
      (le (≤ℤ-mul-nonneg (≤ℤ-square (n -ℤ i)) a) & le (≤ℤ-mul-nonneg (≤ℤ-mul-nonneg h (left k)) b) & le (≤ℤ-mul-nonneg (≤ℤ-square i) c))
      (search linear depth 40) tt

  pub num_high : {p q r w : ℤ} → p ≤ℤ w → q ≤ℤ w → r ≤ℤ w → curve_num p q r n i ≤ℤ (w *ℤ (n *ℤ n))
  num_high {p} {q} {r} {w} a b c =
      lin≤ (p ∷ q ∷ r ∷ n ∷ i ∷ w ∷ [])
      (le (≤ℤ-mul a (≤ℤ-square (n -ℤ i))) & le (≤ℤ-mul b (≤ℤ-mul-nonneg h (left k))) & le (≤ℤ-mul c (≤ℤ-square i))) (search linear depth 40) tt
