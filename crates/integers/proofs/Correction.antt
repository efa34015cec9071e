-- A quotient toward zero, corrected by one where the remainder is at least half of the divisor, is the nearest whole number, halves away from zero.
--
-- Main results
--   rounded_up, rounded-down, kept     the three ways out of `div_round_half_away`
--   up_at_most, down_at_least          a quotient that is corrected is still no farther from zero than n, so it fits
use mathlib.Core.Path.{◌≡◌, subst₂}
use mathlib.Core.List.{[], ◌∷◌}
use mathlib.Core.Logic.{◌⊎◌, inl, inr}
use lib.IntN.{ℤ, pos, neg_ℤ, neg_ℤ-neg_ℤ, nat_abs, ◌+ℤ◌, ◌-ℤ◌, ◌*ℤ◌}
use lib.Signed.{◌≤ℤ◌, ◌<ℤ◌}
use Rattle.integers.proofs.Theorems.Ring.{read, ring}
use Rattle.integers.proofs.Theorems.Order.{≤ℤ_or_<ℤ, ≤ℤ_of_<ℤ, add_one_≤ℤ, ≤ℤ-mul}
use Rattle.integers.proofs.Theorems.Linear.{le, lt, eq, ◌&◌, linear, lin≤, lin<, lin⊥}
use Rattle.integers.specs.Division.{Truncated}
use Rattle.integers.proofs.Theorems.Division.{truncated-neg}
use Rattle.integers.specs.Rounding.{round_half_away}
use Rattle.integers.specs.RoundHalfAway.{ErrorBounds}
use Rattle.integers.proofs.Theorems.RoundHalfAway.{error_neg, round_half_away_of_bounds'}

module _ {n d q r : ℤ} (t : Truncated n d q r) (h : pos 0 <ℤ d) (k : d ≤ℤ (pos 2 *ℤ r)) where
  -- a remainder above zero is that of a number above zero
  n≥0 : pos 0 ≤ℤ n
  n≥0 = go (≤ℤ_or_<ℤ (pos 0) n)
    where
      go : (pos 0 ≤ℤ n) ⊎ (n <ℤ pos 0) → pos 0 ≤ℤ n
      go (inl i) = i
      go (inr i) = lin⊥ (r ∷ d ∷ []) (le (t.nonpositive (≤ℤ_of_<ℤ i)).1 & le k & lt h) (search linear depth 40) tt

  pub up_at_least : pos 0 ≤ℤ q
  up_at_least = (t.nonnegative n≥0).0

  -- q is at most q d, and the remainder is not 0
  pub up_at_most : (q +ℤ pos 1) ≤ℤ n
  up_at_most =
      lin≤ (n ∷ d ∷ q ∷ r ∷ []) (eq t.whole & le (≤ℤ-mul up_at_least (add_one_≤ℤ h)) & le k & lt h) (search linear depth 40) tt

  corrected : ErrorBounds n d (q +ℤ pos 1)
  corrected = record {
    over = lin≤ (n ∷ d ∷ q ∷ r ∷ []) (eq t.whole & le k) (search linear depth 40) tt;
    under = lin≤ (n ∷ d ∷ q ∷ r ∷ []) (eq t.whole & lt t.below & lt h) (search linear depth 40) tt;
    under_strict = λ i. lin< (n ∷ d ∷ q ∷ r ∷ []) (eq t.whole & lt t.below & lt h) (search linear depth 40) tt;
    over_strict = λ i. lin⊥ (n ∷ q ∷ []) (le up_at_most & le up_at_least & le i) (search linear depth 40) tt;
  }

  pub rounded_up : q +ℤ pos 1 ≡ round_half_away n (nat_abs d)
  rounded_up = round_half_away_of_bounds' h corrected

-- the same below zero
module _ {n d q r : ℤ} (t : Truncated n d q r) (h : pos 0 <ℤ d) (k : d ≤ℤ (pos 2 *ℤ neg_ℤ r)) where
  pub down_at_most : q ≤ℤ pos 0
  down_at_most = lin≤ (q ∷ []) (le (up_at_least (truncated-neg t) h k)) (search linear depth 40) tt

  pub down_at_least : n ≤ℤ (q -ℤ pos 1)
  down_at_least = lin≤ (n ∷ q ∷ []) (le (up_at_most (truncated-neg t) h k)) (search linear depth 40) tt

  pub rounded-down : q -ℤ pos 1 ≡ round_half_away n (nat_abs d)
  rounded-down =
      round_half_away_of_bounds' h
      (subst₂ (λ x y. ErrorBounds x d y) (neg_ℤ-neg_ℤ n) (ring (q ∷ []) (search read depth 40) tt) (error_neg (corrected (truncated-neg t) h k)))

pub kept : {n d q r : ℤ} → Truncated n d q r → pos 0 <ℤ d → (pos 2 *ℤ r) <ℤ d → (pos 2 *ℤ neg_ℤ r) <ℤ d → q ≡ round_half_away n (nat_abs d)
kept {n} {d} {q} {r} t h i j = round_half_away_of_bounds' h (record {
  over = lin≤ (n ∷ d ∷ q ∷ r ∷ []) (eq t.whole & lt j) (search linear depth 40) tt;
  under = lin≤ (n ∷ d ∷ q ∷ r ∷ []) (eq t.whole & lt i) (search linear depth 40) tt;
  under_strict = λ g. lin< (n ∷ d ∷ q ∷ r ∷ []) (eq t.whole & lt i) (search linear depth 40) tt;
  over_strict = λ g. lin< (n ∷ d ∷ q ∷ r ∷ []) (eq t.whole & lt j) (search linear depth 40) tt;
})
