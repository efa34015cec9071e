-- Definitions that go by a sign, as the code tests it.
--
-- Main results
--   sign-positive, sign-negative, sign_zero            of the sign
--   extent-positive, extent-negative, extent-zero      of the extent
--   abs-negative, abs_nonnegative                      of the magnitude
--   half_first, half_second,
--   before_first, before_second                        of the half that two points lie in, and how far before its middle
--   strip_forward, strip_backward,
--   strip-between, strip_outside                       of the steps between two lines
use mathlib.Core.Path.{◌≡◌, refl, ◌∙◌, ap}
use mathlib.Core.List.{[], ◌∷◌}
use mathlib.Core.Logic.{◌⊎◌, inl, inr}
use mathlib.Core.Bool.{Bool, true, false, cond}
use Prim.Native.Nat.{zero, suc}
use lib.IntN.{ℤ, pos, negsuc, neg_ℤ, ◌+ℤ◌, ◌-ℤ◌}
use lib.Signed.{◌≤ℤ◌, ◌<ℤ◌, lt_z}
use Rattle.integers.proofs.Theorems.Ring.{read, ring}
use Rattle.integers.proofs.Theorems.Order.{nonneg, ≤ℤ_antisym, lt_z-true, lt_z-false}
use Rattle.integers.proofs.Theorems.Linear.{le, lt, ◌&◌, linear, lin⊥}
use Rattle.edge.specs.declared.Span.{Span}
use Rattle.edge.specs.Walk.{extent, sign}
use Rattle.integers.specs.Magnitude.{abs}
use Rattle.edge.specs.Code.{half_with, before_half}
use Rattle.edge.specs.Cuts.{all_steps, no_steps, strip}

pub sign-positive : (d : ℤ) → pos 0 <ℤ d → sign d ≡ pos 1
unfolding sign
sign-positive (pos zero) h = absurd h.lt
sign-positive (pos (suc n)) h = refl
sign-positive (negsuc n) h = absurd h.lt

pub sign-negative : (d : ℤ) → d <ℤ pos 0 → sign d ≡ negsuc 0
unfolding sign
sign-negative (pos zero) h = absurd h.lt
sign-negative (pos (suc n)) h = lin⊥ (pos n ∷ []) (lt h & le (nonneg n)) (search linear depth 40) tt
sign-negative (negsuc n) h = refl

pub sign_zero : {d : ℤ} → d ≤ℤ pos 0 → pos 0 ≤ℤ d → sign d ≡ pos 0
unfolding sign
sign_zero h k = ap sign (≤ℤ_antisym h k)

pub extent-positive : (d : ℤ) → pos 0 <ℤ d → pos (extent d) ≡ d
unfolding extent
extent-positive (pos zero) h = absurd h.lt
extent-positive (pos (suc n)) h = refl
extent-positive (negsuc n) h = absurd h.lt

pub extent-negative : (d : ℤ) → d <ℤ pos 0 → pos (extent d) ≡ pos 0 -ℤ d
unfolding extent
extent-negative (pos zero) h = absurd h.lt
extent-negative (pos (suc n)) h = lin⊥ (pos n ∷ []) (lt h & le (nonneg n)) (search linear depth 40) tt
extent-negative (negsuc n) h = ring (pos n ∷ []) (search read depth 40) tt

pub extent-zero : {d : ℤ} → d ≤ℤ pos 0 → pos 0 ≤ℤ d → pos (extent d) ≡ pos 1
unfolding extent
extent-zero h k = ap (λ d. pos (extent d)) (≤ℤ_antisym h k)

pub abs-negative : (z : ℤ) → z <ℤ pos 0 → abs z ≡ pos 0 -ℤ z
unfolding abs
abs-negative (pos n) h = lin⊥ (pos n ∷ []) (lt h & le (nonneg n)) (search linear depth 40) tt
abs-negative (negsuc n) h = ring (pos n ∷ []) (search read depth 40) tt

pub abs_nonnegative : (z : ℤ) → pos 0 ≤ℤ z → abs z ≡ z
unfolding abs
abs_nonnegative (pos n) h = refl
abs_nonnegative (negsuc n) h = absurd h.le

-- the first half or the second
pub half_first : (u : ℤ) → pos 0 ≤ℤ u → half_with u ≡ 0
unfolding half_with
half_first (pos n) h = refl
half_first (negsuc n) h = absurd h.le

pub half_second : (u : ℤ) → u <ℤ pos 0 → half_with u ≡ 1
unfolding half_with
half_second (pos n) h = lin⊥ (pos n ∷ []) (lt h & le (nonneg n)) (search linear depth 40) tt
half_second (negsuc n) h = refl

pub before_first : (u half : ℤ) → pos 0 ≤ℤ u → before_half u half ≡ u -ℤ half
unfolding before_half
before_first (pos n) half h = refl
before_first (negsuc n) half h = absurd h.le

pub before_second : (u half : ℤ) → u <ℤ pos 0 → before_half u half ≡ u +ℤ half
unfolding before_half
before_second (pos n) half h = lin⊥ (pos n ∷ []) (lt h & le (nonneg n)) (search linear depth 40) tt
before_second (negsuc n) half h = refl

pub strip_forward : (s lower upper n : ℤ) → pos 0 <ℤ s → strip s lower upper n ≡ record { first = lower; last = upper }
unfolding strip
strip_forward (pos zero) lower upper n h = absurd h.lt
strip_forward (pos (suc s)) lower upper n h = refl
strip_forward (negsuc s) lower upper n h = absurd h.lt

pub strip_backward : (s lower upper n : ℤ) → s <ℤ pos 0 → strip s lower upper n ≡ record { first = neg_ℤ upper; last = neg_ℤ lower }
unfolding strip
strip_backward (pos zero) lower upper n h = absurd h.lt
strip_backward (pos (suc s)) lower upper n h = lin⊥ (pos s ∷ []) (lt h & le (nonneg s)) (search linear depth 40) tt
strip_backward (negsuc s) lower upper n h = refl

-- standing still between the lines, or not
pub strip-between : {s lower upper : ℤ} (n : ℤ) → s ≤ℤ pos 0 → pos 0 ≤ℤ s → lower <ℤ pos 0 → pos 0 <ℤ upper → strip s lower upper n ≡ record { first = pos 0; last = n }
unfolding strip
strip-between {s} {lower} {upper} n h k i j = ap (λ s. strip s lower upper n) (≤ℤ_antisym h k) ∙ go (lt_z lower (pos 0)) (lt_z (pos 0) upper) lt_z-false lt_z-false
  where
    go : (b c : Bool) → (b ≡ false → pos 0 ≤ℤ lower) → (c ≡ false → upper ≤ℤ pos 0)
        → ◌≡◌ {A = Span} (cond b (cond c (all_steps n) (no_steps n)) (no_steps n)) (record { first = pos 0; last = n })
    go true true _ _ = refl
    go true false _ q = lin⊥ (upper ∷ []) (lt j & le (q refl)) (search linear depth 40) tt
    go false c p _ = lin⊥ (lower ∷ []) (lt i & le (p refl)) (search linear depth 40) tt

pub strip_outside : {s lower upper : ℤ} (n : ℤ) → s ≤ℤ pos 0 → pos 0 ≤ℤ s → (pos 0 ≤ℤ lower) ⊎ (upper ≤ℤ pos 0) → strip s lower upper n ≡ record { first = n; last = pos 0 }
unfolding strip
strip_outside {s} {lower} {upper} n h k o = ap (λ s. strip s lower upper n) (≤ℤ_antisym h k) ∙ go (lt_z lower (pos 0)) (lt_z (pos 0) upper) lt_z-true lt_z-true o
  where
    go : (b c : Bool) → (b ≡ true → lower <ℤ pos 0) → (c ≡ true → pos 0 <ℤ upper) → (pos 0 ≤ℤ lower) ⊎ (upper ≤ℤ pos 0)
        → ◌≡◌ {A = Span} (cond b (cond c (all_steps n) (no_steps n)) (no_steps n)) (record { first = n; last = pos 0 })
    go false c _ _ _ = refl
    go true false _ _ _ = refl
    go true true p q (inl i) = lin⊥ (lower ∷ []) (le i & lt (p refl)) (search linear depth 40) tt
    go true true p q (inr i) = lin⊥ (upper ∷ []) (le i & lt (q refl)) (search linear depth 40) tt
