-- The definitions by the half before a crossing, 0, and the one after it, as the code's test k = 0 tells them apart.
use Rattle.std.proofs.Common.{◌≡◌, refl, ap, ℕ, zero, suc, ℤ, ◌+ℤ◌, ◌-ℤ◌}
use Rattle.integers.specs.MinMax.{min, max}
use Rattle.slanted.specs.Parts.{since, until, shifted}

module _ {k : ℕ} (t m : ℤ) where
  pub since_before : k ≡ 0 → since k t m ≡ t
  unfolding since
  since_before e = ap (λ k. since k t m) e

  pub until_before : k ≡ 0 → until k t m ≡ min t m
  unfolding until
  until_before e = ap (λ k. until k t m) e

  pub shifted_before : k ≡ 0 → shifted k t m ≡ t -ℤ m
  unfolding shifted
  shifted_before e = ap (λ k. shifted k t m) e

module _ (t m : ℤ) where
  pub since_after : {k : ℕ} → (k ≡ 0 → ⊥) → since k t m ≡ max t m
  unfolding since
  since_after {k = zero} n = absurd (n refl)
  since_after {k = suc k} n = refl

  pub until_after : {k : ℕ} → (k ≡ 0 → ⊥) → until k t m ≡ t
  unfolding until
  until_after {k = zero} n = absurd (n refl)
  until_after {k = suc k} n = refl

  pub shifted_after : {k : ℕ} → (k ≡ 0 → ⊥) → shifted k t m ≡ t +ℤ m
  unfolding shifted
  shifted_after {k = zero} n = absurd (n refl)
  shifted_after {k = suc k} n = refl
