-- What the library's methods answer, by the definitions here.
--
-- Main results
--   min_is, max_is, clamp_is          the smaller and the larger of two numbers; one held between two
--   min_exchange, max_exchange        either way round
--   signum_is, extent_is              the sign; the extent
--   min-answer, max-answer,
--   clamp-answer                      the same of answers that are read back, at equal numbers
use Rattle.std.specs.Prelude.{◌≡◌, refl, ◌^◌, ◌<◌, zero, suc, Bool, true, false, cond, int_lt, ℤ, pos, negsuc, nat_abs}
use Rattle.std.specs.Int.Signed.{mag}
use Rattle.std.specs.Int.{int_min, int_max, int_signum}
use Rattle.std.proofs.Common.{sym, ◌∙◌, ap, ap₂, arith}
use Rattle.std.proofs.Math.Nat.{min-eq_right}
use Rattle.integers.specs.Bits.{back}
use Rattle.integers.proofs.Theorems.Bits.{result_is}
use Rattle.integers.specs.MinMax.{min, max}
use Rattle.integers.specs.Clamp.{clamp}
use Rattle.integers.proofs.Theorems.Order.{pos-≤ℤ, ≤ℤ_antisym, ≤ℤ_of_<ℤ, lt_z-true, lt_z-false}
use Rattle.integers.proofs.Theorems.MinMax.{min-≤ˡ, min-≤ʳ, min-greatest, max-≥ˡ, max-≥ʳ, max_least, min_eqˡ, min_eqʳ, max_eqˡ, max_eqʳ}
use Rattle.edge.specs.Walk.{extent, sign}

pub min_is : (a b : ℤ) → int_min a b ≡ min a b
min_is a b = go (int_lt b a) refl
  where
    go : (t : Bool) → int_lt b a ≡ t → cond t b a ≡ min a b
    go true e = sym (min_eqʳ (≤ℤ_of_<ℤ (lt_z-true e)))
    go false e = sym (min_eqˡ (lt_z-false {a = b} {b = a} e))

pub max_is : (a b : ℤ) → int_max a b ≡ max a b
max_is a b = go (int_lt b a) refl
  where
    go : (t : Bool) → int_lt b a ≡ t → cond t a b ≡ max a b
    go true e = sym (max_eqˡ (≤ℤ_of_<ℤ (lt_z-true e)))
    go false e = sym (max_eqʳ (lt_z-false {a = b} {b = a} e))

pub clamp_is : (v lo hi : ℤ) → int_max lo (int_min v hi) ≡ clamp v lo hi
unfolding clamp
clamp_is v lo hi = max_is lo (int_min v hi) ∙ ap (max lo) (min_is v hi)

-- either way round
pub min_exchange : (a b : ℤ) → min a b ≡ min b a
min_exchange a b = ≤ℤ_antisym (min-greatest (min-≤ʳ a b) (min-≤ˡ a b)) (min-greatest (min-≤ʳ b a) (min-≤ˡ b a))

pub max_exchange : (a b : ℤ) → max a b ≡ max b a
max_exchange a b = ≤ℤ_antisym (max_least (max-≥ʳ b a) (max-≥ˡ b a)) (max_least (max-≥ʳ a b) (max-≥ˡ a b))

pub signum_is : (d : ℤ) → int_signum d ≡ sign d
unfolding sign
signum_is (pos zero) = refl
signum_is (pos (suc n)) = ap pos (min-eq_right (omega arith))
signum_is (negsuc n) = refl

pub extent_is : (d : ℤ) → int_max (pos (nat_abs d)) (pos 1) ≡ pos (extent d)
unfolding extent
extent_is d = go d (max_is (pos (nat_abs d)) (pos 1))
  where
    go : (d : ℤ) → int_max (pos (nat_abs d)) (pos 1) ≡ max (pos (nat_abs d)) (pos 1) → int_max (pos (nat_abs d)) (pos 1) ≡ pos (extent d)
    go (pos zero) e = refl
    go (pos (suc n)) e = e ∙ max_eqˡ (pos-≤ℤ (omega arith))
    go (negsuc n) e = e ∙ max_eqˡ (pos-≤ℤ (omega arith))

-- ---- read back
module _ {a b a' b' r : ℤ} (t : mag r < 2 ^ 63) where
  pub min-answer : r ≡ int_min a b → a ≡ a' → b ≡ b' → back r ≡ min a' b'
  min-answer e i j = result_is t (e ∙ min_is a b ∙ ap₂ min i j)

  pub max-answer : r ≡ int_max a b → a ≡ a' → b ≡ b' → back r ≡ max a' b'
  max-answer e i j = result_is t (e ∙ max_is a b ∙ ap₂ max i j)

pub clamp-answer : {v lo hi v' lo' hi' r : ℤ} → mag r < 2 ^ 63 → r ≡ int_max lo (int_min v hi) → v ≡ v' → lo ≡ lo' → hi ≡ hi' → back r ≡ clamp v' lo' hi'
clamp-answer {v} {lo} {hi} {v'} {lo'} {hi'} t e i j k = result_is t (e ∙ clamp_is v lo hi ∙ ap₂ (λ x y. clamp x y hi) i j ∙ ap (clamp v' lo') k)
