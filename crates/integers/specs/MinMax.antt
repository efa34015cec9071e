-- The smaller and the larger of two integers.
--
-- Main results (the laws among them are in proofs/Theorems/MinMax.antt)
--   min_view, max_view                      which of the two it is, and why
--   min-≤ˡ, min-≤ʳ, min-greatest            the minimum is the greatest lower bound
--   max-≥ˡ, max-≥ʳ, max_least               the maximum is the least upper bound
--   min_eqˡ, min_eqʳ, max_eqˡ, max_eqʳ      where the order is known
--   min_scale                               a factor that is not negative comes out
--   min_moves, max_moves                    neither moves by more than its two arguments do
use Rattle.std.specs.Prelude.{◌≡◌, cond, ℤ}
use Rattle.std.specs.Int.Signed.{le_z}

unfoldable pub min : ℤ → ℤ → ℤ
min a b = cond (le_z a b) a b

unfoldable pub max : ℤ → ℤ → ℤ
max a b = cond (le_z b a) a b

-- m is a, and P holds, or m is b, and Q holds
pub data Chosen (P Q : Type 0) (a b m : ℤ) : Type 0 where
  first : P → m ≡ a → Chosen P Q a b m
  second : Q → m ≡ b → Chosen P Q a b m
