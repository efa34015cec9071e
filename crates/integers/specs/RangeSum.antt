-- Finite sums Σ_{t<n} f(t) of integers.
--
-- Main results (the laws among them are in proofs/Theorems/RangeSum.antt)
--   Σ-zero, Σ-suc                      one term at a time
--   Σ_cong                             equal terms, equal sums
--   Σ-add, Σ_scale, Σ-neg              linearity
--   Σ_const                            equal terms add up to their number times one
--   Σ_telescope                        differences of neighbours add up to the difference of the ends
--   Σ-split, Σ_first                   the first p terms, and the rest; the first term, and the rest
--   Σ-rows, Σ_power                    m rows of n terms, row by row; m ^ n rows of m
--   Σ-swap                             two sums, in the other order
--   Σ_one                              where all terms but one are 0, the sum is that one
--   Σ_within                           n terms within b add up to within n times b
use Rattle.std.specs.Prelude.{ℕ, zero, suc, ℤ, pos, ◌+ℤ◌}

unfoldable pub Σ< : ℕ → (ℕ → ℤ) → ℤ
Σ< zero f = pos 0
Σ< (suc n) f = Σ< n f +ℤ f n
