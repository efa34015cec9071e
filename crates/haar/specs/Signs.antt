-- The sign that a detail has at a child, in any number of dimensions.
--
-- A child's number has the bit worth 1 where it lies in the second half of x (on the right), the bit worth 2 in the second half of y (the lower
-- one), the bit worth 4 in the second half of z. A detail's number has the bit of each direction in which it takes second halves from first halves.
-- The signs are a Walsh–Hadamard matrix; on the tile they are 01's (`figure-quarter` of `Laws/Quarters`).
--
-- Definitions
--   alternate n         (−1)^n
--   sign e c            the sign of detail e at child c
use Rattle.std.specs.Prelude.{ℕ, zero, suc, ℤ, pos, neg_ℤ}
use Rattle.std.specs.Int.Bits.{bit_and}
use Rattle.std.specs.Int.Count.{ones}

unfoldable pub alternate : ℕ → ℤ
alternate zero = pos 1
alternate (suc n) = neg_ℤ (alternate n)

-- (−1)^(ones in e AND c): it turns once for each direction of e in which child c lies in the second half
unfoldable pub sign : ℕ → ℕ → ℤ
sign e c = alternate (ones (bit_and e c))
