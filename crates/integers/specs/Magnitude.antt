-- The magnitude |z| of an integer, as an integer.
--
-- Main results (the laws among them are in proofs/Theorems/Magnitude.antt)
--   abs_view                                |z| is z or −z, whichever is not negative
--   abs-nonneg, le-abs, neg-le-abs, abs-le  |z| ≤ b is z ≤ b and −z ≤ b
--   abs-pos, abs_neg, abs-mul               of a natural number, a negation, a product
--   abs-triangle, abs-difference            of a sum; of a difference
--   nat_abs_mul, nat_abs-triangle           of a product and of a sum, as natural numbers
use Rattle.std.specs.Prelude.{◌≡◌, ℤ, pos, neg_ℤ, nat_abs, ◌≤ℤ◌}

unfoldable pub abs : ℤ → ℤ
abs z = pos (nat_abs z)

pub data AbsView (z v : ℤ) : Type 0 where
  nonnegative : pos 0 ≤ℤ z → v ≡ z → AbsView z v
  nonpositive : z ≤ℤ pos 0 → v ≡ neg_ℤ z → AbsView z v
