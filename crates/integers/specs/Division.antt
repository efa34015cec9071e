-- The machine's division of signed integers, which rounds toward zero: `quot_z` and `rem_z` of `lib.Signed`, for a positive divisor.
--
-- Main results (the laws among them are in proofs/Theorems/Division.antt)
--   truncated                n is q d + r, where q and r have n's sign, or are 0, and r is short of d either way
--   truncated-neg            the same on both sides of zero
--   quot_fits, rem_fits      q and r fit where n does
--   shift_quot               a shift to the right divides too, what is not negative
use Rattle.std.specs.Prelude.{◌≡◌, ℤ, pos, neg_ℤ, ◌+ℤ◌, ◌*ℤ◌, ◌≤ℤ◌, ◌<ℤ◌}

pub record Truncated (n d q r : ℤ) : Type 0 where
  pub whole : n ≡ q *ℤ d +ℤ r
  pub nonnegative : pos 0 ≤ℤ n → (pos 0 ≤ℤ q) × (pos 0 ≤ℤ r)
  pub nonpositive : n ≤ℤ pos 0 → (q ≤ℤ pos 0) × (r ≤ℤ pos 0)
  pub below : r <ℤ d
  pub above : neg_ℤ r <ℤ d
