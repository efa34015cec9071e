-- What the machine holds, by the number that it is and a bound of it: sums, differences and products of such are such again, and fit.
--
-- Main results (the laws among them are in proofs/Theorems/Held.antt)
--   Held                                            z is v, which lies within b
--   held_number                                     a number within a bound, as it is read back
--   held-add, held_sub, held-neg, held-mul          what an operation gives
--   held_fits, held_back                            it fits where b does, and is the same when read back
--   held_within                                     the bound, of z
use Rattle.std.specs.Prelude.{◌≡◌, ℕ, ℤ, pos}
use Rattle.integers.specs.Within.{Within}

pub record Held (b : ℕ) (z v : ℤ) : Type 0 where
  pub is : z ≡ v
  pub within : Within (pos b) v
