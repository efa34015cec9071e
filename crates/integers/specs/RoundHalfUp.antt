-- Rounding to the nearest whole number, halves up: `round_half_up n d` of `Rounding`, the floor of n / d + 1/2.
--
-- Main results (the laws among them are in proofs/Theorems/RoundHalfUp.antt)
--   floor_low, floor_high                    d q ≤ n < d (q + 1), of the floor q of n / d
--   floor-greatest                           no greater whole number is at most n / d
--   round_half_up-bounds                     the error is at most a half, and a half only upwards
--   round_half_up_of_bounds                  no other number has such an error
--   round_half_up-mono                       a larger fraction, whatever its denominator, has no smaller rounding
--   round_half_up-eq                         equal fractions have the same rounding
--   round_half_up-add, round_half_up-mul     a whole number added comes out; exact on multiples
--   round_half_up_one_apart                  a fraction at most one above another has a rounding at most one above the other's
use Rattle.std.specs.Prelude.{ℤ, pos, ◌-ℤ◌, ◌*ℤ◌, ◌≤ℤ◌, ◌<ℤ◌}

-- ---- the error
pub record UpBounds (n d q : ℤ) : Type 0 where
  pub over : (pos 2 *ℤ (d *ℤ q -ℤ n)) ≤ℤ d
  pub under : (pos 2 *ℤ (n -ℤ d *ℤ q)) <ℤ d
