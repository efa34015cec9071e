-- Rounding to the nearest whole number, halves away from zero: `round_half_away n d` of `Rounding`.
--
-- Main results (the laws among them are in proofs/Theorems/RoundHalfAway.antt)
--   round_half_away-neg                 it is odd in n
--   round_half_away-mul, -one           exact on multiples of d, and so of 1
--   round_half_away-bounds              its error, as `ErrorBounds`: at most a half either way, and a half only away from zero
--   round_half_away_error               |2 (d q − n)| ≤ d, the same in one magnitude
--   round_half_away_of_bounds           no other number has such an error; with ', of a divisor that is an integer, as code has it
--   round_half_away-mono                monotone in n
--   round_half_away_within              at most b in magnitude where n is at most d b
--   error_neg                           an error is the same on both sides of zero
-- `NearestAway` has that it is nearest, halves away from zero, and that no other number is.
use Rattle.std.specs.Prelude.{ℤ, pos, ◌-ℤ◌, ◌*ℤ◌, ◌≤ℤ◌, ◌<ℤ◌}

-- ---- the error
pub record ErrorBounds (n d q : ℤ) : Type 0 where
  pub over : (pos 2 *ℤ (d *ℤ q -ℤ n)) ≤ℤ d
  pub under : (pos 2 *ℤ (n -ℤ d *ℤ q)) ≤ℤ d
  pub under_strict : pos 0 ≤ℤ n → (pos 2 *ℤ (n -ℤ d *ℤ q)) <ℤ d
  pub over_strict : n ≤ℤ pos 0 → (pos 2 *ℤ (d *ℤ q -ℤ n)) <ℤ d
