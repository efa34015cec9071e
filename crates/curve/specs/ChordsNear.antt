-- "It is proved that before this rounding no chord leaves its curve by more than one step in x or y."
--
-- Both a chord and its piece of the curve are walked at the parameter's pace: a / b of the way along the chord is compared with the curve at the same parameter,
-- for all whole a ≤ b. Both are polynomials in the parameter, so between these there is no place where they could be farther apart; and each is then within one
-- step of some place of the other.
--
-- Definitions
--   ChordsNear p q r k           of one coordinate: every chord is at most one step from its curve, all along
-- Main results (the laws among them are in proofs/Theorems/ChordsNear.antt)
--   chords_near                  so it is where k makes the bend flat
--   curve_near                   and so of both coordinates of a curve on a sheet, of as many chords as are made
use Rattle.std.specs.Prelude.{ℕ, ◌*◌, ◌^◌, ◌<◌, ◌≤◌, ℤ, pos, ◌+ℤ◌, ◌-ℤ◌, ◌*ℤ◌, ◌≤ℤ◌}
use Rattle.integers.specs.Magnitude.{abs}
use Rattle.curve.specs.Curve.{curve_num, chord_num}

-- Chord i, a / b of its way along, and the curve at the parameter (i + a / b) / 2^k; both 4^k b² times over, so that one step is 4^k b².
pub record ChordsNear (p q r : ℤ) (k : ℕ) : Type 0 where
  pub near : (i a b : ℕ) → i < 2 ^ k → a ≤ b
      → abs (pos b *ℤ chord_num p q r (pos (2 ^ k)) (pos i) (pos b) (pos a) -ℤ curve_num p q r (pos (2 ^ k * b)) (pos (i * b) +ℤ pos a)) ≤ℤ pos (4 ^ k * (b * b))
