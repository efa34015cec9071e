-- A quadratic Bézier curve, one coordinate at a time: the other is another instance. p and r are its ends, q its control point, all in whole steps.
--
-- At the parameter i / n the curve is at ((n − i)² p + 2 i (n − i) q + i² r) / n². "A curve becomes 2^k chords at equal parameter steps."
--
-- Definitions
--   OnSheet z                     z is a coordinate of the greatest sheet
--   bend p q r                    p − 2 q + r
--   curve_num p q r n i           n² times where the curve is at the parameter i / n
--   chord_num p q r n i b a       n² b times where chord i of n is, a / b of its way along, before its ends are rounded
--   bend_limit k                  4 × 4^k
--   IsFlat k z, flat k z          z is at most that in magnitude
--   splits_from m k u v           the search for it, from k on
--   splits u v                    k: the least from 0 to 7 for which both bends are flat, and 7 where none is, which on a sheet does not happen
--   chord_end p q r k i           end i of the 2^k chords, rounded to the nearest step, halves towards the larger
use Rattle.std.specs.Prelude.{Bool, ◌&&◌, cond, ℕ, zero, suc, ◌*◌, ◌^◌, ℤ, pos, neg_ℤ, ◌+ℤ◌, ◌-ℤ◌, ◌*ℤ◌, ◌≤ℤ◌}
use Rattle.integers.specs.Units.{greatest_sheet_coordinate, most_splits}
use Rattle.integers.specs.Within.{Within}
use Rattle.integers.specs.Tests.{between}
use Rattle.integers.specs.Rounding.{round_half_up}

abbrev pub OnSheet : ℤ → Type 0
OnSheet z = (pos 0 ≤ℤ z) × (z ≤ℤ pos greatest_sheet_coordinate)

-- "p0 − 2 × p1 + p2"
abbrev pub bend : ℤ → ℤ → ℤ → ℤ
bend p q r = p -ℤ pos 2 *ℤ q +ℤ r

abbrev pub curve_num : ℤ → ℤ → ℤ → ℤ → ℤ → ℤ
curve_num p q r n i = (n -ℤ i) *ℤ (n -ℤ i) *ℤ p +ℤ pos 2 *ℤ i *ℤ (n -ℤ i) *ℤ q +ℤ i *ℤ i *ℤ r

-- the chord from the curve's place at i / n to its place at (i + 1) / n
abbrev pub chord_num : ℤ → ℤ → ℤ → ℤ → ℤ → ℤ → ℤ → ℤ
chord_num p q r n i b a = (b -ℤ a) *ℤ curve_num p q r n i +ℤ a *ℤ curve_num p q r n (i +ℤ pos 1)

-- "k is the least from 0 to 7 for which neither coordinate of p0 − 2 × p1 + p2 exceeds 4 × 4^k in magnitude"
abbrev pub bend_limit : ℕ → ℕ
bend_limit k = 4 * 4 ^ k

abbrev pub IsFlat : ℕ → ℤ → Type 0
IsFlat k z = Within (pos (bend_limit k)) z

abbrev pub flat : ℕ → ℤ → Bool
flat k z = between (neg_ℤ (pos (bend_limit k))) (pos (bend_limit k)) z

-- the least from k on, of at most m more; the last of them where none is flat
unfoldable pub splits_from : ℕ → ℕ → ℤ → ℤ → ℕ
splits_from zero k u v = k
splits_from (suc m) k u v = cond (flat k u && flat k v) k (splits_from m (suc k) u v)

abbrev pub splits : ℤ → ℤ → ℕ
splits u v = splits_from most_splits 0 u v

-- "Chord ends are rounded to the nearest step, halves towards the larger."
abbrev pub chord_end : ℤ → ℤ → ℤ → ℕ → ℕ → ℤ
chord_end p q r k i = round_half_up (curve_num p q r (pos (2 ^ k)) (pos i)) (4 ^ k)
