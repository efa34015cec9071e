-- The tent over a width m: the distance from v to the nearer of 0 and m, and 0 outside. 01 says "the distance from x to the cell's nearer upright side".
--
-- Main results (the laws among them are in proofs/Theorems/Tent.antt)
--   tent-inside, tent_outside                  its two cases
--   tent-nonneg, tent_half                     it lies between 0 and half the width
--   tent_moves                                 it moves by no more than v does
--   tent-halves                                it is the clamp of the left half less that of the right half
--   half_of                                    twice the clamp of either half is the whole's, plus or minus the tent
--   tent_scale                                 a factor that is not negative comes out
--   tent-step-left, tent-step-right,
--   tent-step_outside                          as v moves up by one, it rises by one in the left half, falls by one in the right half, and rests outside
use Rattle.std.specs.Prelude.{ℤ, pos, ◌-ℤ◌}
use Rattle.integers.specs.MinMax.{min}
use Rattle.integers.specs.Clamp.{clamp}

unfoldable pub tent : ℤ → ℤ → ℤ
tent m v = min (clamp v (pos 0) m) (m -ℤ clamp v (pos 0) m)
