-- The sign of a half: a Haar detail counts plus in the first half of a direction and minus in the second.
--
-- Main results (the laws among them are in proofs/Theorems/HalfSign.antt)
--   half_sign                        1 in half 0, −1 in half 1
--   half_sign_cases                  it is one of the two, in a half that there is
use Rattle.std.specs.Prelude.{ℕ, ℤ, pos, ◌-ℤ◌, ◌*ℤ◌}

abbrev pub half_sign : ℕ → ℤ
half_sign b = pos 1 -ℤ pos 2 *ℤ pos b
