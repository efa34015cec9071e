-- Numbers and their bits: what is known to lie within a bound, or to be a call's result, is itself again when read back.
--
-- Main results (the laws among them are in proofs/Theorems/Bits.antt)
--   back                   a number's bits, read back
--   greatest               the greatest number of 64 signed bits
--   fits_within            a number within a bound that fits, fits
--   result_is, field_is    what a call answers, or a field holds, read back
--   back_is                a number within a bound, read back
--   within_back            and the bound of what is read back
--   same_bits              numbers with the same bits are the same
use Rattle.std.specs.Prelude.{ℕ, ◌^◌, ◌-◌, ℤ}
use Rattle.std.proofs.Common.{to_z, of_z}
use Rattle.std.specs.Int.{w64}

abbrev pub back : ℤ → ℤ
back z = to_z w64 (of_z w64 z)

-- the greatest number of 64 signed bits
abbrev pub greatest : ℕ
greatest = 2 ^ 63 - 1
