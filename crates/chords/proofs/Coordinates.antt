-- Coordinates of a sheet, as a call is given them.
--
-- Main results
--   on_back                      a coordinate is itself again when read back
--   on_again                     and lies on the sheet then
use mathlib.Core.Path.{◌≡◌, subst⁻¹}
use lib.IntN.{ℤ}
use Rattle.integers.proofs.Theorems.Within.{within_le, within_self}
use Rattle.integers.specs.Bits.{back}
use Rattle.integers.proofs.Theorems.Bits.{back_is}
use Rattle.curve.specs.Curve.{OnSheet}

pub on_back : {z : ℤ} → OnSheet z → back z ≡ z
on_back h = back_is tt (within_le h.1 (within_self h.0))

pub on_again : {z : ℤ} → OnSheet z → OnSheet (back z)
on_again h = subst⁻¹ OnSheet (on_back h) h
