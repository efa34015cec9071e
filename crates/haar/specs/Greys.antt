-- The grey of a figure; and of a fraction in its place, for 4^L times an exact area need not be whole. It is that of the magnitude, so that a letter may
-- be traced either way round (02, P4).
--
-- Definitions
--   full side                     the figure of a cell that is all ink: as large at every level
--   ink_grey side num den         01's rule: the grey of an amount of ink, num / den in a figure's place, on a tile of side × side pixels
--   grey side num den             the grey of num / den: by that rule, of its magnitude
--   grey_of side f                the grey of the figure f
--   OneApart a b                  two greys that are at most one apart
--   SameGrey f most n             n is at most the full figure `most`, and has the grey of the figure f
-- Checks
--   half_pixel, half_pixel_below half a pixel's ink has the grey 128, either way round
--   full_pixel_below              a pixel's ink below zero has the full grey
use Rattle.std.specs.Prelude.{◌≡◌, ℕ, ◌+◌, ◌*◌, ◌<◌, ◌≤◌, ℤ, pos, nat_abs, ◌*ℤ◌}
use Rattle.integers.specs.Units.{units_per_pixel, full_grey}
use Rattle.integers.specs.Magnitude.{abs}
use Rattle.integers.specs.Clamp.{clamp}
use Rattle.integers.specs.Rounding.{round_half_up}

-- Such a cell of level L has a 4^L-th of the tile's area, and its figure is 4^L times that: 131,072 × side × side, whatever L is.
abbrev pub full : ℕ → ℕ
full side = units_per_pixel * (side * side)

-- "The grey is 255 × figure / (131,072 × side × side), the same at every level, rounded to the nearest whole number, halves up, then held
-- between 0 and 255. A figure below zero is 0, white." (02's P4 has overruled this last sentence: `grey`, below, hands this rule no number below zero, so
-- that nothing is ever held at 0.) What is held so is not negative, and `nat_abs` only makes a natural number of it.
unfoldable pub ink_grey : ℕ → ℤ → ℕ → ℕ
ink_grey side num den = nat_abs (clamp (round_half_up (pos full_grey *ℤ num) (full side * den)) (pos 0) (pos full_grey))

-- "From now on a grey is that of the figure's magnitude", and the exact area's is "taken the same way". The magnitude is of the fraction, before anything
-- is rounded: half a grey either way is 1.
unfoldable pub grey : ℕ → ℤ → ℕ → ℕ
grey side num den = ink_grey side (abs num) den

abbrev pub grey_of : ℕ → ℤ → ℕ
grey_of side f = grey side f 1

pub record OneApart (a b : ℕ) : Type 0 where
  pub up : a ≤ b + 1
  pub down : b ≤ a + 1

pub record SameGrey (f : ℤ) (most n : ℕ) : Type 0 where
  pub few : n ≤ most
  pub same : (side : ℕ) → 0 < side → full side ≡ most → ink_grey side (pos n) 1 ≡ grey_of side f
