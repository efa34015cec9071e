-- Laws of what specs/Greys.antt defines. The head of that file lists the main results.
use Rattle.std.specs.Prelude.{◌≡◌, refl, pos, neg_ℤ}
use Rattle.integers.specs.Units.{units_per_pixel, full_grey}
use Rattle.integers.specs.MinMax.{min, max}
use Rattle.integers.specs.Magnitude.{abs}
use Rattle.integers.specs.Clamp.{clamp}
use Rattle.integers.specs.Rounding.{floor, round_half_up}
use Rattle.haar.specs.Greys.{grey, grey_of, ink_grey}

-- Checks, on a tile of one pixel. Half of it is 127 1/2 greys: were the quotient rounded, and then its magnitude taken, then below zero it would be 127, and
-- not 128.
half_pixel : grey_of 1 (pos 65536) ≡ 128
unfolding min max abs floor round_half_up clamp ink_grey grey
half_pixel = refl

half_pixel_below : grey_of 1 (neg_ℤ (pos 65536)) ≡ 128
unfolding min max abs floor round_half_up clamp ink_grey grey
half_pixel_below = refl

full_pixel_below : grey_of 1 (neg_ℤ (pos units_per_pixel)) ≡ full_grey
unfolding min max abs floor round_half_up clamp ink_grey grey
full_pixel_below = refl
