-- "Every product and sum is then exact, and that is to be proved." One field for each operation of 64-bit floats that the code makes, in the code's
-- order, over IEEE 754's binary64: the float that the machine gets has the exact value. `turned` and `in_parts` of the code promise that they
-- answer the floats that are spoken of here.
--
-- Definitions
--   turned a b c x y                     a × x + b × y + c as the machine works it out
--   EveryProductAndSumIsExact a b c x y  each of its operations is exact, and so are the two that make a whole number of parts of it
--   ExactlyMoved p x y                   the same of both rows that the code works out where p moves the point (x, y)
--   ExactlyTested limit x                each operation in the test of a float is exact
-- Main results (the laws among them are in proofs/Theorems/Exact.antt)
--   every-product_and_sum_is_exact       of a usable row and a point that may be moved
--   exactly_moved                        of every point of every outline of which question 12 is answered yes
--   exactly_tested                       of every float from −16,384 to 16,384, whether it is a multiple of 1/65,536 or not
use Rattle.std.specs.Prelude.{◌≡◌, ℕ, ℤ, pos, ◌+ℤ◌, ◌*ℤ◌, Float}
use Rattle.std.specs.Float.{binary64}
use Rattle.std.specs.Float.Ieee.{of_int, mul, add, to_signed}
use Rattle.integers.specs.Units.{parts_per_step}
use Rattle.placement.specs.Parts.{Value, parts_of, InParts, per_step, one, nought}
use Rattle.placement.specs.Placed.{parts_at}
use Rattle.placement.specs.declared.Placement.{Placement}
use Rattle.placement.specs.declared.Placement.TheVariants.{None, Shift, Scale, Turn}

-- ---- one coordinate of a turned point
abbrev pub turned : Float → Float → Float → ℤ → ℤ → Float
turned a b c x y = add binary64 (add binary64 (mul binary64 a (of_int binary64 x)) (mul binary64 b (of_int binary64 y))) c

pub record EveryProductAndSumIsExact (a b c : Float) (x y : ℤ) : Type 0 where
  -- a * (x as f64)
  pub cast_x : Value (of_int binary64 x) x 1
  pub first_product : Value (mul binary64 a (of_int binary64 x)) (parts_of a *ℤ x) parts_per_step
  -- b * (y as f64)
  pub cast_y : Value (of_int binary64 y) y 1
  pub second_product : Value (mul binary64 b (of_int binary64 y)) (parts_of b *ℤ y) parts_per_step
  -- their sum, and c added
  pub first_sum : Value (add binary64 (mul binary64 a (of_int binary64 x)) (mul binary64 b (of_int binary64 y))) (parts_of a *ℤ x +ℤ parts_of b *ℤ y) parts_per_step
  pub second_sum : Value (turned a b c x y) (parts_at a b c x y) parts_per_step
  -- the result times 65,536, and the cast to a whole number, which is then rounded without floats
  pub in_parts : Value (mul binary64 (turned a b c x y) per_step) (parts_at a b c x y) 1
  pub cast-back : to_signed 63 (mul binary64 (turned a b c x y) per_step) ≡ parts_at a b c x y

-- ---- every point of an outline. A shift is the turn by (1, 0, u, 0, 1, v), a scale the turn by (s, 0, 0, 0, s, 0); with no placement nothing is worked out.
abbrev pub ExactlyMoved : Placement → ℤ → ℤ → Type 0
ExactlyMoved None x y = Unit {0}
ExactlyMoved (Shift u v) x y = EveryProductAndSumIsExact one nought u x y × EveryProductAndSumIsExact nought one v x y
ExactlyMoved (Scale s) x y = EveryProductAndSumIsExact s nought nought x y × EveryProductAndSumIsExact nought s nought x y
ExactlyMoved (Turn m) x y = EveryProductAndSumIsExact m.a m.b m.c x y × EveryProductAndSumIsExact m.d m.e m.f x y

-- ---- the test of a float
pub record ExactlyTested (limit : ℕ) (x : Float) : Type 0 where
  -- limit as f64, of which negation only turns the sign
  pub limit_cast : Value (of_int binary64 (pos limit)) (pos limit) 1
  -- x * 65536.0
  pub product : InParts x (mul binary64 x per_step)
  -- cut to a whole number, and that as a float again
  pub cut : to_signed 63 (mul binary64 x per_step) ≡ parts_of x
  pub cast-back : Value (of_int binary64 (parts_of x)) (parts_of x) 1
