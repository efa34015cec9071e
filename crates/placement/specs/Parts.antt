-- Floats that are whole numbers of parts. A part is 1/65,536: "Every float handed in must be a multiple of 1/65,536". A float of the logic is a sign, a
-- whole number and a power of two, or an infinity, or not a number. No operation on floats is in these definitions.
--
-- Definitions
--   Value x k c                 x is finite, and it is k / c; a zero of either sign is 0 / c
--   parts_of x                  how many parts x is, cut toward zero
--   is_multiple limit x         is x a multiple of 1/65,536 from −limit to limit?
--   Multiple limit x            it is one; `Multiples` proves that the test says so
--   Inside limit x              x is finite, and from −limit to limit
--   InParts x w                 the float w is x × 65,536, exactly
--   nearest k                   k parts to the nearest whole number, halves towards the larger
--   part_bits                   a part is 1/2^16
--   signed s n                  a magnitude with a sign; true is minus
--   per_step, one, nought       65,536, 1 and 0 as floats, which the code writes
--   kept_digits, cast_limit     what a float holds, and what a cast takes
use Rattle.std.specs.Prelude.{◌≡◌, ℕ, ◌*◌, ◌/◌, ◌%◌, ◌^◌, ◌≤◌, Bool, true, false, ◌&&◌, ℤ, pos, ◌*ℤ◌, neg_ℤ, ◌==◌, nat_le, unsigned_abs, Float}
use Rattle.std.specs.Float.{nan, inf, fin}
use Rattle.std.specs.Float.Ieee.{up, down}
use Rattle.integers.specs.Units.{parts_per_step}
use Rattle.integers.specs.Rounding.{round_half_up}

-- a magnitude with a sign, as a float has them: true is minus
abbrev pub signed : Bool → ℕ → ℤ
signed false n = pos n
signed true n = neg_ℤ (pos n)

-- `fin s m e` is m × 2^e with the sign s, and 2^e is up e / down e
abbrev pub Value : Float → ℤ → ℕ → Type 0
Value nan k c = ⊥
Value (inf s) k c = ⊥
Value (fin s m e) k c = signed s (m * up e) *ℤ pos c ≡ k *ℤ pos (down e)

-- 0 where x is not finite
unfoldable pub parts_of : Float → ℤ
parts_of nan = pos 0
parts_of (inf s) = pos 0
parts_of (fin s m e) = signed s (m * up e * parts_per_step / down e)

-- nothing is left when x is cut to parts, and |x| is at most the limit; an infinity or a not-a-number is no multiple
unfoldable pub is_multiple : ℕ → Float → Bool
is_multiple limit nan = false
is_multiple limit (inf s) = false
is_multiple limit (fin s m e) = m * up e * parts_per_step % down e == 0 && nat_le (m * up e) (limit * down e)

-- x is k / 65,536 for a whole number k from −limit × 65,536 to limit × 65,536
pub record Multiple (limit : ℕ) (x : Float) : Type 0 where
  pub parts : ℤ
  pub value : Value x parts parts_per_step
  pub bound : unsigned_abs parts ≤ limit * parts_per_step

abbrev pub Inside : ℕ → Float → Type 0
Inside limit nan = ⊥
Inside limit (inf s) = ⊥
Inside limit (fin s m e) = m * up e ≤ limit * down e

-- whatever fraction x is
pub record InParts (x w : Float) : Type 0 where
  pub exact : (k : ℤ) (d : ℕ) → Value x k d → Value w (k *ℤ pos parts_per_step) d

-- "rounded to the nearest step, halves towards the larger": the rounding of a grey
abbrev pub nearest : ℤ → ℤ
nearest k = round_half_up k parts_per_step

-- ---- the floats that the code itself writes; 65,536 is 2^16
abbrev pub part_bits : ℕ
part_bits = 16

abbrev pub per_step : Float
per_step = fin false 1 (pos part_bits)

abbrev pub one : Float
one = fin false 1 (pos 0)

abbrev pub nought : Float
nought = fin false 0 (pos 0)

-- ---- 64-bit floats
-- A float keeps so many binary digits: it holds every whole number up to 2^53.
abbrev pub kept_digits : ℕ
kept_digits = 53

-- A float up to this, either way, is well within what a cast to a signed number of 64 bits takes.
abbrev pub cast_limit : ℕ
cast_limit = 2 ^ 62
