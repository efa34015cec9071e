-- A slanted walk in the four quarters of a cell, each told by which halves it is in: before the crossing of a middle, 0, or after it, 1. What is
-- known of the cell tells it of a quarter, by comparisons and sums.
--
-- Definitions
--   half_on                   which half of the cell a direction is in, before and after
--   since, until              the first step and the last
--   shifted                   the step at which the middle of that half is crossed
--   IsPart k p r              r is part p of k: p % 2 tells the half of x, p / 2 that of y
use Rattle.std.specs.Prelude.{◌≡◌, ℕ, zero, suc, ◌-◌, ◌/◌, ◌%◌, ℤ, pos, negsuc, ◌+ℤ◌, ◌-ℤ◌}
use Rattle.integers.specs.MinMax.{min, max}
use Rattle.slanted.specs.declared.Piece.{Piece}

-- onward it is in the left or upper half first, and back in the right or lower one
unfoldable pub half_on : ℤ → ℕ → ℕ
half_on (pos s) k = k
half_on (negsuc s) k = 1 - k

-- from step t on, and in the second half from the crossing at m
unfoldable pub since : ℕ → ℤ → ℤ → ℤ
since zero t m = t
since (suc k) t m = max t m

-- up to step t, and in the first half up to the crossing at m
unfoldable pub until : ℕ → ℤ → ℤ → ℤ
until zero t m = min t m
until (suc k) t m = t

-- the middle of a half lies q steps before that of the whole, or after it
unfoldable pub shifted : ℕ → ℤ → ℤ → ℤ
shifted zero m q = m -ℤ q
shifted (suc k) m q = m +ℤ q

pub record IsPart (k : Piece) (p : ℕ) (r : Piece) : Type 0 where
  pub half_x_lem : k.half_x ≡ r.half_x +ℤ r.half_x
  pub half_y_lem : k.half_y ≡ r.half_y +ℤ r.half_y
  pub middle_x_lem : r.middle_x ≡ shifted (p % 2) k.middle_x r.half_x
  pub middle_y_lem : r.middle_y ≡ shifted (p / 2) k.middle_y r.half_y
  pub first : r.first ≡ since (p / 2) (since (p % 2) k.first k.middle_x) k.middle_y
  pub last : r.last ≡ until (p / 2) (until (p % 2) k.last k.middle_x) k.middle_y
