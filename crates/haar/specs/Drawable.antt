-- What drawing asks of its caller.
--
-- Definitions
--   InRange entries                           question 9: every entry is from −2^40 to 2^40
--   Drawable entries level                    a table from which a level can be drawn
--   DrawableCell entries level cx cy          a cell of such a level
--   DrawablePicture entries level room        such a level, with as many places as it has cells
use Rattle.std.specs.Prelude.{◌≡◌, List, ℕ, ◌^◌, ◌<◌, ◌≤◌, length, get_or, ℤ, pos}
use Rattle.integers.specs.Units.{greatest_depth, entry_limit}
use Rattle.integers.specs.Within.{Within}
use Rattle.haar.specs.Cells.{children}
use Rattle.haar.specs.Plane.{dimensions}

-- "Is every entry of the table from −2^40 to 2^40?" Past the table's end there is nothing but 0.
pub record InRange (entries : List ℤ) : Type 0 where
  pub each : (i : ℕ) → Within (pos entry_limit) (get_or entries i (pos 0))

-- no deeper than a tile can be, with the entries of all levels above this one
pub record Drawable (entries : List ℤ) (level : ℕ) : Type 0 where
  pub shallow : level ≤ greatest_depth
  pub long : children dimensions ^ level ≤ length entries
  pub in_range_lem : InRange entries

pub record DrawableCell (entries : List ℤ) (level cx cy : ℕ) : Type 0 where
  pub drawable : Drawable entries level
  pub x_below : cx < 2 ^ level
  pub y_below : cy < 2 ^ level

pub record DrawablePicture (entries : List ℤ) (level room : ℕ) : Type 0 where
  pub drawable : Drawable entries level
  pub exact : room ≡ children dimensions ^ level
