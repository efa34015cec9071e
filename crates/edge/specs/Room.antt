-- What the code asks of an edge and a cell, so that its arithmetic stays in 64 bits.
--
-- Definitions
--   coordinate_limit, extent_limit, crossing_limit       how far coordinates may lie, and what follows for extents and crossings
--   Measured                                             an edge within these limits
--   Even                                                 a width that has a half
--   Room                                                 an edge and a cell
use Rattle.std.specs.Prelude.{◌≡◌, ℕ, ◌*◌, ◌^◌, ℤ, pos, ◌+ℤ◌, ◌*ℤ◌, ◌≤ℤ◌}
use Rattle.integers.specs.Units.{width_times_extent_limit}
use Rattle.integers.specs.Within.{Within}
use Rattle.edge.specs.declared.Edge.{Edge}
use Rattle.edge.specs.declared.Cell.{Cell}
use Rattle.edge.specs.Walk.{ax, ay}

-- Coordinates. 01's are at most 2^14; these may lie much farther off, and the products below still stay well within 64 bits.
abbrev pub coordinate_limit : ℕ
coordinate_limit = 2 ^ 28

-- A difference of two coordinates, and so an extent.
abbrev pub extent_limit : ℕ
extent_limit = 2 * coordinate_limit

-- The number of a walk's steps, a product of two extents, and the step at which a line is crossed, a product of an extent and a difference and, for the
-- far side, a width times an extent. Twice the product of two extents is more than either, and a sum of two such still fits.
abbrev pub crossing_limit : ℕ
crossing_limit = 2 * (extent_limit * extent_limit)

pub record Measured (e : Edge) : Type 0 where
  pub x0 : Within (pos coordinate_limit) e.x0
  pub y0 : Within (pos coordinate_limit) e.y0
  pub x1 : Within (pos coordinate_limit) e.x1
  pub y1 : Within (pos coordinate_limit) e.y1

-- a cell that has quarters: its middle is a whole coordinate
pub record Even (w : ℤ) : Type 0 where
  pub half : ℤ
  pub half≥0 : pos 0 ≤ℤ half
  pub twice : w ≡ half +ℤ half

-- It is the product of width and extent that is small, so that a narrow cell may lie under a long edge. On a tile it is at most 2^28.
pub record Room (e : Edge) (c : Cell) : Type 0 where
  pub edge : Measured e
  pub left : Within (pos coordinate_limit) c.left
  pub top : Within (pos coordinate_limit) c.top
  pub even : Even c.width
  pub wide : (pos (ax e) *ℤ c.width) ≤ℤ pos width_times_extent_limit
  pub tall : (pos (ay e) *ℤ c.width) ≤ℤ pos width_times_extent_limit
