-- A cell's quarters, cells in cells, and edges in cells, as the quadtree has them; and both as seen from elsewhere.
--
-- Definitions
--   quarter                  quarter (i, j) of a cell
--   Contains                 the second cell lies in the first
--   OnRange, OnCell          a coordinate between two sides; both end points of an edge in the closed cell
--   Sheet                    a square that edges lie on
--   seen_from, moved         an edge as seen from (a, b), its coordinates less these; a cell moved by (a, b)
use Rattle.std.specs.Prelude.{ℕ, ℤ, pos, ◌+ℤ◌, ◌-ℤ◌, ◌*ℤ◌, ◌≤ℤ◌}
use Rattle.integers.specs.Within.{Within}
use Rattle.edge.specs.declared.Edge.{Edge}
use Rattle.edge.specs.declared.Cell.{Cell}
use Rattle.edge.specs.Room.{coordinate_limit}

-- quarter (i, j) of a cell whose width is half + half: i is 0 on the left and 1 on the right, j is 0 above and 1 below
abbrev pub quarter : Cell → ℤ → ℕ → ℕ → Cell
quarter c half i j = record { left = c.left +ℤ pos i *ℤ half; top = c.top +ℤ pos j *ℤ half; width = half }

pub record Contains (c b : Cell) : Type 0 where
  pub left : c.left ≤ℤ b.left
  pub right : (b.left +ℤ b.width) ≤ℤ (c.left +ℤ c.width)
  pub top : c.top ≤ℤ b.top
  pub bottom : (b.top +ℤ b.width) ≤ℤ (c.top +ℤ c.width)

-- p lies between two sides, w apart, or on one of them
pub record OnRange (side w p : ℤ) : Type 0 where
  pub low : side ≤ℤ p
  pub high : p ≤ℤ (side +ℤ w)

pub record OnCell (c : Cell) (e : Edge) : Type 0 where
  pub x0 : OnRange c.left c.width e.x0
  pub y0 : OnRange c.top c.width e.y0
  pub x1 : OnRange c.left c.width e.x1
  pub y1 : OnRange c.top c.width e.y1

-- A sheet: the square that edges lie on, as 01's tile is. It is at least one step wide, and its sides are in range.
pub record Sheet (s : Cell) : Type 0 where
  pub width : pos 1 ≤ℤ s.width
  pub left : Within (pos coordinate_limit) s.left
  pub right : (s.left +ℤ s.width) ≤ℤ pos coordinate_limit
  pub top : Within (pos coordinate_limit) s.top
  pub bottom : (s.top +ℤ s.width) ≤ℤ pos coordinate_limit

-- ---- from elsewhere: what (x, y) is from the origin is (x − a, y − b) from (a, b)
abbrev pub seen_from : ℤ → ℤ → Edge → Edge
seen_from a b e = record { x0 = e.x0 -ℤ a; y0 = e.y0 -ℤ b; x1 = e.x1 -ℤ a; y1 = e.y1 -ℤ b }

abbrev pub moved : ℤ → ℤ → Cell → Cell
moved a b c = record { left = a +ℤ c.left; top = b +ℤ c.top; width = c.width }
