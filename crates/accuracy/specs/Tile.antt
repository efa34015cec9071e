-- The tile of side 2^depth pixels, and its cells as squares, in steps.
--
-- Definitions
--   cell_width depth level       how wide a cell of a level is
--   square depth level cell      the square of a cell
--   tile depth                   the whole tile, from 0 to its width: the cell of level 0
--   OnTile depth p               a point on the tile
--   EdgeOnTile depth e           an edge between two such points
--   ClosedOnTile depth es        closed edges on the tile
--   CellOf depth level cx cy     cell (cx, cy) of a level that the tile has
use Rattle.std.specs.Prelude.{List, ℕ, ◌*◌, ◌-◌, ◌^◌, ◌<◌, ◌≤◌, pos, ◌≤ℤ◌}
use Rattle.integers.specs.Units.{steps_per_pixel}
use Rattle.integers.specs.ListSum.{All}
use Rattle.edge.specs.declared.Edge.{Edge}
use Rattle.edge.specs.declared.Cell.{Cell as Square}
use Rattle.haar.specs.Cells.{Cell}
use Rattle.haar.specs.Plane.{dimensions}
use Rattle.accuracy.specs.Outline.{Point, ClosedEdges}

-- "A step is 1/256 pixel", and each level halves the width: a cell of level `depth` is a pixel, and that of level 0 is the tile
abbrev pub cell_width : ℕ → ℕ → ℕ
cell_width depth level = steps_per_pixel * 2 ^ (depth - level)

-- "Level j has 2^j by 2^j cells", cell (cx, cy) being cx widths from the left side and cy from the top: "x grows to the right, y downwards"
abbrev pub square : ℕ → ℕ → Cell dimensions → Square
square depth level (cx, (cy, rest)) = record {
  left = pos (cx * cell_width depth level);
  top = pos (cy * cell_width depth level);
  width = pos (cell_width depth level);
}

abbrev pub tile : ℕ → Square
tile depth = record { left = pos 0; top = pos 0; width = pos (cell_width depth 0) }

-- "A point has whole x and y from 0 to 256 × side, both ends allowed."
pub record OnTile (depth : ℕ) (p : Point) : Type 0 where
  pub x_low : pos 0 ≤ℤ p.x
  pub x_high : p.x ≤ℤ pos (cell_width depth 0)
  pub y_low : pos 0 ≤ℤ p.y
  pub y_high : p.y ≤ℤ pos (cell_width depth 0)

pub record EdgeOnTile (depth : ℕ) (e : Edge) : Type 0 where
  pub start : OnTile depth (record { x = e.x0; y = e.y0 })
  pub end : OnTile depth (record { x = e.x1; y = e.y1 })

-- what the edges of an outline on the tile are
pub record ClosedOnTile (depth : ℕ) (es : List Edge) : Type 0 where
  pub closed : ClosedEdges es
  pub on_tile : All (EdgeOnTile depth) es

-- "any level L from 0 to the depth", and "both cell numbers below 2^level"
pub record CellOf (depth level cx cy : ℕ) : Type 0 where
  pub level_to_depth : level ≤ depth
  pub x_below : cx < 2 ^ level
  pub y_below : cy < 2 ^ level
