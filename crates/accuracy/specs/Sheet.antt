-- A tile of a sheet (02, P5): "an outline lie on a sheet of side up to 128 pixels, a power of two, and be drawn into one tile of side up to 32 at a given place
-- in whole tiles". The sheet moves the outline and not the tile: the edges are taken as they are seen from the tile's corner, and the tile lies at the origin,
-- as 01's does. So cells, exact areas and details are 01's, word by word. That these are the areas of the cells at their place on the sheet is a law:
-- `from-tile_area` of Laws/SheetTiles.
--
-- Definitions
--   corner depth t                where tile number t begins in one direction, in steps: "in whole tiles"
--   from_tile depth tx ty es      the edges as they are seen from the corner of tile (tx, ty) of side 2^depth
--   seen_sheet wide depth tx ty   the sheet of side 2^wide, as it is seen from there
--   cell_on_sheet                 a cell of the tile, at its place on the sheet
use Rattle.std.specs.Prelude.{List, map, ℕ, ◌*◌, ℤ, pos, ◌-ℤ◌}
use Rattle.edge.specs.declared.Edge.{Edge}
use Rattle.edge.specs.declared.Cell.{Cell as Square}
use Rattle.edge.specs.Nested.{seen_from, moved}
use Rattle.haar.specs.Cells.{Cell}
use Rattle.haar.specs.Plane.{dimensions}
use Rattle.accuracy.specs.Tile.{cell_width, square}

abbrev pub corner : ℕ → ℕ → ℤ
corner depth t = pos (t * cell_width depth 0)

abbrev pub from_tile : ℕ → ℕ → ℕ → List Edge → List Edge
from_tile depth tx ty es = map (seen_from (corner depth tx) (corner depth ty)) es

abbrev pub seen_sheet : ℕ → ℕ → ℕ → ℕ → Square
seen_sheet wide depth tx ty = record { left = pos 0 -ℤ corner depth tx; top = pos 0 -ℤ corner depth ty; width = pos (cell_width wide 0) }

abbrev pub cell_on_sheet : ℕ → ℕ → ℕ → ℕ → Cell dimensions → Square
cell_on_sheet depth tx ty level cell = moved (corner depth tx) (corner depth ty) (square depth level cell)
