-- Cells of the quadtree. Level and numbers of a cell say where its details stand in the table, its square says where it lies on the page; the two are
-- given apart, so that the root's square may be any.
--
-- Definitions
--   quarters                      a cell has four
--   half_width s                  half of a square's width
--   quarter_node c q              quarter q of a cell: 0 and 1 are the upper two, 0 and 2 those on the left
--   node_at depth j x y           cell (x, y) of level j of the tile of side 2^depth
use Rattle.std.specs.Prelude.{ℕ, suc, ◌+◌, ◌*◌, ◌/◌, ◌%◌, ℤ, pos, nat_abs}
use Rattle.edge.specs.declared.Cell.{Cell as Square}
use Rattle.edge.specs.Nested.{quarter}
use Rattle.haar.specs.Cells.{children}
use Rattle.haar.specs.Plane.{dimensions, at}
use Rattle.accuracy.specs.Tile.{square}
use Rattle.rasterize.specs.declared.Node.{Node}

abbrev pub quarters : ℕ
quarters = children dimensions

-- of a width that is even and not negative
abbrev pub half_width : Square → ℤ
half_width s = pos (nat_abs s.width / 2)

abbrev pub quarter_node : Node → ℕ → Node
quarter_node c q = record {
  level = suc c.level;
  x = 2 * c.x + q % 2;
  y = 2 * c.y + q / 2;
  square = quarter c.square (half_width c.square) (q % 2) (q / 2);
}

abbrev pub node_at : ℕ → ℕ → ℕ → ℕ → Node
node_at depth j x y = record { level = j; x = x; y = y; square = square depth j (at x y) }
