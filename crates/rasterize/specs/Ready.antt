-- What the functions ask of their callers, and what the way down promises.
--
-- Definitions
--   sum_limit                    how large an entry may become
--   visits left                  how many cells there are in `left` levels, beginning with one cell: an edge adds to an entry at most so often
--   Spare t n                    there is room for n more details in every entry
--   SmallDetails w               three details that an edge may have
--   OnSheet e left s             an edge and a square on one sheet, the square wide enough for `left` levels
--   Ready t e left c             a table, an edge and a cell, with `left` levels from the cell's on
--   ReadyIn t e depth c          a table, an edge and a cell of the tile that the edge lies on
--   Splits c                     a cell that has quarters
--   Fits t depth n               a table of a tile of side 2^depth, with room for n more edges
--   square_of w                  a square at the origin
--   Descent e s all t c u        table t has become u: of what the edge adds in cell s and below it, `all` levels, what it adds in cell c and below it is
--                                still missing
use Rattle.std.specs.Prelude.{◌≡◌, List, ℕ, zero, suc, ◌+◌, ◌*◌, ◌-◌, ◌^◌, ◌<◌, ◌≤◌, length, get_or, ℤ, pos, ◌*ℤ◌, ◌≤ℤ◌}
use Rattle.integers.specs.Units.{greatest_depth, width_times_extent_limit, detail_limit}
use Rattle.integers.specs.Within.{Within}
use Rattle.edge.specs.declared.Edge.{Edge}
use Rattle.edge.specs.declared.Cell.{Cell as Square}
use Rattle.edge.specs.declared.Details.{Details}
use Rattle.edge.specs.Rounded.{root_term, DetailsWithin}
use Rattle.edge.specs.Room.{coordinate_limit, Even}
use Rattle.edge.specs.Nested.{Contains, Sheet, OnCell}
use Rattle.haar.specs.Cells.{children}
use Rattle.haar.specs.Plane.{dimensions}
use Rattle.rasterize.specs.declared.Node.{Node}
use Rattle.rasterize.specs.Added.{added}
use Rattle.rasterize.specs.Nodes.{quarters, node_at}
use Rattle.rasterize.specs.Contribution.{contribution}

-- half of what 64 bits hold, so that an entry and one detail more fit
abbrev pub sum_limit : ℕ
sum_limit = 2 ^ 62

-- Each of these cells has three entries of its own, so in truth an edge adds to an entry once. But that is not needed here: with so much room, the
-- proof that no sum overflows need not know which entries are whose.
unfoldable pub visits : ℕ → ℕ
visits zero = 0
visits (suc left) = 1 + quarters * visits left

-- a detail is at most `detail_limit`, either way
pub record Spare (t : List ℤ) (n : ℕ) : Type 0 where
  pub bound : ℕ
  pub room : bound + n * detail_limit ≤ sum_limit
  pub each : (i : ℕ) → Within (pos bound) (get_or t i (pos 0))

abbrev pub SmallDetails : Details → Type 0
SmallDetails w = DetailsWithin (pos detail_limit) w

pub record OnSheet (e : Edge) (left : ℕ) (s : Square) : Type 0 where
  pub sheet : Square
  pub is_sheet : Sheet sheet
  pub edge_on : OnCell sheet e
  pub square_on : Contains sheet s
  pub narrow : (sheet.width *ℤ s.width) ≤ℤ pos width_times_extent_limit
  -- it can be halved `left` times
  pub finest : ℕ
  pub halves : s.width ≡ pos (2 ^ left * finest)

pub record Ready (t : List ℤ) (e : Edge) (left : ℕ) (c : Node) : Type 0 where
  pub shallow : c.level + left ≤ greatest_depth
  pub x_below : c.x < 2 ^ c.level
  pub y_below : c.y < 2 ^ c.level
  pub long : children dimensions ^ (c.level + left) ≤ length t
  pub spare : Spare t (visits left)
  pub on_sheet : OnSheet e left c.square

-- for the edge's part of the root and what it adds in the cell and below
pub record ReadyIn (t : List ℤ) (e : Edge) (depth : ℕ) (c : Node) : Type 0 where
  pub shallow : depth ≤ greatest_depth
  pub exact : length t ≡ children dimensions ^ depth
  pub level_to_depth : c.level ≤ depth
  pub x_below : c.x < 2 ^ c.level
  pub y_below : c.y < 2 ^ c.level
  pub of_tile : c ≡ node_at depth c.level c.x c.y
  pub spare : Spare t (1 + visits (depth - c.level))
  pub on_sheet : OnSheet e (depth - c.level) c.square
  pub on : OnCell c.square e
  pub root : Within (pos detail_limit) (root_term e)

pub record Splits (c : Node) : Type 0 where
  pub shallow : c.level < greatest_depth
  pub x_below : c.x < 2 ^ c.level
  pub y_below : c.y < 2 ^ c.level
  pub left : Within (pos coordinate_limit) c.square.left
  pub top : Within (pos coordinate_limit) c.square.top
  pub even : Even c.square.width
  pub wide : c.square.width ≤ℤ pos coordinate_limit

-- Each edge adds at most one detail to an entry; on the way the recursion asks for its own room.
pub record Fits (t : List ℤ) (depth n : ℕ) : Type 0 where
  pub shallow : depth ≤ greatest_depth
  pub exact : length t ≡ children dimensions ^ depth
  pub spare : Spare t (n + visits greatest_depth)

-- a square at the origin, as the tile is
abbrev pub square_of : ℤ → Square
square_of w = record { left = pos 0; top = pos 0; width = w }

-- On the way down from a cell, `start`, to the smallest one that the edge lies in: what cell c and those below it are still to add is the rest. `before` is
-- the table as it was, without the edge's details.
pub record Descent (e : Edge) (start : Node) (all : ℕ) (before : List ℤ) (c : Node) (table : List ℤ) : Type 0 where
  pub left : ℕ
  pub levels : c.level + left ≡ start.level + all
  pub ready : Ready table e left c
  pub on : OnCell c.square e
  pub rest : added table (contribution e left c) ≡ added before (contribution e all start)
