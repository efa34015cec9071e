-- Demand 3, of the definitions: how near what is drawn of an outline's table is to the outline's exact areas. `Theorem` has that it holds. What 01 says
-- besides of calls (none is refused, one cell alone, "the table that building left, unwritten since") is for the crate that has the calls.
--
-- An exact area is the fraction `exact_area_num / denominator`, so an equation or a bound of it stands here `denominator es` times over.
--
-- The claim is the same whatever the root is: 01's tile has the signed area for it, a tile of a sheet (02, P5) a sum of rounded parts of its own area. So
-- one record has how the root is had of the edges, and twice the limit of a miss, for parameters.
--
-- Definitions
--   miss_from root depth es level cx cy      how far the figure of a cell lies from 4^level times its exact area, `denominator es` times over
--   twice_miss_limit level edges             twice 01's limit of that distance, in units: (4^level − 1) × edges
--   twice_tile_miss_limit level edges        and twice 02's, for a tile of a sheet: 4^level × edges
--   Accurate root_of twice_limit depth es    what is promised of closed edges es and a tile of side 2^depth, which lies at the origin
--   AccurateAlone depth es                   that of edges on the tile, with the signed area for the root
--   AccurateOutline depth contours           and of an outline
--   AccurateOnSheet depth es                 that of edges of which some may lie beyond the tile, as seen from its corner
use Rattle.std.specs.Prelude.{◌≡◌, ℕ, suc, ◌+◌, ◌*◌, ◌-◌, ◌/◌, ◌%◌, ◌^◌, ◌<◌, ◌≤◌, length, ℤ, pos, ◌+ℤ◌, ◌-ℤ◌, ◌*ℤ◌, ◌≤ℤ◌}
use mathlib.Core.List.{List, Perm, map, reverse}
use Rattle.integers.specs.Units.{greatest_depth, most_edges, built_entry_limit}
use Rattle.integers.specs.Magnitude.{abs}
use Rattle.integers.specs.ListSum.{All, total, tally}
use Rattle.edge.specs.declared.Edge.{Edge}
use Rattle.edge.specs.Octilinear.{Octilinear}
use Rattle.haar.specs.Table.{negated, Bounded}
use Rattle.haar.specs.Pictures.{picture}
use Rattle.haar.specs.Greys.{grey, grey_of, OneApart}
use Rattle.haar.specs.Plane.{dimensions, quarter_details, at, figure_at}
use Rattle.accuracy.specs.Outline.{Point, outline_edges, signed_area}
use Rattle.accuracy.specs.Tile.{CellOf, EdgeOnTile}
use Rattle.accuracy.specs.ExactArea.{denominator, exact_area_num}
use Rattle.accuracy.specs.ExactDetails.{exact_detail_num, QuarterDifferences}
use Rattle.accuracy.specs.OutlineTable.{outline_table, table_from, tile_root, tile_table}

abbrev pub miss_from : ℤ → ℕ → List Edge → ℕ → ℕ → ℕ → ℤ
miss_from root depth es level cx cy =
    figure_at (table_from root depth es) level cx cy *ℤ pos (denominator es) -ℤ pos (4 ^ level) *ℤ exact_area_num depth es level (at cx cy)

abbrev pub twice_miss_limit : ℕ → ℕ → ℕ
twice_miss_limit level edges = (4 ^ level - 1) * edges

-- "The root is now rounded for each edge too, so a figure may miss by 4^L × edges / 2"
abbrev pub twice_tile_miss_limit : ℕ → ℕ → ℕ
twice_tile_miss_limit level edges = 4 ^ level * edges

pub record Accurate (root_of : List Edge → ℤ) (twice_limit : ℕ → ℕ → ℕ) (depth : ℕ) (es : List Edge) : Type 0 where
  -- else what follows would say nothing
  pub denominator-positive : 0 < denominator es
  -- ---- the wavelet: 4 × area(quarter) = area ± h ± v ± d, so that the four quarters' areas add up to the cell's; and h, v and d are 01's differences of the
  -- quarters' areas
  pub quarter : (j cx cy : ℕ) → j < depth
      → pos 4 *ℤ exact_area_num depth es (suc j) (at cx cy)
      ≡ exact_area_num depth es j (at (cx / 2) (cy / 2)) +ℤ quarter_details (exact_detail_num depth es j (at (cx / 2) (cy / 2))) (cx % 2) (cy % 2)
  pub differences : (j cx cy : ℕ) → j < depth
      → QuarterDifferences (λ a b. exact_area_num depth es (suc j) (at (2 * cx + a) (2 * cy + b))) (exact_detail_num depth es j (at cx cy))
  -- ---- what is drawn
  -- "A level L figure differs from 4^L times the exact area by at most" the limit
  pub close : (level cx cy : ℕ) → CellOf depth level cx cy
      → (pos 2 *ℤ abs (miss_from (root_of es) depth es level cx cy)) ≤ℤ pos (twice_limit level (length es) * denominator es)
  -- "It is equal where every edge is level, upright or at 45 degrees."
  pub equal : All Octilinear es → (level cx cy : ℕ) → CellOf depth level cx cy → miss_from (root_of es) depth es level cx cy ≡ pos 0
  -- "A cell's grey is still at most one from the grey of the exact area, taken the same way": of the magnitude of 4^L times the cell's exact area in place
  -- of the figure, where the edges are at most 1,024, question 5's limit
  pub greys : length es ≤ most_edges → (level cx cy : ℕ) → CellOf depth level cx cy
      → OneApart (grey_of (2 ^ depth) (figure_at (table_from (root_of es) depth es) level cx cy))
      (grey (2 ^ depth) (pos (4 ^ level) *ℤ exact_area_num depth es level (at cx cy)) (denominator es))
  -- "The figures of level L add up to 4^L times" the root, "which is entry 0."
  pub totals : (level : ℕ) → total (λ f. f) (picture dimensions (λ f. f) (table_from (root_of es) depth es) level) ≡ pos (4 ^ level) *ℤ root_of es
  -- ---- the table, besides: its entries are within 2^38, well in question 9's range, and the order of the edges does not matter
  pub entries : depth ≤ greatest_depth → length es ≤ most_edges
      → Bounded dimensions depth built_entry_limit (λ j cell. built_entry_limit) (table_from (root_of es) depth es)
  pub any_order : (fs : List Edge) → Perm es fs → table_from (root_of fs) depth fs ≡ table_from (root_of es) depth es

-- ---- edges on the tile: the signed area is the exact area of the tile, and "a level L figure differs .. by at most (4^L − 1) × edges / 2"
pub record AccurateAlone (depth : ℕ) (es : List Edge) : Type 0 where
  pub whole : exact_area_num depth es 0 (at 0 0) ≡ signed_area es *ℤ pos (denominator es)
  pub accurate : Accurate signed_area twice_miss_limit depth es

pub record AccurateOutline (depth : ℕ) (contours : List (List Point)) : Type 0 where
  pub accurate : AccurateAlone depth (outline_edges contours)
  -- "the edges being the counts' sum"
  pub edge-count : length (outline_edges contours) ≡ tally length contours
  -- with each contour's points in the reverse order, as 01's letters B and H are A and G reversed: the opposite table
  pub reversed : outline_table depth (outline_edges (map reverse contours)) ≡ negated (outline_table depth (outline_edges contours))

-- ---- a tile of a sheet: "a tile's figures add up to 4^L times its own rounded root"
pub record AccurateOnSheet (depth : ℕ) (es : List Edge) : Type 0 where
  pub accurate : Accurate (tile_root depth) twice_tile_miss_limit depth es
  -- of edges that lie wholly on the tile the root is the signed area, and so the table is that of a tile alone
  pub wholly_on : All (EdgeOnTile depth) es → tile_table depth es ≡ outline_table depth es
