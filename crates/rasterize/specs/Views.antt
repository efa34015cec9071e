-- How a tile has an outline's edges: a tile alone (01) as they are, a tile of a sheet (02, P5) as they are seen from its corner. What an edge adds differs
-- in its part of the root alone: its term of the signed area, or its rounded part of the tile's area, which an edge beyond the tile may have too.
--
-- Definitions
--   seen_by view e                the edge as the tile has it
--   root_part view depth e        its part of the root, of an edge as the tile has it
--   part_table view depth e       what the edge adds to each entry
--   view_table view depth es      the sums over the edges
--   InView view depth e           what is asked of an edge: as the tile has it, it lies on one sheet with the tile, and what it adds is small
--   Seen, seen_table              the same of an edge that is as the tile has it, and what it adds
--   turned_by sign e              the edge, or the way back along it where the sign is negative
use Rattle.std.specs.Prelude.{List, ℕ, ℤ, pos, negsuc}
use Rattle.integers.specs.ListSum.{total}
use Rattle.edge.specs.declared.Edge.{Edge}
use Rattle.edge.specs.Rounded.{root_term, rounded_area}
use Rattle.edge.specs.Nested.{seen_from}
use Rattle.edge.proofs.Laws.Reversal.{reverse}
use Rattle.haar.specs.Table.{Coefficients}
use Rattle.haar.specs.Plane.{dimensions}
use Rattle.accuracy.specs.Tile.{tile}
use Rattle.accuracy.specs.OutlineTable.{rooted_table}
use Rattle.accuracy.proofs.Laws.EntryBounds.{Small}
use Rattle.rasterize.specs.declared.View.{View}
use Rattle.rasterize.specs.declared.View.TheVariants.{Alone, From}
use Rattle.rasterize.specs.Nodes.{node_at}
use Rattle.rasterize.specs.Ready.{OnSheet}

abbrev pub seen_by : View → Edge → Edge
seen_by Alone e = e
seen_by (From corner) e = seen_from corner.x corner.y e

abbrev pub root_part : View → ℕ → Edge → ℤ
root_part Alone depth e = root_term e
root_part (From corner) depth e = rounded_area e (tile depth)

abbrev pub part_table : View → ℕ → Edge → Coefficients dimensions
part_table view depth e = rooted_table (root_part view depth (seen_by view e)) depth (seen_by view e)

-- of a tile alone this is `outline_table` of `accuracy`
abbrev pub view_table : View → ℕ → List Edge → Coefficients dimensions
view_table view depth es = record {
  root = total (λ e. (part_table view depth e).root) es;
  detail = λ j cell k. total (λ e. (part_table view depth e).detail j cell k) es;
}

pub record InView (view : View) (depth : ℕ) (e : Edge) : Type 0 where
  pub on_sheet : OnSheet (seen_by view e) depth (node_at depth 0 0 0).square
  pub small : Small (root_part view depth (seen_by view e)) depth (seen_by view e)

-- ---- an edge that is as the tile has it
pub record Seen (view : View) (depth : ℕ) (e : Edge) : Type 0 where
  pub on_sheet : OnSheet e depth (node_at depth 0 0 0).square
  pub small : Small (root_part view depth e) depth e

abbrev pub seen_table : View → ℕ → Edge → Coefficients dimensions
seen_table view depth e = rooted_table (root_part view depth e) depth e

-- to take an edge out is to add the way back along it
abbrev pub turned_by : ℤ → Edge → Edge
turned_by (pos n) e = e
turned_by (negsuc n) e = reverse e
