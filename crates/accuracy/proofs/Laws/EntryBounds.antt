-- How large the entries of a table are: what one edge adds to an entry is at most `detail_limit`, either way, so n edges add at most n times as much.
--
-- Main results
--   tile_width_le                no tile is wider than the greatest
--   Small root depth e           what one edge adds to each entry, with this part of the root, is at most `detail_limit`
--   edge_small                   so it is of an edge on a square, if the square's width times the tile's is no more, and the root's part neither
--   edge_on_tile_small           so it is on the tile, the root's part being the edge's root term
--   sheet_times_tile             a sheet's width times its tile's is within the limit
--   edge_on_sheet_small          and on a sheet around the tile, the root's part being the edge's rounded area in the tile
--   built_entries                a table's entries are at most `built_entry_limit`, for a number of edges that is accepted
use Rattle.std.specs.Prelude.{refl, List, [], ◌∷◌, ℕ, ◌*◌, ◌^◌, ◌≤◌, length, ℤ, pos, ◌*ℤ◌, ◌≤ℤ◌}
use Rattle.std.proofs.Common.{arith, le_refl, le_trans, sub-le, mul-le-mul, mul-le-mul_left}
use Rattle.std.proofs.Math.Nat.{sub-le-sub_left, pow-le-pow_right}
use Rattle.integers.specs.Units.{steps_per_pixel, greatest_depth, greatest_coordinate, greatest_sheet_coordinate, greatest_tile_depth, greatest_tile_side, most_edges, width_times_extent_limit, detail_limit, built_entry_limit}
use Rattle.integers.proofs.Theorems.Ring.{read, ring}
use Rattle.integers.proofs.Theorems.Order.{nonneg, pos-≤ℤ, ≤ℤ-mul}
use Rattle.integers.proofs.Theorems.Linear.{le, ◌&◌, linear, lin≤}
use Rattle.integers.specs.Within.{Within}
use Rattle.integers.proofs.Theorems.Within.{within_le, within_is}
use Rattle.integers.proofs.Theorems.RoundHalfAway.{round_half_away_within}
use Rattle.integers.specs.ListSum.{All, total}
use Rattle.integers.proofs.Theorems.ListSum.{all_map, total_bounded}
use Rattle.edge.specs.declared.Edge.{Edge}
use Rattle.edge.specs.declared.Cell.{Cell as Square}
use Rattle.edge.specs.Walk.{ax, ay}
use Rattle.edge.specs.Rounded.{details, root_term, rounded_area}
use Rattle.edge.specs.Nested.{OnCell}
use Rattle.edge.proofs.Laws.StepCount.{steps_pos}
use Rattle.edge.proofs.Laws.Bounds.{area_numerator_bound}
use Rattle.edge.proofs.Laws.Cells.{difference_on, product_on, details_on}
use Rattle.haar.specs.Table.{Bounded}
use Rattle.haar.specs.Plane.{dimensions}
use Rattle.accuracy.specs.Tile.{cell_width, square, tile, EdgeOnTile}
use Rattle.accuracy.specs.OutlineTable.{edge_table, rooted_table, table_from}
use Rattle.accuracy.proofs.Laws.OnTile.{on_cell}
use Rattle.accuracy.proofs.Laws.Numbered.{by_number}

-- ---- widths: no cell is wider than the tile, and no tile than the greatest
width_le : {i j : ℕ} → i ≤ j → steps_per_pixel * 2 ^ i ≤ steps_per_pixel * 2 ^ j
width_le h = mul-le-mul_left steps_per_pixel (pow-le-pow_right {n = 2} (omega arith) h)

cell_width_le : (depth j : ℕ) → cell_width depth j ≤ cell_width depth 0
cell_width_le depth j = width_le (sub-le-sub_left {n = 0} (omega arith) depth)

pub tile_width_le : {depth : ℕ} → depth ≤ greatest_depth → cell_width depth 0 ≤ greatest_coordinate
tile_width_le {depth} g = width_le (le_trans (sub-le depth 0) g)

sheet_tile_width_le : {depth : ℕ} → depth ≤ greatest_tile_depth → cell_width depth 0 ≤ steps_per_pixel * greatest_tile_side
sheet_tile_width_le {depth} g = width_le (le_trans (sub-le depth 0) g)

-- ---- what one edge adds
abbrev pub Small : ℤ → ℕ → Edge → Type 0
Small root depth e = Bounded dimensions depth detail_limit (λ j cell. detail_limit) (rooted_table root depth e)

-- To a detail, how far it runs in x or in y times the cell's width.
pub edge_small : {depth : ℕ} {e : Edge} (s : Square) (root : ℤ) → OnCell s e → pos 0 ≤ℤ s.width → (s.width *ℤ pos (cell_width depth 0)) ≤ℤ pos detail_limit
    → Within (pos detail_limit) root → Small root depth e
edge_small {depth} {e} s root on w≥0 narrow small = record {
  root_within = small;
  detail_within = λ j i cell b k m n.
      let smaller = pos-≤ℤ (cell_width_le depth j) in
      let within : (s.width *ℤ pos (cell_width depth j)) ≤ℤ pos detail_limit =
      lin≤ (s.width ∷ pos (cell_width depth j) ∷ pos (cell_width depth 0) ∷ []) (le narrow & le (≤ℤ-mul w≥0 smaller)) (search linear depth 40) tt in
      let w = details_on (square depth j cell) on (nonneg (cell_width depth j)) within in
      by_number (Within (pos detail_limit)) (details e (square depth j cell)) w.h w.v w.d k m n;
}

-- On the tile, to the root the difference of two products of coordinates, neither below 0.
pub edge_on_tile_small : {depth : ℕ} {e : Edge} → depth ≤ greatest_depth → EdgeOnTile depth e → Small (root_term e) depth e
unfolding root_term
edge_on_tile_small {depth} {e} g o =
    let on = on_cell depth e o in
    let limit = pos-≤ℤ (mul-le-mul (tile_width_le g) (tile_width_le g)) in
    edge_small (tile depth) (root_term e) on (nonneg (cell_width depth 0)) limit
    (within_le limit (difference_on (product_on on.x1 on.y0) (product_on on.x0 on.y1)))

-- In any cell an edge's rounded area is at most twice the square of the width, however long the edge is.
rounded_area_within : (e : Edge) (c : Square) → pos 0 ≤ℤ c.width → Within (pos 2 *ℤ (c.width *ℤ c.width)) (rounded_area e c)
unfolding rounded_area
rounded_area_within e c h =
    round_half_away_within (steps_pos e)
    (within_is (ring (pos (ax e) ∷ pos (ay e) ∷ c.width ∷ []) (search read depth 40) tt) refl (area_numerator_bound e c h))

-- a sheet's width times its tile's
pub sheet_times_tile : {depth : ℕ} (s : Square) → depth ≤ greatest_tile_depth → s.width ≤ℤ pos greatest_sheet_coordinate
    → (s.width *ℤ pos (cell_width depth 0)) ≤ℤ pos width_times_extent_limit
sheet_times_tile {depth} s g narrow =
    let w = pos (cell_width depth 0) in
    let t : w ≤ℤ pos (steps_per_pixel * greatest_tile_side) = pos-≤ℤ (sheet_tile_width_le g) in
    lin≤ (s.width ∷ w ∷ []) (le (≤ℤ-mul narrow (nonneg (cell_width depth 0))) & le t) (search linear depth 40) tt

pub edge_on_sheet_small : {depth : ℕ} {e : Edge} (s : Square) → depth ≤ greatest_tile_depth → pos 0 ≤ℤ s.width → s.width ≤ℤ pos greatest_sheet_coordinate → OnCell s e
    → Small (rounded_area e (tile depth)) depth e
edge_on_sheet_small {depth} {e} s g w≥0 narrow on =
    let w = pos (cell_width depth 0) in
    let t : w ≤ℤ pos (steps_per_pixel * greatest_tile_side) = pos-≤ℤ (sheet_tile_width_le g) in
    let twice : (pos 2 *ℤ (w *ℤ w)) ≤ℤ pos detail_limit = lin≤ (w ∷ []) (le (≤ℤ-mul t (nonneg (cell_width depth 0))) & le t) (search linear depth 40) tt in
    edge_small s (rounded_area e (tile depth)) on w≥0 (sheet_times_tile s g narrow) (within_le twice (rounded_area_within e (tile depth) (nonneg (cell_width depth 0))))

-- ---- what all of them add, `root` being each edge's part of the root
pub built_entries : {depth : ℕ} (root : Edge → ℤ) (es : List Edge) → All (λ e. Small (root e) depth e) es → length es ≤ most_edges
    → Bounded dimensions depth built_entry_limit (λ j cell. built_entry_limit) (table_from (total root es) depth es)
built_entries {depth} root es small few =
    let b = pos-≤ℤ (mul-le-mul few (le_refl detail_limit)) in
    record {
      root_within = within_le b (total_bounded detail_limit root es (all_map (λ e h. h.root_within) es small));
      detail_within = λ j i cell c k m n.
          within_le b
          (total_bounded detail_limit (λ e. (edge_table depth e).detail j cell k) es (all_map (λ e h. h.detail_within j i cell c k m n) es small));
    }
