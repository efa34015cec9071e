-- The edges that a tile has in view: those on a tile alone, and those of an outline on a sheet.
--
-- Main results
--   in_view_alone                an edge on the tile is in view of a tile alone
--   in_view_from                 an edge on a sheet is in view of each of the sheet's tiles
use Rattle.std.specs.Prelude.{◌≡◌, ℕ, ◌+◌, ◌*◌, ◌-◌, ◌^◌, ◌≤◌, pos, ◌*ℤ◌, ◌≤ℤ◌}
use Rattle.std.proofs.Common.{◌∙◌, ap, arith, mul-le-mul}
use Rattle.std.proofs.Math.Path.{subst⁻¹}
use Rattle.std.proofs.Math.Nat.{one-le-pow}
use Rattle.integers.specs.Units.{steps_per_pixel, greatest_depth, greatest_tile_depth, greatest_sheet_coordinate, width_times_extent_limit}
use Rattle.integers.proofs.Theorems.Order.{pos-≤ℤ, ≤ℤ_trans}
use Rattle.integers.proofs.Theorems.Within.{within_zero}
use Rattle.edge.specs.declared.Edge.{Edge}
use Rattle.edge.specs.declared.Cell.{Cell as Square}
use Rattle.edge.specs.Room.{coordinate_limit}
use Rattle.edge.specs.Nested.{Contains, Sheet, OnCell}
use Rattle.edge.proofs.Laws.Cells.{contains_refl}
use Rattle.accuracy.specs.Tile.{cell_width, tile, EdgeOnTile}
use Rattle.accuracy.proofs.Laws.OnTile.{on_cell}
use Rattle.accuracy.proofs.Laws.Squares.{square-tile}
use Rattle.accuracy.proofs.Laws.EntryBounds.{tile_width_le, edge_on_tile_small, edge_on_sheet_small, sheet_times_tile}
use Rattle.rasterize.specs.declared.Corner.{Corner}
use Rattle.rasterize.specs.declared.View.TheVariants.{Alone, From}
use Rattle.rasterize.specs.Nodes.{node_at}
use Rattle.rasterize.specs.Ready.{OnSheet}
use Rattle.rasterize.specs.Views.{seen_by, InView}

-- an edge and the tile on one sheet; the tile can be halved once for each level
tile_on_sheet : {depth : ℕ} {e : Edge} (s : Square) → Sheet s → OnCell s e → Contains s (tile depth) → (s.width *ℤ pos (cell_width depth 0)) ≤ℤ pos width_times_extent_limit
    → OnSheet e depth (node_at depth 0 0 0).square
tile_on_sheet {depth} s is on around narrow =
    let same : depth - 0 ≡ depth = omega arith in
    record {
      sheet = s;
      is_sheet = is;
      edge_on = on;
      square_on = subst⁻¹ (Contains s) (square-tile depth) around;
      narrow = narrow;
      finest = steps_per_pixel;
      halves = ap pos (ap (λ k. steps_per_pixel * 2 ^ k) same ∙ omega arith);
    }

-- ---- a tile alone is its own sheet: at least a step wide, and no wider than the greatest coordinate
tile_sheet : (depth : ℕ) → depth ≤ greatest_depth → Sheet (tile depth)
tile_sheet depth shallow =
    let far : 0 + cell_width depth 0 ≤ coordinate_limit = omega (arith, tile_width_le shallow) in
    let low : 1 ≤ cell_width depth 0 = omega (arith, one-le-pow (depth - 0) 2 (omega arith)) in
    record {
      width = pos-≤ℤ low;
      left = within_zero coordinate_limit;
      right = pos-≤ℤ far;
      top = within_zero coordinate_limit;
      bottom = pos-≤ℤ far;
    }

pub in_view_alone : {depth : ℕ} {e : Edge} → depth ≤ greatest_depth → EdgeOnTile depth e → InView Alone depth e
in_view_alone {depth} {e} shallow on = record {
  on_sheet = tile_on_sheet (tile depth) (tile_sheet depth shallow) (on_cell depth e on) (contains_refl (tile depth))
      (pos-≤ℤ (mul-le-mul (tile_width_le shallow) (tile_width_le shallow)));
  small = edge_on_tile_small shallow on;
}

-- ---- on a sheet s around the tile, as seen from the tile's corner
pub in_view_from : {depth : ℕ} {e : Edge} (corner : Corner) (s : Square) → depth ≤ greatest_tile_depth → Sheet s → s.width ≤ℤ pos greatest_sheet_coordinate
    → Contains s (tile depth) → OnCell s (seen_by (From corner) e) → InView (From corner) depth e
in_view_from {depth} {e} corner s shallow is narrow around on =
    let w≥0 = ≤ℤ_trans (pos-≤ℤ (let h : 0 ≤ 1 = omega arith in h)) is.width in
    record {
      on_sheet = tile_on_sheet s is on around (sheet_times_tile s shallow narrow);
      small = edge_on_sheet_small s shallow w≥0 narrow on;
    }
