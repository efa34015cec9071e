-- Demand 2 on a sheet: what each entry of the table is that building left, whatever the table held before. `tile_entries` of `SheetOutcomes` is the whole of
-- it; here is each entry by itself, by the edges as they lie on the sheet and the cells at their place. That every entry but the root is a detail of a cell,
-- and one alone, is `detail_entry` of tile's `TableEntries`: the order of the entries is the same.
--
-- Main results
--   sheet_length                 the table has side × side entries
--   sheet_root                   "The root is now rounded for each edge too": the sum over the edges of each one's exact area in the tile, rounded on its own
--   sheet_detail                 a cell's detail: the sum over the edges of the exact integral, each edge's rounded on its own
use Rattle.std.specs.Prelude.{◌≡◌, List, ℕ, ◌+◌, ◌*◌, ◌-◌, ◌^◌, ◌<◌, ◌≤◌, length, get_or, ℤ, pos}
use Rattle.std.proofs.Common.{sym, ◌∙◌, ap}
use Rattle.integers.proofs.Theorems.ListSum.{all_of, total_cong, total-map}
use Rattle.integers.specs.ListSum.{total}
use Rattle.edge.specs.declared.Edge.{Edge}
use Rattle.edge.specs.Rounded.{details, rounded_area}
use Rattle.edge.specs.Nested.{seen_from, moved}
use Rattle.edge.proofs.Laws.Translation.{details_seen, rounded_area_seen}
use Rattle.haar.specs.Plane.{dimensions, at}
use Rattle.haar.proofs.Laws.Layout.{index_plane}
use Rattle.haar.proofs.Laws.Entries.{entries-root, entries_detail}
use Rattle.placement.specs.declared.Placement.{Placement}
use Rattle.placement.specs.Placed.{placed}
use Rattle.accuracy.specs.Tile.{square, tile}
use Rattle.accuracy.specs.ExactDetails.{numbered}
use Rattle.accuracy.specs.OutlineTable.{tile_root, tile_table}
use Rattle.accuracy.specs.Sheet.{corner, cell_on_sheet}
use Rattle.tile.specs.Questions.{depth_of}
use Rattle.tile.specs.Outcomes.{edges_of}
use Rattle.tile.proofs.Laws.IfDone.{if_done_lem}
use Rattle.tile.proofs.Laws.BuiltTable.{table_with-length}
use Rattle.sheet.specs.declared.SheetTile.{SheetTile}
use Rattle.sheet.specs.declared.Site.TheVariants.{OnSheet}
use Rattle.sheet.specs.SheetOutcomes.{seen_from_tile, tile_entries, sheet_refusal, sheet_table}
use Rattle.sheet.proofs.Theorems.SheetTheorem.{sheet_accepted}
use Rattle.sheet.proofs.Laws.SiteEdges.{site_side}

module _ (place : SheetTile) (points : List ℤ) (counts : List ℕ) (placement : Placement) (before : List ℤ)
    (done : sheet_refusal place points counts placement before ≡ 0) where
  abbrev depth : ℕ
  depth = depth_of place.side

  abbrev es : List Edge
  es = edges_of (placed placement points) counts

  abbrev a : ℤ
  a = corner depth place.column

  abbrev b : ℤ
  b = corner depth place.row

  left_is : sheet_table place points counts placement before ≡ tile_entries place es
  left_is = if_done_lem (tile_entries place es) before done

  pub sheet_length : length (sheet_table place points counts placement before) ≡ place.side * place.side
  sheet_length =
      ap length left_is
      ∙ table_with-length place.side (tile_root depth (seen_from_tile place es)) (seen_from_tile place es)
      (site_side (OnSheet place) (sheet_accepted place points counts placement before done).site)

  pub sheet_root : get_or (sheet_table place points counts placement before) 0 (pos 0) ≡ total (λ e. rounded_area e (moved a b (tile depth))) es
  sheet_root =
      ap (λ t. get_or t 0 (pos 0)) left_is
      ∙ entries-root dimensions depth (tile_table depth (seen_from_tile place es))
      ∙ total-map (λ e. rounded_area e (tile depth)) (seen_from a b) es
      ∙ total_cong _ _ es (all_of (λ e. rounded_area_seen a b e (tile depth)) es)

  -- h, v and d are details 1, 2 and 3, at 01's place in the table
  pub sheet_detail : (j cx cy k : ℕ) → j < depth → cx < 2 ^ j → cy < 2 ^ j → 1 ≤ k → k ≤ 3
      → get_or (sheet_table place points counts placement before) (4 ^ j + 3 * (cy * 2 ^ j + cx) + (k - 1)) (pos 0)
      ≡ total (λ e. numbered (details e (cell_on_sheet depth place.column place.row j (at cx cy))) k) es
  sheet_detail j cx cy k h x y first last =
      ap (λ t. get_or t (4 ^ j + 3 * (cy * 2 ^ j + cx) + (k - 1)) (pos 0)) left_is
      ∙ ap (λ i. get_or (tile_entries place es) i (pos 0)) (sym (index_plane j cx cy k))
      ∙ entries_detail (tile_table depth (seen_from_tile place es)) h (record { inside = (x, (y, tt)); first = first; last = last })
      ∙ total-map (λ e. numbered (details e (square depth j (at cx cy))) k) (seen_from a b) es
      ∙ total_cong _ _ es (all_of (λ e. ap (λ w. numbered w k) (details_seen a b e (square depth j (at cx cy)))) es)
