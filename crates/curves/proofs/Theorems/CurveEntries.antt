-- Demand 2 of building with marks: what each entry of the table is, whatever the table held before. `entries_at` is the whole of it; here is each entry by itself, of
-- the edges as the tile has them: for a tile alone as they are, on a sheet as they are seen from the tile's corner. That every entry but the root is a detail of a
-- cell, and one alone, is `detail_entry` of tile's `TableEntries`.
--
-- Main results
--   curves_length                the table has side × side entries
--   curves_root                  entry 0: the signed area of the edges, or on a sheet the sum of each one's rounded part of the tile's area
--   curves_detail                a cell's detail: the sum over the edges, chords among them, of the exact integral, each edge's rounded on its own
use Rattle.std.specs.Prelude.{◌≡◌, List, ℕ, ◌+◌, ◌*◌, ◌-◌, ◌^◌, ◌<◌, ◌≤◌, length, get_or, ℤ, pos}
use Rattle.std.proofs.Common.{sym, ◌∙◌, ap}
use Rattle.integers.specs.ListSum.{total}
use Rattle.edge.specs.declared.Edge.{Edge}
use Rattle.edge.specs.Rounded.{details}
use Rattle.haar.specs.Plane.{dimensions, at}
use Rattle.haar.proofs.Laws.Layout.{index_plane}
use Rattle.haar.proofs.Laws.Entries.{entries-root, entries_detail}
use Rattle.placement.specs.declared.Placement.{Placement}
use Rattle.accuracy.specs.Tile.{square}
use Rattle.accuracy.specs.ExactDetails.{numbered}
use Rattle.accuracy.specs.OutlineTable.{table_from}
use Rattle.tile.specs.Questions.{depth_of}
use Rattle.tile.specs.Outcomes.{table_with}
use Rattle.tile.proofs.Laws.IfDone.{if_done_lem}
use Rattle.tile.proofs.Laws.BuiltTable.{table_with-length}
use Rattle.sheet.specs.declared.Site.{Site}
use Rattle.sheet.specs.Sites.{tile_side, seen_at, root_at, entries_at}
use Rattle.sheet.proofs.Laws.SiteEdges.{site_side, entries_with}
use Rattle.curves.specs.MarkedQuestions.{edges_marked}
use Rattle.curves.specs.CurveOutcomes.{curves_refusal, curves_table}
use Rattle.curves.proofs.Theorems.CurveTheorem.{curves_accepted}

module _ (site : Site) (points : List ℤ) (counts marks : List ℕ) (placement : Placement) (before : List ℤ)
    (done : curves_refusal site points counts marks placement before ≡ 0) where
  abbrev depth : ℕ
  depth = depth_of (tile_side site)

  abbrev es : List Edge
  es = edges_marked points counts marks placement

  left_is : curves_table site points counts marks placement before ≡ table_with (tile_side site) (root_at site es) (seen_at site es)
  left_is = if_done_lem (entries_at site es) before done ∙ sym (entries_with site es)

  pub curves_length : length (curves_table site points counts marks placement before) ≡ tile_side site * tile_side site
  curves_length =
      ap length left_is
      ∙ table_with-length (tile_side site) (root_at site es) (seen_at site es) (site_side site (curves_accepted site points counts marks placement before done).site_yes)

  pub curves_root : get_or (curves_table site points counts marks placement before) 0 (pos 0) ≡ root_at site es
  curves_root = ap (λ t. get_or t 0 (pos 0)) left_is ∙ entries-root dimensions depth (table_from (root_at site es) depth (seen_at site es))

  -- h, v and d are details 1, 2 and 3, at 01's place in the table
  pub curves_detail : (j cx cy k : ℕ) → j < depth → cx < 2 ^ j → cy < 2 ^ j → 1 ≤ k → k ≤ 3
      → get_or (curves_table site points counts marks placement before) (4 ^ j + 3 * (cy * 2 ^ j + cx) + (k - 1)) (pos 0)
      ≡ total (λ e. numbered (details e (square depth j (at cx cy))) k) (seen_at site es)
  curves_detail j cx cy k h x y first last =
      ap (λ t. get_or t (4 ^ j + 3 * (cy * 2 ^ j + cx) + (k - 1)) (pos 0)) left_is
      ∙ ap (λ i. get_or (table_with (tile_side site) (root_at site es) (seen_at site es)) i (pos 0)) (sym (index_plane j cx cy k))
      ∙ entries_detail (table_from (root_at site es) depth (seen_at site es)) h (record { inside = (x, (y, tt)); first = first; last = last })
