-- A letter traced the other way round (02, P4), on a sheet: every tile has the opposite table and the same greys, as a tile alone has (`EitherWay` of `tile`).
--
-- Of two outlines, let the edges of one as placed be those of the other, each walked backwards, in whatever order (`EdgesReversed` of `accuracy`, in
-- Laws/Reversal). So they are as they are seen from a tile; and there each edge's rounded part of the root is opposite too. Where building on the sheet accepts
-- the one it accepts the other, if that has as many points as its counts say and passes questions 4 and 12. It is said of what the calls leave
-- (`SheetOutcomes`), whatever the tables held before.
--
-- Main results, of edges each walked backwards
--   reversed_on_sheet_table      a tile has the opposite table of them
--   reversed_on_sheet_exact_grey and in every cell the same exact grey
-- Main results, of two outlines, the edges of one as placed those of the other, so walked
--   either_way_on_sheet_accepted where building on the sheet accepts the one, it accepts the other, over a table as long
--   either_way_on_sheet_table    where it accepts both, it leaves opposite tables
--   either_way_on_sheet_greys    so every grey is the same, at every level
-- Instance
--   square-back                  the square over four tiles (`TilesAddUp`) walked back from its first point
--   square-back-accepted         it is accepted as the square is
use Rattle.std.specs.Prelude.{◌≡◌, refl, ℕ, ◌*◌, eqb, leb, length, replicate, ℤ, pos}
use Rattle.std.proofs.Common.{sym, ◌∙◌, ap}
use mathlib.Core.List.{List, [], ◌∷◌, reverse_perm}
use Rattle.integers.specs.Units.{steps_per_pixel, most_edges}
use Rattle.integers.specs.Tests.{between}
use Rattle.integers.specs.ListSum.{tally}
use Rattle.edge.specs.declared.Edge.{Edge}
use Rattle.haar.specs.Entries.{entries}
use Rattle.haar.specs.Greys.{grey}
use Rattle.haar.specs.Plane.{dimensions}
use Rattle.haar.proofs.Laws.Opposite.{entries-opposite}
use Rattle.placement.specs.declared.Placement.{Placement}
use Rattle.placement.specs.declared.Placement.TheVariants.{None}
use Rattle.placement.specs.Placed.{placed}
use Rattle.placement.proofs.Laws.PlacedPoints.{placed-length}
use Rattle.accuracy.specs.Outline.{contours_of, points_of, through, contour_edges, outline_edges, edge_count}
use Rattle.accuracy.specs.ExactArea.{denominator}
use Rattle.accuracy.specs.OutlineTable.{tile_table}
use Rattle.accuracy.proofs.Laws.Reversal.{EdgesReversed, tile_table-reversed, from_tile-reversed}
use Rattle.tile.specs.Questions.{Yes, depth_of, question4, question12}
use Rattle.tile.specs.Outcomes.{edges_of}
use Rattle.tile.proofs.Theorems.Refusals.{question3_means}
use Rattle.tile.specs.Faithful.{figure_num}
use Rattle.tile.specs.EitherWay.{opposite}
use Rattle.tile.proofs.Theorems.EitherWay.{reversed_edges_exact_grey, either_way_count, either_way_every}
use Rattle.tile.proofs.Laws.IfDone.{if_done_lem}
use Rattle.sheet.specs.declared.SheetTile.{SheetTile}
use Rattle.sheet.specs.SheetOutcomes.{tile_at, seen_from_tile, tile_entries, sheet_refusal, sheet_table}
use Rattle.sheet.proofs.Theorems.SheetRefusals.{sheet_refusals}
use Rattle.sheet.specs.TilesAddUp.{square}
use Rattle.sheet.proofs.Theorems.TilesAddUp.{square-accepted}

-- ---- edges, each walked backwards
module _ (place : SheetTile) (es : List Edge) {fs : List Edge} (back : EdgesReversed es fs) where
  seen_back : EdgesReversed (seen_from_tile place es) (seen_from_tile place fs)
  seen_back = from_tile-reversed (depth_of place.side) place.column place.row es back

  pub reversed_on_sheet_table : tile_entries place fs ≡ opposite (tile_entries place es)
  reversed_on_sheet_table =
      let depth = depth_of place.side in
      ap (entries dimensions depth) (tile_table-reversed depth (seen_from_tile place es) seen_back)
      ∙ entries-opposite dimensions depth (tile_table depth (seen_from_tile place es))

  pub reversed_on_sheet_exact_grey : (level cx cy : ℕ)
      → grey place.side (figure_num place.side (seen_from_tile place fs) level cx cy) (denominator (seen_from_tile place fs))
      ≡ grey place.side (figure_num place.side (seen_from_tile place es) level cx cy) (denominator (seen_from_tile place es))
  reversed_on_sheet_exact_grey = reversed_edges_exact_grey place.side (seen_from_tile place es) seen_back

-- ---- two outlines as placed, the edges of one those of the other, each walked backwards; `before` and `other` are what the tables held
module _ (place : SheetTile) (points : List ℤ) (counts : List ℕ) (p : Placement) (before points' : List ℤ) (counts' : List ℕ) (p' : Placement) (other : List ℤ)
    (done : sheet_refusal place points counts p before ≡ 0) (back : EdgesReversed (edges_of (placed p points) counts) (edges_of (placed p' points') counts')) where
  -- questions 14 and 15 read the place alone, and question 2 the table's length
  pub either_way_on_sheet_accepted : Yes (question4 counts') → length points' ≡ 2 * edge_count counts' → Yes (question12 p' points')
      → length other ≡ length before → sheet_refusal place points' counts' p' other ≡ 0
  either_way_on_sheet_accepted four long' movable e =
      let yes = (sheet_refusals place points counts p before).accepted.0 done in
      let placed_long : length (placed p points) ≡ 2 * edge_count counts =
      placed-length p points ∙ (question3_means points counts).0 yes.1.1.1.1.1.0 in
      let placed_long' : length (placed p' points') ≡ 2 * edge_count counts' = placed-length p' points' ∙ long' in
      let few = ap (λ n. leb n most_edges) (either_way_count (placed p points) counts (placed p' points') counts' placed_long placed_long' back) in
      let on = either_way_every (placed p points) counts (placed p' points') counts' placed_long placed_long' back
      (between (pos 0) (pos (steps_per_pixel * place.sheet))) in
      (sheet_refusals place points' counts' p' other).accepted.1 (
        yes.0,
        (
          yes.1.0,
          (
            ap (λ n. eqb n (place.side * place.side)) e ∙ yes.1.1.0,
            (
              four,
              (
                few ∙ yes.1.1.1.1.0,
                ((question3_means points' counts').1 long', (movable, (on ∙ yes.1.1.1.1.1.1.1.0, tt))),
              ),
            ),
          ),
        ),
      )

  module _ (done' : sheet_refusal place points' counts' p' other ≡ 0) where
    pub either_way_on_sheet_table : sheet_table place points' counts' p' other ≡ opposite (sheet_table place points counts p before)
    either_way_on_sheet_table =
        if_done_lem (tile_entries place (edges_of (placed p' points') counts')) other done' ∙ reversed_on_sheet_table place (edges_of (placed p points) counts) back
        ∙ sym (ap opposite (if_done_lem (tile_entries place (edges_of (placed p points) counts)) before done))

-- ---- an instance: (256,256) (256,768) (768,768) (768,256)
abbrev way_back : List ℤ
way_back = pos 256 ∷ pos 256 ∷ pos 256 ∷ pos 768 ∷ pos 768 ∷ pos 768 ∷ pos 768 ∷ pos 256 ∷ []

pub square-back : EdgesReversed (edges_of (placed None square) (4 ∷ [])) (edges_of (placed None way_back) (4 ∷ []))
unfolding placed contours_of points_of through contour_edges outline_edges
square-back = reverse_perm _

pub square-back-accepted : sheet_refusal (tile_at 4 2 0 0) way_back (4 ∷ []) None (replicate 4 (pos 0)) ≡ 0
unfolding placed tally
square-back-accepted =
    let before = replicate 4 (pos 0) in
    either_way_on_sheet_accepted (tile_at 4 2 0 0) square (4 ∷ []) None before way_back (4 ∷ []) None before square-accepted square-back refl refl refl refl
