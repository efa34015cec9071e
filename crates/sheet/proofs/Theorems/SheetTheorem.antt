-- Laws of what specs/SheetTheorem.antt defines. The head of that file lists the main results.
use Rattle.std.specs.Prelude.{◌≡◌, List, ℕ, ◌≤◌, ℤ}
use Rattle.std.proofs.Common.{sym, ◌∙◌, subst, arith}
use Rattle.edge.specs.declared.Edge.{Edge}
use Rattle.haar.specs.Plane.{at}
use Rattle.placement.specs.declared.Placement.{Placement}
use Rattle.placement.specs.Placed.{placed}
use Rattle.placement.proofs.Laws.PlacedPoints.{placed-length}
use Rattle.accuracy.specs.Outline.{contours_of}
use Rattle.accuracy.specs.OutlineTable.{tile_root}
use Rattle.accuracy.specs.Accurate.{twice_tile_miss_limit}
use Rattle.accuracy.proofs.Laws.Contours.{outline_closed, outline_on_tile}
use Rattle.accuracy.proofs.Laws.Coordinates.{contours_of-count, contours_of_on_tile}
use Rattle.accuracy.proofs.Laws.Denominator.{denominator-pos}
use Rattle.accuracy.proofs.Laws.Roots.{root_wholly_on}
use Rattle.accuracy.proofs.Laws.SheetTiles.{from-tile_area, from-tile-closed, from-tile-length, from-tile_octilinear, from-tile-signed}
use Rattle.tile.specs.Questions.{depth_of}
use Rattle.tile.specs.Outcomes.{edges_of}
use Rattle.tile.proofs.Theorems.Refusals.{question2_means, question3_means, question5_means}
use Rattle.tile.specs.Faithful.{Drawn}
use Rattle.tile.proofs.Theorems.Theorem.{table_drawn}
use Rattle.tile.proofs.Laws.IfDone.{if_done_lem}
use Rattle.tile.proofs.Laws.Accepted.{on_side}
use Rattle.sheet.specs.declared.SheetTile.{SheetTile}
use Rattle.sheet.specs.declared.Site.TheVariants.{OnSheet}
use Rattle.sheet.specs.SheetOutcomes.{seen_from_tile, tile_entries, sheet_refusal, sheet_table}
use Rattle.sheet.proofs.Theorems.SheetRefusals.{sheet_refusals}
use Rattle.sheet.specs.FaithfulOnSheet.{FaithfulOnSheet}
use Rattle.sheet.specs.Sites.{SiteYes}
use Rattle.sheet.proofs.Laws.SiteEdges.{reach_power, site_accepted}
use Rattle.sheet.specs.SheetTheorem.{AcceptedOnSheet}

module _ (place : SheetTile) (points : List ℤ) (counts : List ℕ) (placement : Placement) (table : List ℤ) where
  abbrev drawn : List ℤ
  drawn = placed placement points

  abbrev es : List Edge
  es = edges_of drawn counts

  pub sheet_accepted : sheet_refusal place points counts placement table ≡ 0 → AcceptedOnSheet place points counts placement table
  sheet_accepted done =
      let yes = (sheet_refusals place points counts placement table).accepted.0 done in
      let site : SiteYes (OnSheet place) = (yes.0, yes.1.0) in
      let long = (question3_means points counts).0 yes.1.1.1.1.1.0 in
      let reach = reach_power (OnSheet place) site in
      let wide = depth_of place.sheet in
      record {
        site = site;
        table_length_lem = (question2_means place.side table).0 yes.1.1.0;
        few_edges = (question5_means counts).0 yes.1.1.1.1.0;
        points_length = long;
        movable = yes.1.1.1.1.1.1.0;
        on_sheet = outline_on_tile wide (contours_of counts drawn)
            (contours_of_on_tile wide counts drawn (on_side place.sheet drawn reach yes.1.1.1.1.1.1.1.0));
        counted = contours_of-count counts drawn (omega (arith, long, placed-length placement points));
      }

  -- by what was answered
  drawn_level : sheet_refusal place points counts placement table ≡ 0 → (level : ℕ) → level ≤ depth_of place.side
      → Drawn place.side (seen_from_tile place es) (tile_root (depth_of place.side) (seen_from_tile place es)) twice_tile_miss_limit
      (sheet_table place points counts placement table) level
  drawn_level done level shallow =
      let a = sheet_accepted done in
      subst (λ (t : List ℤ). Drawn place.side (seen_from_tile place es) (tile_root (depth_of place.side) (seen_from_tile place es)) twice_tile_miss_limit t level)
      (sym (if_done_lem (tile_entries place es) table done))
      (table_drawn (site_accepted (OnSheet place) a.site es a.on_sheet (omega (arith, a.counted, a.few_edges))) level shallow)

  pub sheet_faithful : FaithfulOnSheet place points counts placement table (sheet_table place points counts placement table)
  sheet_faithful = record {
    faithful = record {
      denominator-positive = denominator-pos (seen_from_tile place es);
      counted = λ done. from-tile-length (depth_of place.side) place.column place.row es ∙ (sheet_accepted done).counted;
      drawn = drawn_level;
    };
    at_place = λ level cx cy. (let same = from-tile_area (depth_of place.side) place.column place.row es level (at cx cy) in (same.1, same.0));
    octilinear = from-tile_octilinear (depth_of place.side) place.column place.row es;
    wholly_on = λ on.
        root_wholly_on (depth_of place.side) (from-tile-closed (depth_of place.side) place.column place.row (outline_closed (contours_of counts drawn))) on
        ∙ from-tile-signed (depth_of place.side) place.column place.row (outline_closed (contours_of counts drawn));
  }
