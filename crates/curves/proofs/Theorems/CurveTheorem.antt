-- Laws of what specs/CurveTheorem.antt defines. The head of that file lists the main results.
use Rattle.std.specs.Prelude.{◌≡◌, refl, List, [], ◌∷◌, ◌↔◌, ℕ, ◌*◌, ◌≤◌, length, ℤ, pos}
use Rattle.std.proofs.Common.{sym, ◌∙◌, subst, arith}
use Rattle.integers.specs.Units.{steps_per_pixel, most_edges, greatest_sheet_coordinate}
use Rattle.integers.proofs.Theorems.Order.{≤ℤ_trans, pos-≤ℤ}
use Rattle.integers.specs.ListSum.{All, tally, joined}
use Rattle.integers.proofs.Theorems.ListSum.{all_map, all_front, all_back}
use Rattle.edge.specs.declared.Edge.{Edge}
use Rattle.edge.specs.Octilinear.{Octilinear}
use Rattle.haar.specs.Pictures.{tabulate}
use Rattle.haar.specs.Plane.{at}
use Rattle.placement.specs.declared.Placement.{Placement}
use Rattle.placement.specs.declared.Placement.TheVariants.{None}
use Rattle.placement.specs.Placed.{placed}
use Rattle.placement.proofs.Laws.PlacedPoints.{placed-length}
use Rattle.accuracy.specs.Outline.{signed_area, ClosedEdges}
use Rattle.accuracy.specs.ExactArea.{denominator, exact_area_num}
use Rattle.accuracy.specs.Tile.{EdgeOnTile, ClosedOnTile}
use Rattle.accuracy.proofs.Laws.Denominator.{denominator-pos}
use Rattle.accuracy.proofs.Laws.Roots.{root_wholly_on}
use Rattle.accuracy.proofs.Laws.SheetTiles.{from-tile_area, from-tile-closed, from-tile_octilinear, from-tile-signed}
use Rattle.curve.specs.Curve.{OnSheet as CoordinateOnSheet, splits_from}
use Rattle.chords.specs.Sides.{sides_from, marked_contours}
use Rattle.chords.specs.Chords.{chords_of}
use Rattle.chords.proofs.Theorems.NearCurves.{sides_near}
use Rattle.chords.proofs.Laws.SidesWithin.{contours_right}
use Rattle.chords.proofs.Laws.ClosedChords.{chords_closed, chords_closed_on}
use Rattle.tile.specs.Questions.{Question, Yes, depth_of, first_no}
use Rattle.tile.specs.Outcomes.{if_done}
use Rattle.tile.proofs.Theorems.Refusals.{question4_means, question6_means}
use Rattle.tile.specs.Faithful.{Drawn}
use Rattle.tile.proofs.Theorems.Theorem.{table_drawn}
use Rattle.tile.proofs.Laws.IfDone.{if_done_lem}
use Rattle.tile.proofs.Laws.FirstNo.{first_no-zero}
use Rattle.tile.proofs.Laws.Accepted.{on_side}
use Rattle.sheet.specs.declared.Site.{Site}
use Rattle.sheet.specs.declared.Site.TheVariants.{Alone, OnSheet}
use Rattle.sheet.specs.Sites.{tile_side, reach, SiteYes, site_questions, seen_at, root_at, twice_limit_at, entries_at}
use Rattle.sheet.proofs.Laws.SiteEdges.{reach_power, reach-le, site_answers, site_accepted, entries_with, seen_length}
use Rattle.curves.specs.MarkedQuestions.{edges_marked, marked_questions, curve_questions}
use Rattle.curves.specs.CurveOutcomes.{curves_refusal, curves_result, curves_table}
use Rattle.curves.proofs.Theorems.CurveRefusals.{question16_means, question3_marked_means, question5_chords_means}
use Rattle.curves.specs.FaithfulCurves.{exact_area_at, FaithfulAt, FaithfulCurves}
use Rattle.curves.specs.CurveTheorem.{AcceptedMarked, roundel}

module _ (site : Site) (points : List ℤ) (counts marks : List ℕ) (placement : Placement) (already : ℕ) (table : List ℤ) where
  abbrev outline : List Question
  outline = marked_questions (reach site) points counts marks placement already

  pub marked_accepted : All Yes (curve_questions site points counts marks placement already table) → AcceptedMarked site points counts marks placement already table
  marked_accepted y =
      let about = (site_answers site table).0 (all_front Yes (site_questions site table) outline y) in
      let o = all_back Yes (site_questions site table) outline y in
      let drawn = placed placement points in
      let said = (question16_means counts marks).0 o.1.0 in
      let long = (question3_marked_means points marks).0 o.1.1.0 in
      let wide : steps_per_pixel * reach site ≤ greatest_sheet_coordinate = omega (arith, reach-le site about.0) in
      let depth = depth_of (reach site) in
      record {
        site_yes = about.0;
        yes2 = about.1;
        few_points = all_map (λ n h. h.1) counts ((question4_means counts).0 o.0);
        marks_length = said.1;
        points_length = long;
        movable = o.1.1.1.0;
        on_sheet = all_map (λ z h. (h.0, ≤ℤ_trans h.1 (pos-≤ℤ wide))) drawn ((question6_means (reach site) drawn).0 o.1.1.1.1.0);
        within = chords_closed_on depth (marked_contours counts marks drawn)
            (contours_right _ counts marks drawn said.1 (placed-length placement points ∙ long)
            (on_side (reach site) drawn (reach_power site about.0) o.1.1.1.1.0));
        few_edges = (question5_chords_means already (edges_marked points counts marks placement)).0 o.1.1.1.1.1.0;
      }

-- the first "no", at either kind of site: no two numbers are the same
pub curves_zero : (site : Site) (points : List ℤ) (counts marks : List ℕ) (placement : Placement) (already : ℕ) (table : List ℤ)
    → (first_no (curve_questions site points counts marks placement already table) ≡ 0) ↔ All Yes (curve_questions site points counts marks placement already table)
curves_zero (Alone side) points counts marks placement already table = first_no-zero (curve_questions (Alone side) points counts marks placement already table) tt
curves_zero (OnSheet place) points counts marks placement already table = first_no-zero (curve_questions (OnSheet place) points counts marks placement already table) tt

-- ---- edges at a site
wholly_at : (site : Site) (es : List Edge) → ClosedEdges es → All (EdgeOnTile (depth_of (tile_side site))) (seen_at site es) → root_at site es ≡ signed_area es
wholly_at (Alone side) es closed on = refl
wholly_at (OnSheet place) es closed on =
    root_wholly_on (depth_of place.side) (from-tile-closed (depth_of place.side) place.column place.row closed) on
    ∙ from-tile-signed (depth_of place.side) place.column place.row closed

octilinear_at : (site : Site) (es : List Edge) → All Octilinear es → All Octilinear (seen_at site es)
octilinear_at (Alone side) es h = h
octilinear_at (OnSheet place) es h = from-tile_octilinear (depth_of place.side) place.column place.row es h

area_at_lem : (site : Site) (es : List Edge) (level cx cy : ℕ)
    → (exact_area_num (depth_of (tile_side site)) (seen_at site es) level (at cx cy) ≡ exact_area_at site es level cx cy) × (denominator (seen_at site es) ≡ denominator es)
area_at_lem (Alone side) es level cx cy = (refl, refl)
area_at_lem (OnSheet place) es level cx cy = let same = from-tile_area (depth_of place.side) place.column place.row es level (at cx cy) in (same.1, same.0)

module _ (site : Site) (es : List Edge) (number : ℕ) (before : List ℤ) (closed : ClosedEdges es)
    (accept : number ≡ 0 → SiteYes site × ClosedOnTile (depth_of (reach site)) es × (length es ≤ most_edges)) where
  drawn_at : number ≡ 0 → (level : ℕ) → level ≤ depth_of (tile_side site)
      → Drawn (tile_side site) (seen_at site es) (root_at site es) (twice_limit_at site) (if_done number (entries_at site es) before) level
  drawn_at done level shallow =
      let a = accept done in
      subst (λ (t : List ℤ). Drawn (tile_side site) (seen_at site es) (root_at site es) (twice_limit_at site) t level)
      (entries_with site es ∙ sym (if_done_lem (entries_at site es) before done)) (table_drawn (site_accepted site a.0 es a.1 a.2) level shallow)

  pub edges_faithful : FaithfulAt site es number (if_done number (entries_at site es) before)
  edges_faithful = record {
    faithful = record { denominator-positive = denominator-pos (seen_at site es); counted = λ done. seen_length site es; drawn = drawn_at };
    at_place = area_at_lem site es;
    octilinear = octilinear_at site es;
    wholly_on = wholly_at site es closed;
  }

-- ---- building
module _ (site : Site) (points : List ℤ) (counts marks : List ℕ) (placement : Placement) (before : List ℤ) where
  pub curves_accepted : curves_refusal site points counts marks placement before ≡ 0 → AcceptedMarked site points counts marks placement 0 before
  curves_accepted done = marked_accepted site points counts marks placement 0 before ((curves_zero site points counts marks placement 0 before).0 done)

  pub curves_faithful : FaithfulCurves site points counts marks placement before (curves_table site points counts marks placement before)
  curves_faithful = record {
    faithful = edges_faithful site (edges_marked points counts marks placement) (curves_refusal site points counts marks placement before) before
        (chords_closed (marked_contours counts marks (placed placement points)))
        (λ done. (let a = curves_accepted done in (a.site_yes, a.within, omega (arith, a.few_edges))));
    near_curves = λ done.
        (let a = curves_accepted done in
        sides_near (marked_contours counts marks (placed placement points))
        (contours_right CoordinateOnSheet counts marks (placed placement points) a.marks_length (placed-length placement points ∙ a.points_length) a.on_sheet));
  }

pub roundel-accepted : curves_result (Alone 1) roundel (4 ∷ []) (1 ∷ 1 ∷ 1 ∷ 1 ∷ []) None (pos 0 ∷ []) ≡ record { number = 0; edges = 32 }
unfolding placed tally joined sides_from marked_contours chords_of splits_from tabulate
roundel-accepted = refl
