-- What the answers of a call on a contour with marks say; and such a call, not refused, takes a tile that holds contours to one that holds one more, or one fewer.
--
-- Main results
--   one_contour                    the outline of a single contour that is accepted has the contour's edges
--   AcceptedCurve, curve_accepted  the answers of a call that is not refused
--   curve_room, contour_near       there is room for its edges; and its chords are near their curves
--   corrected_curve_is             the tile that it leaves
--   holds_put_curve,
--   holds_taken_curve              what that holds
--   curve_same_side                the call has the tile's side
use Rattle.std.specs.Prelude.{◌≡◌, true, ◌&&◌, List, [], ◌∷◌, ◌++◌, ◌↔◌, ℕ, ◌+◌, ◌≤◌, eqb, length, take, ℤ}
use Rattle.std.proofs.Common.{sym, ◌∙◌, ap, ap₂, subst, append-nil, le_of_eq, take_all}
use native.Mathlib.Omega.{arith}
use Rattle.integers.specs.Units.{most_edges}
use Rattle.integers.specs.ListSum.{All, tally, joined}
use Rattle.integers.proofs.Theorems.ListSum.{all_map, all_front, all_back, all_append}
use Rattle.integers.specs.Tests.{every}
use Rattle.integers.proofs.Theorems.Tests.{and_true_means}
use Rattle.placement.specs.declared.Placement.{Placement}
use Rattle.placement.specs.Placed.{placed}
use Rattle.placement.proofs.Laws.PlacedPoints.{placed-length}
use Rattle.accuracy.specs.Outline.{edge_count}
use Rattle.curve.specs.Curve.{OnSheet as CoordinateOnSheet}
use Rattle.chords.specs.Sides.{numbers, MarkedContour, marked_contour, sides_of, marked_contours}
use Rattle.chords.specs.NearCurves.{NearChords}
use Rattle.chords.proofs.Theorems.NearCurves.{side_near}
use Rattle.chords.proofs.Laws.SidesWithin.{contour_within}
use Rattle.chords.specs.Chords.{contour_chords}
use Rattle.tile.specs.Questions.{Question, Yes, question4}
use Rattle.tile.proofs.Theorems.Refusals.{question2_means}
use Rattle.tile.proofs.Laws.IfDone.{if_done_lem}
use Rattle.tile.proofs.Laws.FirstNo.{first_no-zero}
use Rattle.tile.proofs.Laws.Sides.{square_injective}
use Rattle.sheet.specs.declared.Site.{Site}
use Rattle.sheet.specs.declared.Site.TheVariants.{Alone, OnSheet}
use Rattle.sheet.specs.Sites.{tile_side, reach, site_questions}
use Rattle.corrections.specs.declared.Change.{Change}
use Rattle.corrections.specs.declared.Change.TheVariants.{Put, Take}
use Rattle.corrections.specs.Corrections.{Tile, tile_of, question13, question9_twice, already_in, taken_out, edges_after}
use Rattle.corrections.specs.Amending.{left_by, amend_questions}
use Rattle.curves.specs.MarkedQuestions.{is_mark, question16, edges_marked, marked_questions}
use Rattle.curves.proofs.Theorems.CurveRefusals.{question3_marked_means}
use Rattle.curves.specs.CurveTheorem.{AcceptedMarked}
use Rattle.curves.proofs.Theorems.CurveTheorem.{marked_accepted}
use Rattle.curves.specs.CurvedCorrections.{CurveCall, curve_call_of, contour_in, edges_in, curve_call_questions, correct_curve_refusal, corrected_curve}
use Rattle.curves.specs.CurvedHolding.{is_shaped, HoldsCurves}
use Rattle.curves.proofs.Laws.Written.{is_marked_contour}
use Rattle.curves.proofs.Laws.CurvedSums.{holds_of_curve_sums, curve_sums_of_holds, curve_sums_length, curve_sums_put, curve_sums_taken}

-- ---- a single contour
pub one_contour : (points : List ℤ) (count : ℕ) (marks : List ℕ) (placement : Placement) → length marks ≡ count → length points ≡ numbers marks
    → edges_marked points (count ∷ []) marks placement ≡ contour_chords (marked_contour marks (placed placement points))
unfolding joined marked_contours
one_contour points count marks placement e long =
    let drawn = placed placement points in
    let own : take count marks ≡ marks = take_all count marks (le_of_eq e) in
    let all : take (numbers marks) drawn ≡ drawn = take_all (numbers marks) drawn (le_of_eq (placed-length placement points ∙ long)) in
    append-nil (contour_chords (marked_contour (take count marks) (take (numbers (take count marks)) drawn)))
    ∙ ap (λ l. contour_chords (marked_contour l (take (numbers l) drawn))) own
    ∙ ap (λ z. contour_chords (marked_contour marks z)) all

-- ---- the answers
pub record AcceptedCurve (k : CurveCall) (t : Tile) : Type 0 where
  pub all_yes : All Yes (curve_call_questions k t)
  pub about : AcceptedMarked k.site k.points (k.count ∷ []) k.marks k.placement (already_in k.change t.edges) t.table
  pub yes13 : Yes (question13 (taken_out k.change (length (edges_in k))) t.edges)
  pub yes9 : Yes (question9_twice t.table (left_by k.site k.change (edges_in k) t.table))

abbrev later : CurveCall → Tile → List Question
later k t = amend_questions k.site k.change (edges_in k) (length (edges_in k)) t

zero_at : (change : Change) (site : Site) (points : List ℤ) (count : ℕ) (marks : List ℕ) (placement : Placement) (t : Tile)
    → (correct_curve_refusal (curve_call_of change site points count marks placement) t ≡ 0)
    ↔ All Yes (curve_call_questions (curve_call_of change site points count marks placement) t ++ later (curve_call_of change site points count marks placement) t)
zero_at change (Alone side) points count marks placement t =
    let k = curve_call_of change (Alone side) points count marks placement in first_no-zero (curve_call_questions k t ++ later k t) tt
zero_at change (OnSheet place) points count marks placement t =
    let k = curve_call_of change (OnSheet place) points count marks placement in first_no-zero (curve_call_questions k t ++ later k t) tt

module _ (k : CurveCall) (t : Tile) where
  pub curve_accepted : correct_curve_refusal k t ≡ 0 → AcceptedCurve k t
  curve_accepted done =
      let y = (zero_at k.change k.site k.points k.count k.marks k.placement t).0 done in
      let first = all_front Yes (curve_call_questions k t) (later k t) y in
      let rest = all_back Yes (curve_call_questions k t) (later k t) y in
      record {
        all_yes = first;
        about = marked_accepted k.site k.points (k.count ∷ []) k.marks k.placement (already_in k.change t.edges) t.table first;
        yes13 = rest.0;
        yes9 = rest.1.0;
      }

  pub accepted_curve : All Yes (curve_call_questions k t) → Yes (question13 (taken_out k.change (length (edges_in k))) t.edges)
      → Yes (question9_twice t.table (left_by k.site k.change (edges_in k) t.table)) → correct_curve_refusal k t ≡ 0
  accepted_curve about yes13 yes9 =
      (zero_at k.change k.site k.points k.count k.marks k.placement t).1 (all_append Yes (curve_call_questions k t) (later k t) about (yes13, (yes9, tt)))

  module _ (done : correct_curve_refusal k t ≡ 0) where
    accepted : AcceptedCurve k t
    accepted = curve_accepted done

    a : AcceptedMarked k.site k.points (k.count ∷ []) k.marks k.placement (already_in k.change t.edges) t.table
    a = accepted.about

    count_is : length k.marks ≡ k.count
    unfolding tally
    count_is = a.marks_length ∙ omega arith

    same_edges : edges_marked k.points (k.count ∷ []) k.marks k.placement ≡ edges_in k
    same_edges = one_contour k.points k.count k.marks k.placement count_is a.points_length

    pub curve_room : already_in k.change t.edges + length (edges_in k) ≤ most_edges
    curve_room = subst (λ es. already_in k.change t.edges + length es ≤ most_edges) same_edges a.few_edges

    shape : is_shaped (contour_in k) ≡ true
    shape = (question3_marked_means (contour_in k).coordinates k.marks).1 (placed-length k.placement k.points ∙ a.points_length)

    -- questions 4, 16 and 6
    test : is_marked_contour (reach k.site) (contour_in k) ≡ true
    test =
        let o = all_back Yes (site_questions k.site t.table)
        (marked_questions (reach k.site) k.points (k.count ∷ []) k.marks k.placement (already_in k.change t.edges)) accepted.all_yes in
        ap₂ ◌&&◌ (ap (λ n. (question4 (n ∷ [])).answer) count_is ∙ o.0) (ap₂ ◌&&◌ (marks_yes o.1.0) o.1.1.1.1.0)
      where
        marks_yes : Yes (question16 (k.count ∷ []) k.marks) → every is_mark k.marks ≡ true
        marks_yes e = ((and_true_means (every is_mark k.marks) (eqb (length k.marks) (edge_count (k.count ∷ [])))).0 e).0

    pub contour_near : All NearChords (sides_of (contour_in k))
    contour_near = all_map side_near (sides_of (contour_in k)) (contour_within CoordinateOnSheet (contour_in k) (placed-length k.placement k.points ∙ a.points_length, a.on_sheet))

    pub corrected_curve_is : (c : Change) → k.change ≡ c
        → corrected_curve k t ≡ tile_of (left_by k.site c (edges_in k) t.table) (edges_after c (length (edges_in k)) t.edges)
    corrected_curve_is c e =
        if_done_lem _ t done ∙ ap (λ c. tile_of (left_by k.site c (edges_in k) t.table) (edges_after c (length (edges_in k)) t.edges)) e

    pub holds_put_curve : k.change ≡ Put → {cs : List MarkedContour} → HoldsCurves k.site cs t → HoldsCurves k.site (contour_in k ∷ cs) (corrected_curve k t)
    holds_put_curve e h =
        let room = subst (λ c. already_in c t.edges + length (edges_in k) ≤ most_edges) e curve_room in
        holds_of_curve_sums (curve_sums_put (contour_in k) shape test room (corrected_curve_is Put e) (curve_sums_of_holds h))

    pub holds_taken_curve : k.change ≡ Take → {others : List MarkedContour} → HoldsCurves k.site (contour_in k ∷ others) t
        → HoldsCurves k.site others (corrected_curve k t)
    holds_taken_curve e h = holds_of_curve_sums (curve_sums_taken (contour_in k) (corrected_curve_is Take e) (curve_sums_of_holds h))

    -- A call with another side is refused: the table's length tells.
    pub curve_same_side : {site : Site} {cs : List MarkedContour} → HoldsCurves site cs t → tile_side k.site ≡ tile_side site
    curve_same_side {site} h =
        square_injective (tile_side k.site) (tile_side site)
        (sym ((question2_means (tile_side k.site) t.table).0 a.yes2) ∙ curve_sums_length (curve_sums_of_holds h))
