-- "taking out is its inverse", of contours with curved edges, on any tile, whatever it holds: where the one call is not refused, the other, at the same site and with
-- the same points, marks and placement, is not refused then, and leaves table and record as they were before both.
--
-- Main results
--   put_then-take_curve          taking out what was put in
--   take-then_put_curve          putting back what was taken out: where the record counted no more edges than the most, since else question 5 refuses it
use Rattle.std.specs.Prelude.{◌≡◌, List, [], ◌∷◌, ℕ, ◌*◌, ◌≤◌, get_or, ℤ, pos, ◌*ℤ◌}
use Rattle.std.proofs.Common.{◌∙◌, ap₂, arith, le-leb}
use Rattle.std.proofs.Math.Path.{ap}
use Rattle.std.proofs.Math.Bool.{◌&&◌}
use Rattle.std.proofs.Math.ListN.{length}
use Rattle.integers.specs.Units.{most_edges}
use Rattle.integers.proofs.Theorems.ListSum.{all_append, all_back}
use Rattle.integers.specs.ListSum.{tally}
use Rattle.integers.proofs.Theorems.Tests.{and_true_means}
use Rattle.placement.specs.declared.Placement.{Placement}
use Rattle.rasterize.specs.Added.{added}
use Rattle.rasterize.proofs.Laws.Adding.{added-length, added_undone}
use Rattle.tile.specs.Questions.{Yes, question9}
use Rattle.tile.proofs.Theorems.Refusals.{question2_means}
use Rattle.tile.proofs.Laws.IfDone.{if_done_lem}
use Rattle.sheet.specs.declared.Site.{Site}
use Rattle.sheet.specs.Sites.{tile_side, reach, site_questions, entries_at}
use Rattle.sheet.proofs.Laws.SiteEdges.{site_answers}
use Rattle.corrections.specs.declared.Change.{Change}
use Rattle.corrections.specs.declared.Change.TheVariants.{Put, Take}
use Rattle.corrections.specs.Corrections.{Tile, tile_of, sign_of, already_in, taken_out, edges_after}
use Rattle.corrections.proofs.Theorems.CorrectingRefusals.{question13_means}
use Rattle.corrections.specs.Amending.{left_by}
use Rattle.corrections.proofs.Theorems.Inverse.{few_again, counted_again, edges_again}
use Rattle.corrections.proofs.Laws.AskedContour.{opposite, sign-opposite}
use Rattle.curves.specs.MarkedQuestions.{edges_marked, marked_questions}
use Rattle.curves.proofs.Theorems.CurveRefusals.{question5_chords_means}
use Rattle.curves.specs.CurvedCorrections.{CurveCall, curve_call_of, edges_in, correct_curve_refusal, corrected_curve}
use Rattle.curves.proofs.Laws.CurvedKept.{AcceptedCurve, one_contour, curve_accepted, accepted_curve, curve_room}

module _ (change : Change) (site : Site) (points : List ℤ) (count : ℕ) (marks : List ℕ) (placement : Placement) (t : Tile)
    (done : correct_curve_refusal (curve_call_of change site points count marks placement) t ≡ 0) (room : t.edges ≤ most_edges) where
  abbrev k : CurveCall
  k = curve_call_of change site points count marks placement

  abbrev back : CurveCall
  back = curve_call_of (opposite change) site points count marks placement

  abbrev n : ℕ
  n = length (edges_in k)

  abbrev left : Tile
  left = tile_of (left_by site change (edges_in k) t.table) (edges_after change n t.edges)

  accepted : AcceptedCurve k t
  accepted = curve_accepted k t done

  left_is : corrected_curve k t ≡ left
  left_is = if_done_lem _ t done

  restored : left_by site (opposite change) (edges_in k) left.table ≡ t.table
  restored =
      let value : ℕ → ℤ = λ i. get_or (entries_at site (edges_in k)) i (pos 0) in
      ap (λ s. added left.table (λ i. s *ℤ value i)) (sign-opposite change) ∙ added_undone t.table (sign_of change) value

  out : taken_out change n ≤ t.edges
  out = (question13_means (taken_out change n) t.edges).0 accepted.yes13

  -- the questions about the contour: 2 reads the table's length alone, and 5 the record
  accepted-back : correct_curve_refusal back left ≡ 0
  unfolding tally
  accepted-back =
      let a = accepted.about in
      let about = accepted.all_yes in
      let o = all_back Yes (site_questions site t.table) (marked_questions (reach site) points (count ∷ []) marks placement (already_in change t.edges)) about in
      let nine = (and_true_means (question9 t.table).answer (question9 left.table).answer).0 accepted.yes9 in
      let few = few_again n t.edges change room (curve_room k t done) out in
      let long : length left.table ≡ tile_side site * tile_side site = added-length t.table _ ∙ (question2_means (tile_side site) t.table).0 a.yes2 in
      let same = one_contour points count marks placement (a.marks_length ∙ omega arith) a.points_length in
      accepted_curve back left
      (all_append Yes (site_questions site left.table) (marked_questions (reach site) points (count ∷ []) marks placement (already_in (opposite change) left.edges))
      ((site_answers site left.table).1 (a.site_yes, (question2_means (tile_side site) left.table).1 long)) (
        o.0,
        (
          o.1.0,
          (
            o.1.1.0,
            (
              o.1.1.1.0,
              (
                o.1.1.1.1.0,
                ((question5_chords_means (already_in (opposite change) left.edges) (edges_marked points (count ∷ []) marks placement)).1 (omega (arith, few, ap length same)), tt),
              ),
            ),
          ),
        ),
      ))
      (le-leb (taken_out (opposite change) n) left.edges (counted_again n t.edges change))
      (ap₂ ◌&&◌ nine.1 (ap (λ l. (question9 l).answer) restored ∙ nine.0))

  undone : (correct_curve_refusal back (corrected_curve k t) ≡ 0) × (corrected_curve back (corrected_curve k t) ≡ t)
  undone = (
    ap (correct_curve_refusal back) left_is ∙ accepted-back,
    ap (corrected_curve back) left_is ∙ if_done_lem _ left accepted-back ∙ ap₂ tile_of restored (edges_again n t.edges change out),
  )

module _ (site : Site) (points : List ℤ) (count : ℕ) (marks : List ℕ) (placement : Placement) (t : Tile) where
  abbrev put_in : CurveCall
  put_in = curve_call_of Put site points count marks placement

  abbrev take_out : CurveCall
  take_out = curve_call_of Take site points count marks placement

  pub put_then-take_curve : correct_curve_refusal put_in t ≡ 0
      → (correct_curve_refusal take_out (corrected_curve put_in t) ≡ 0) × (corrected_curve take_out (corrected_curve put_in t) ≡ t)
  put_then-take_curve done =
      let few = curve_room put_in t done in
      undone Put site points count marks placement t done (omega (arith, few))

  pub take-then_put_curve : t.edges ≤ most_edges → correct_curve_refusal take_out t ≡ 0
      → (correct_curve_refusal put_in (corrected_curve take_out t) ≡ 0) × (corrected_curve put_in (corrected_curve take_out t) ≡ t)
  take-then_put_curve room done = undone Take site points count marks placement t done room
