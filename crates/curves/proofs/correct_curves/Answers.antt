-- The questions about the site and the contour; the rest is done by `amend`.
use Rattle.std.proofs.Common.{◌≡◌, List, [], ◌∷◌, ℕ, ◌≤◌, length, ℤ, Err, Ok, sym, ◌∙◌, ap, ap₂, arith}
use Rattle.std.proofs.lemmas.Result.{err_from_is_err_and}
use Rattle.integers.specs.Units.{greatest_sheet_side}
use Rattle.integers.specs.ListSum.{All, tally}
use Rattle.integers.proofs.Theorems.ListSum.{all_append}
use Rattle.edge.specs.declared.Edge.{Edge}
use Rattle.placement.specs.declared.Placement.{Placement}
use Rattle.placement.specs.Placed.{placed}
use Rattle.placement.proofs.Laws.PlacedPoints.{placed-length}
use Rattle.chords.specs.Sides.{marked_contour}
use Rattle.tile.specs.declared.refusal.Refusal.{Refusal}
use Rattle.tile.specs.Answers.{number_of, Built, built_of}
use Rattle.tile.specs.Questions.{Question, Yes, first_no}
use Rattle.tile.specs.Outcomes.{if_done}
use Rattle.tile.proofs.Laws.IfDone.{if_done_lem, refused_keeps}
use Rattle.tile.proofs.Laws.Asking.{first_asked, first_passed}
use Rattle.tile.proofs.Laws.FirstNo.{first_no-zero}
use Rattle.sheet.specs.declared.Site.{Site}
use Rattle.sheet.specs.Sites.{reach, site_questions}
use Rattle.sheet.proofs.Laws.SiteEdges.{site_zero, site_answers, reach-le}
use Rattle.corrections.specs.declared.Change.{Change}
use Rattle.corrections.specs.Corrections.{Tile, tile_of, already_in, edges_after}
use Rattle.corrections.specs.Amending.{Amendable, left_by, amend_questions, amend_refusal, amended}
use Rattle.curves.specs.MarkedQuestions.{edges_marked, marked_questions}
use Rattle.curves.specs.CurveOutcomes.{marked_result}
use Rattle.curves.specs.CurveTheorem.{AcceptedMarked}
use Rattle.curves.proofs.Theorems.CurveTheorem.{marked_accepted}
use Rattle.curves.specs.CurvedCorrections.{CurveCall, curve_call_of, edges_in, curve_call_questions, correct_curve_refusal, corrected_curve}
use Rattle.curves.proofs.Laws.CurvedKept.{one_contour}
use Rattle.curves.proofs.correct_curves.Goals as goal

-- ---- the call, and the tile that it was given
module _ (site : Site) (change : Change) (points : List ℤ) (n : ℕ) (marks : List ℕ) (placement : Placement) (t : Tile) where
  abbrev call : CurveCall
  call = curve_call_of change site points n marks placement

  -- what is asked about the site, about the contour, and about the tile
  abbrev first : List Question
  first = site_questions site t.table

  abbrev second : List Question
  second = marked_questions (reach site) points (n ∷ []) marks placement (already_in change t.edges)

  abbrev about : List Question
  about = curve_call_questions call t

  abbrev es : List Edge
  es = edges_in call

  abbrev later : List Question
  later = amend_questions site change es (length es) t

  by_site : (r : Refusal) → number_of r ≡ first_no first → number_of r ≡ correct_curve_refusal call t
  by_site r e = first_asked about later r (first_asked first second r e)

  -- nothing is refused about the site
  module _ (z : 0 ≡ first_no first) {k m : ℕ} (reach-is : k ≡ reach site) (in-is : m ≡ already_in change t.edges) where
    site_yes : All Yes first
    site_yes = site_zero site t.table (sym z)

    reach_fits : k ≤ greatest_sheet_side
    reach_fits = omega (arith, reach-is, reach-le site ((site_answers site t.table).0 site_yes).0)

    answer_is : {b : Built} → b ≡ marked_result k points (n ∷ []) marks placement m → b ≡ marked_result (reach site) points (n ∷ []) marks placement (already_in change t.edges)
    answer_is e = e ∙ ap₂ (λ r i. marked_result r points (n ∷ []) marks placement i) reach-is in-is

    by_contour : (r : Refusal) → built_of (Err r) ≡ marked_result k points (n ∷ []) marks placement m → number_of r ≡ correct_curve_refusal call t
    by_contour r e = first_asked about later r (ap (λ b. b.number) (answer_is e) ∙ sym (first_passed first second site_yes))

    -- nothing is refused about the contour
    module _ {drawn_as : ℕ} (e : built_of (Ok drawn_as) ≡ marked_result k points (n ∷ []) marks placement m) where
      second-zero : first_no second ≡ 0
      second-zero = sym (ap (λ b. b.number) (answer_is e))

      all_yes : All Yes about
      all_yes = all_append Yes first second site_yes ((first_no-zero second tt).0 second-zero)

      accepted : AcceptedMarked site points (n ∷ []) marks placement (already_in change t.edges) t.table
      accepted = marked_accepted site points (n ∷ []) marks placement (already_in change t.edges) t.table all_yes

      same_edges : edges_marked points (n ∷ []) marks placement ≡ es
      unfolding tally
      same_edges = one_contour points n marks placement (accepted.marks_length ∙ omega arith) accepted.points_length

      counted : drawn_as ≡ length es
      counted = ap (λ b. b.edges) (answer_is e) ∙ if_done_lem _ 0 second-zero ∙ ap length same_edges

      passed : correct_curve_refusal call t ≡ first_no later
      passed = first_passed about later all_yes

      amendable : Amendable site change (marked_contour marks (placed placement points)) drawn_as t
      amendable =
          let a = accepted in
          record {
            site_yes = a.site_yes;
            yes2 = a.yes2;
            yes6 = ((first_no-zero second tt).0 second-zero).1.1.1.1.0;
            counted = counted;
            few = omega (arith, a.few_edges, counted, ap length same_edges);
          }

      number_is : amend_refusal site change es drawn_as t ≡ correct_curve_refusal call t
      number_is = ap (λ i. amend_refusal site change es i t) counted ∙ sym passed

      left_is : amended site change es drawn_as t ≡ corrected_curve call t
      left_is =
          ap (λ i. amended site change es i t) counted
          ∙ ap (λ i. if_done i (tile_of (left_by site change es t.table) (edges_after change (length es) t.edges)) t) (sym passed)

pub returns-in_err-site_refusal-clause-value : goal.returns-in_err-site_refusal-clause-value
returns-in_err-site_refusal-clause-value c =
    let a = c.args in
    let t = tile_of a.table.now a.edges.now in
    let p = err_from_is_err_and c.from_residual.result c.from_residual.ensures.1 in
    rw (p.1, p.2) (by_site a.site a.change a.points.now a.count a.marks.now a.placement t _ c.in_err-site_refusal.ensures.value)

pub returns-in_err-site_refusal-clause-edges_after : goal.returns-in_err-site_refusal-clause-edges_after
returns-in_err-site_refusal-clause-edges_after c =
    let a = c.args in
    let t = tile_of a.table.now a.edges.now in
    refused_keeps _ t _ (by_site a.site a.change a.points.now a.count a.marks.now a.placement t _ c.in_err-site_refusal.ensures.value)

pub marked_refusal-requires : goal.marked_refusal-requires
marked_refusal-requires c =
    let a = c.args in
    let t = tile_of a.table.now a.edges.now in
    reach_fits a.site a.change a.points.now a.count a.marks.now a.placement t c.in_ok-site_refusal.ensures.value c.reach_of-reach.ensures c.already_in-already.ensures

pub returns-in_err-drawn_as-clause-value : goal.returns-in_err-drawn_as-clause-value
returns-in_err-drawn_as-clause-value c =
    let a = c.args in
    let t = tile_of a.table.now a.edges.now in
    let p = err_from_is_err_and c.from_residual-in_err-drawn_as.result c.from_residual-in_err-drawn_as.ensures.1 in
    rw (p.1, p.2)
    (by_contour a.site a.change a.points.now a.count a.marks.now a.placement t c.in_ok-site_refusal.ensures.value c.reach_of-reach.ensures c.already_in-already.ensures _
    c.in_err-drawn_as.ensures.value)

pub returns-in_err-drawn_as-clause-edges_after : goal.returns-in_err-drawn_as-clause-edges_after
returns-in_err-drawn_as-clause-edges_after c =
    let a = c.args in
    let t = tile_of a.table.now a.edges.now in
    refused_keeps _ t _
    (by_contour a.site a.change a.points.now a.count a.marks.now a.placement t c.in_ok-site_refusal.ensures.value c.reach_of-reach.ensures c.already_in-already.ensures _
    c.in_err-drawn_as.ensures.value)

pub invariant_of-placed : goal.invariant_of-placed
invariant_of-placed c =
    let a = c.args in
    let t = tile_of a.table.now a.edges.now in
    record {
      placeable =
          (accepted a.site a.change a.points.now a.count a.marks.now a.placement t c.in_ok-site_refusal.ensures.value c.reach_of-reach.ensures
          c.already_in-already.ensures c.in_ok-drawn_as.ensures.value).movable;
    }

pub invariant_of-contour : goal.invariant_of-contour
invariant_of-contour c =
    let a = c.args in
    let t = tile_of a.table.now a.edges.now in
    record {
      as_many =
          placed-length a.placement a.points.now
          ∙ (accepted a.site a.change a.points.now a.count a.marks.now a.placement t c.in_ok-site_refusal.ensures.value c.reach_of-reach.ensures
          c.already_in-already.ensures c.in_ok-drawn_as.ensures.value).points_length;
    }

pub amend-requires : goal.amend-requires
amend-requires c =
    let a = c.args in
    let t = tile_of a.table.now a.edges.now in
    amendable a.site a.change a.points.now a.count a.marks.now a.placement t c.in_ok-site_refusal.ensures.value c.reach_of-reach.ensures c.already_in-already.ensures
    c.in_ok-drawn_as.ensures.value

pub returns-clause-value : goal.returns-clause-value
returns-clause-value c =
    let a = c.args in
    let t = tile_of a.table.now a.edges.now in
    c.amend.ensures.value
    ∙ number_is a.site a.change a.points.now a.count a.marks.now a.placement t c.in_ok-site_refusal.ensures.value c.reach_of-reach.ensures c.already_in-already.ensures
    c.in_ok-drawn_as.ensures.value

pub returns-clause-edges_after : goal.returns-clause-edges_after
returns-clause-edges_after c =
    let a = c.args in
    let t = tile_of a.table.now a.edges.now in
    c.amend.ensures.edges_after
    ∙ left_is a.site a.change a.points.now a.count a.marks.now a.placement t c.in_ok-site_refusal.ensures.value c.reach_of-reach.ensures c.already_in-already.ensures
    c.in_ok-drawn_as.ensures.value
