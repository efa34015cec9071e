-- A refused outline leaves everything as it was; an accepted one goes into a cleared table.
use Rattle.std.proofs.Common.{◌≡◌, leb, List, [], ◌∷◌, ◌++◌, ℕ, ◌+◌, ℤ, pos, ◌*ℤ◌, sym, ◌∙◌, ap, arith}
use mathlib.Core.Path.{subst⁻¹}
use Rattle.std.proofs.lemmas.Result.{err_from_is_err_and}
use Rattle.integers.specs.ListSum.{All}
use Rattle.placement.specs.declared.Placement.{Placement}
use Rattle.placement.specs.Placed.{placed}
use Rattle.placement.proofs.Laws.PlacedPoints.{placed-length}
use Rattle.accuracy.specs.Outline.{edge_count}
use Rattle.rasterize.specs.declared.View.{View}
use Rattle.rasterize.specs.Added.{added, entry_of}
use Rattle.rasterize.specs.Views.{view_table, InView}
use Rattle.integers.specs.Units.{most_edges}
use Rattle.tile.specs.declared.refusal.Refusal.{Refusal}
use Rattle.tile.specs.Answers.{number_of}
use Rattle.tile.specs.Questions.{Question, first_no, depth_of, question3, question4, question6, question12, outline_questions}
use Rattle.tile.specs.Outcomes.{edges_of}
use Rattle.tile.proofs.Laws.IfDone.{if_done_lem, refused_keeps, built_refused, built_done}
use Rattle.tile.proofs.Laws.Asking.{first_asked, rest_asked}
use Rattle.tile.proofs.Laws.Building.{cleared_fits, cleared_built}
use Rattle.tile.proofs.Laws.CountsSum.{capped_within}
use Rattle.sheet.specs.declared.SheetTile.{SheetTile}
use Rattle.sheet.specs.declared.Site.TheVariants.{OnSheet}
use Rattle.sheet.specs.SheetQuestions.{place_questions}
use Rattle.sheet.specs.SheetOutcomes.{sheet_refusal, sheet_table}
use Rattle.sheet.specs.FaithfulOnSheet.{FaithfulOnSheet}
use Rattle.sheet.specs.SheetTheorem.{AcceptedOnSheet}
use Rattle.sheet.specs.Sites.{view_at}
use Rattle.sheet.proofs.Theorems.SheetTheorem.{sheet_accepted, sheet_faithful}
use Rattle.sheet.proofs.Laws.SiteEdges.{site_side, site_in_view, site_entries}
use Rattle.sheet.proofs.build_on_sheet.Goals as goal

module _ (place : SheetTile) (points : List ℤ) (counts : List ℕ) (placement : Placement) (table : List ℤ) where
  abbrev number : ℕ
  number = sheet_refusal place points counts placement table

  -- the questions in the order in which they are asked: about the place, and about the outline, no edge being in already
  abbrev first : List Question
  first = place_questions place table

  abbrev rest : List Question
  rest = outline_questions place.sheet points counts placement 0

  asked_is : first_no (first ++ rest) ≡ number
  asked_is =
      let none : 0 + edge_count counts ≡ edge_count counts = omega arith in
      ap (λ n. first_no (first ++ (question4 counts ∷ record { number = 5; answer = leb n most_edges } ∷ question3 points counts ∷ question12 placement points
      ∷ question6 place.sheet (placed placement points) ∷ []))) none

  by_place : (r : Refusal) → number_of r ≡ first_no first → number_of r ≡ number
  by_place r e = first_asked first rest r e ∙ asked_is

  by_outline : {n : ℕ} → 0 ≡ first_no first → n ≡ first_no rest → n ≡ number
  by_outline z e = rest_asked first rest tt z e ∙ asked_is

  -- whatever the table is afterwards, if it is what building is to leave it is faithful to the outline
  is_faithful : {after : List ℤ} → after ≡ sheet_table place points counts placement table → FaithfulOnSheet place points counts placement table after
  is_faithful e = subst⁻¹ (FaithfulOnSheet place points counts placement table) e (sheet_faithful place points counts placement table)

pub returns-in_err-place_refusal-clause-value : goal.returns-in_err-place_refusal-clause-value
returns-in_err-place_refusal-clause-value c =
    let a = c.args in
    let e = by_place a.place a.points.now a.counts.now a.placement a.table.now _ c.in_err-place_refusal.ensures in
    let p = err_from_is_err_and c.from_residual.result c.from_residual.ensures.1 in
    rw (p.1, p.2) (built_refused (edge_count a.counts.now) _ e)

pub returns-in_err-place_refusal-clause-table_after : goal.returns-in_err-place_refusal-clause-table_after
returns-in_err-place_refusal-clause-table_after c =
    let a = c.args in refused_keeps _ a.table.now _ (by_place a.place a.points.now a.counts.now a.placement a.table.now _ c.in_err-place_refusal.ensures)

pub returns-in_err-place_refusal-clause-faithful_on_sheet : goal.returns-in_err-place_refusal-clause-faithful_on_sheet
returns-in_err-place_refusal-clause-faithful_on_sheet c =
    let a = c.args in is_faithful a.place a.points.now a.counts.now a.placement a.table.now (returns-in_err-place_refusal-clause-table_after c)

pub returns-in_err-outline_refusal-clause-value : goal.returns-in_err-outline_refusal-clause-value
returns-in_err-outline_refusal-clause-value c =
    let a = c.args in
    let e = by_outline a.place a.points.now a.counts.now a.placement a.table.now c.in_ok-place_refusal.ensures c.in_err-outline_refusal.ensures.value in
    let p = err_from_is_err_and c.from_residual-in_err-outline_refusal.result c.from_residual-in_err-outline_refusal.ensures.1 in
    rw (p.1, p.2) (built_refused (edge_count a.counts.now) _ e)

pub returns-in_err-outline_refusal-clause-table_after : goal.returns-in_err-outline_refusal-clause-table_after
returns-in_err-outline_refusal-clause-table_after c =
    let a = c.args in
    refused_keeps _ a.table.now _
    (by_outline a.place a.points.now a.counts.now a.placement a.table.now c.in_ok-place_refusal.ensures c.in_err-outline_refusal.ensures.value)

pub returns-in_err-outline_refusal-clause-faithful_on_sheet : goal.returns-in_err-outline_refusal-clause-faithful_on_sheet
returns-in_err-outline_refusal-clause-faithful_on_sheet c =
    let a = c.args in is_faithful a.place a.points.now a.counts.now a.placement a.table.now (returns-in_err-outline_refusal-clause-table_after c)

-- ---- none is refused
module _ (place : SheetTile) (points : List ℤ) (counts : List ℕ) (placement : Placement) (table : List ℤ) (z : 0 ≡ first_no (place_questions place table))
    (e : 0 ≡ first_no (outline_questions place.sheet points counts placement 0)) where
  done : number place points counts placement table ≡ 0
  done = sym (by_outline place points counts placement table z e)

  accepted : AcceptedOnSheet place points counts placement table
  accepted = sheet_accepted place points counts placement table done

pub view_of-requires : goal.view_of-requires
view_of-requires c =
    let a = c.args in (accepted a.place a.points.now a.counts.now a.placement a.table.now c.in_ok-place_refusal.ensures c.in_ok-outline_refusal.ensures.value).site

pub invariant_of-placed : goal.invariant_of-placed
invariant_of-placed c =
    let s = c.args in
    let a = accepted s.place s.points.now s.counts.now s.placement s.table.now c.in_ok-place_refusal.ensures c.in_ok-outline_refusal.ensures.value in
    record { placeable = a.movable }

pub add_outline-requires : goal.add_outline-requires
add_outline-requires c =
    let s = c.args in
    let a = accepted s.place s.points.now s.counts.now s.placement s.table.now c.in_ok-place_refusal.ensures c.in_ok-outline_refusal.ensures.value in
    let es = edges_of (placed s.placement s.points.now) s.counts.now in
    let d = c.depth_of.ensures in (
      cleared_fits s.place.side s.table.now (site_side (OnSheet s.place) a.site) a.table_length_lem c.clear.ensures d (edge_count s.counts.now) a.few_edges,
      omega (arith, a.points_length, placed-length s.placement s.points.now),
      subst⁻¹ (λ k. All (InView c.view_of.result k) es) d
          (subst⁻¹ (λ w. All (InView w (depth_of s.place.side)) es) c.view_of.ensures (site_in_view (OnSheet s.place) a.site es a.on_sheet.on_tile)),
    )

pub returns-clause-table_after : goal.returns-clause-table_after
returns-clause-table_after c =
    let s = c.args in
    let z = c.in_ok-place_refusal.ensures in
    let e = c.in_ok-outline_refusal.ensures.value in
    let a = accepted s.place s.points.now s.counts.now s.placement s.table.now z e in
    let es = edges_of (placed s.placement s.points.now) s.counts.now in
    let k = c.depth_of.result in
    cleared_built s.place.side s.table.now (site_side (OnSheet s.place) a.site) a.table_length_lem c.clear.ensures c.depth_of.ensures (view_at (OnSheet s.place)) es
    (c.add_outline.ensures ∙ ap (λ (w : View). added c.clear.new.table (λ i. pos 1 *ℤ entry_of k (view_table w k es) i)) c.view_of.ensures)
    ∙ site_entries (OnSheet s.place) es
    ∙ sym (if_done_lem _ s.table.now (done s.place s.points.now s.counts.now s.placement s.table.now z e))

pub returns-clause-faithful_on_sheet : goal.returns-clause-faithful_on_sheet
returns-clause-faithful_on_sheet c =
    let a = c.args in is_faithful a.place a.points.now a.counts.now a.placement a.table.now (returns-clause-table_after c)

pub returns-clause-value : goal.returns-clause-value
returns-clause-value c =
    let s = c.args in
    let z = c.in_ok-place_refusal.ensures in
    let e = c.in_ok-outline_refusal.ensures.value in
    let a = accepted s.place s.points.now s.counts.now s.placement s.table.now z e in
    built_done (edge_count s.counts.now) (done s.place s.points.now s.counts.now s.placement s.table.now z e) _
    (c.edges_of.ensures.value ∙ capped_within s.counts.now a.few_edges)
