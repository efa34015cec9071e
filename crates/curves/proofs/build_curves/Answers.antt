-- A refused outline leaves everything as it was; an accepted one goes into a cleared table.
use Rattle.std.proofs.Common.{◌≡◌, List, ℕ, ◌*◌, ◌≤◌, length, replicate, ℤ, pos, Err, Ok, sym, ◌∙◌, ap, arith}
use mathlib.Core.Path.{subst⁻¹}
use Rattle.std.proofs.lemmas.Result.{err_from_is_err_and}
use Rattle.integers.specs.Units.{greatest_sheet_side}
use Rattle.integers.specs.ListSum.{All}
use Rattle.edge.specs.declared.Edge.{Edge}
use Rattle.placement.specs.declared.Placement.{Placement}
use Rattle.placement.proofs.Laws.PlacedPoints.{placed-length}
use Rattle.rasterize.specs.declared.View.{View}
use Rattle.rasterize.specs.Added.{added}
use Rattle.rasterize.specs.Ready.{Fits}
use Rattle.rasterize.specs.Views.{InView}
use Rattle.rasterize.specs.Laws.Sums.{edges_part}
use Rattle.tile.specs.declared.refusal.Refusal.{Refusal}
use Rattle.tile.specs.Answers.{number_of, Built, built_of}
use Rattle.tile.specs.Questions.{Question, Yes, depth_of, first_no}
use Rattle.tile.specs.Outcomes.{if_done}
use Rattle.tile.proofs.Theorems.Refusals.{question2_means}
use Rattle.tile.proofs.Laws.IfDone.{if_done_lem, refused_keeps, built_refused}
use Rattle.tile.proofs.Laws.Asking.{first_asked, first_passed}
use Rattle.tile.proofs.Laws.Building.{cleared_fits, cleared_built}
use Rattle.sheet.specs.declared.Site.{Site}
use Rattle.sheet.specs.Sites.{tile_side, reach, site_questions, view_at}
use Rattle.sheet.proofs.Laws.SiteEdges.{site_side, site_zero, site_answers, reach-le, site_in_view, site_entries}
use Rattle.curves.specs.MarkedQuestions.{edges_marked, marked_questions}
use Rattle.curves.specs.CurveOutcomes.{marked_result, curves_refusal, curves_result, curves_table}
use Rattle.curves.specs.FaithfulCurves.{FaithfulCurves}
use Rattle.curves.specs.CurveTheorem.{AcceptedMarked}
use Rattle.curves.proofs.Theorems.CurveTheorem.{curves_accepted, curves_faithful}
use Rattle.curves.proofs.build_curves.Goals as goal

module _ (site : Site) (points : List ℤ) (counts marks : List ℕ) (placement : Placement) (table : List ℤ) where
  -- the questions in the order in which they are asked: about the site, and about the outline, no edge being in already
  abbrev first : List Question
  first = site_questions site table

  abbrev rest : List Question
  rest = marked_questions (reach site) points counts marks placement 0

  abbrev number : ℕ
  number = curves_refusal site points counts marks placement table

  abbrev es : List Edge
  es = edges_marked points counts marks placement

  abbrev outcome : List ℤ
  outcome = curves_table site points counts marks placement table

  -- whatever the table is afterwards, if it is what building is to leave it is faithful to the outline
  is_faithful : {after : List ℤ} → after ≡ outcome → FaithfulCurves site points counts marks placement table after
  is_faithful e = subst⁻¹ (FaithfulCurves site points counts marks placement table) e (curves_faithful site points counts marks placement table)

  by_site : (r : Refusal) → number_of r ≡ first_no first → number_of r ≡ number
  by_site r e = first_asked first rest r e

  -- nothing is refused about the site
  module _ (z : 0 ≡ first_no first) {k : ℕ} (reach-is : k ≡ reach site) where
    site_yes : All Yes first
    site_yes = site_zero site table (sym z)

    reach_fits : k ≤ greatest_sheet_side
    reach_fits = omega (arith, reach-is, reach-le site ((site_answers site table).0 site_yes).0)

    answer_is : {b : Built} → b ≡ marked_result k points counts marks placement 0 → b ≡ curves_result site points counts marks placement table
    answer_is e =
        e ∙ ap (λ r. marked_result r points counts marks placement 0) reach-is
        ∙ ap (λ n. record { number = n; edges = if_done n (length es) 0 }) (sym (first_passed first rest site_yes))

    by_outline : (r : Refusal) → built_of (Err r) ≡ marked_result k points counts marks placement 0 → number_of r ≡ number
    by_outline r e = ap (λ b. b.number) (answer_is e)

    -- none: the outline goes into a cleared table
    module _ {drawn_as : ℕ} (e : built_of (Ok drawn_as) ≡ marked_result k points counts marks placement 0) where
      done : number ≡ 0
      done = sym (ap (λ b. b.number) (answer_is e))

      accepted : AcceptedMarked site points counts marks placement 0 table
      accepted = curves_accepted site points counts marks placement table done

      long : length table ≡ tile_side site * tile_side site
      long = (question2_means (tile_side site) table).0 accepted.yes2

      -- the tile's depth and view
      module _ {cleared : List ℤ} {side depth : ℕ} {v : View} (is-cleared : cleared ≡ replicate (length table) (pos 0)) (side-is : side ≡ tile_side site)
          (depth-is : depth ≡ depth_of side) (view-is : v ≡ view_at site) where
        depth_at : depth ≡ depth_of (tile_side site)
        depth_at = depth-is ∙ ap depth_of side-is

        room : Fits cleared depth (length es)
        room = cleared_fits (tile_side site) table (site_side site accepted.site_yes) long is-cleared depth_at (length es) (omega (arith, accepted.few_edges))

        seen : All (InView v depth) es
        seen =
            subst⁻¹ (λ k. All (InView v k) es) depth_at
            (subst⁻¹ (λ w. All (InView w (depth_of (tile_side site))) es) view-is (site_in_view site accepted.site_yes es accepted.within.on_tile))

        left_there : {after : List ℤ} → after ≡ added cleared (edges_part v depth (pos 1) es) → after ≡ outcome
        left_there e =
            cleared_built (tile_side site) table (site_side site accepted.site_yes) long is-cleared depth_at (view_at site) es
            (e ∙ ap (λ (w : View). added cleared (edges_part w depth (pos 1) es)) view-is)
            ∙ site_entries site es
            ∙ sym (if_done_lem _ table done)

pub returns-in_err-site_refusal-clause-value : goal.returns-in_err-site_refusal-clause-value
returns-in_err-site_refusal-clause-value c =
    let a = c.args in
    let e = by_site a.site a.points.now a.counts.now a.marks.now a.placement a.table.now _ c.in_err-site_refusal.ensures.value in
    let p = err_from_is_err_and c.from_residual.result c.from_residual.ensures.1 in
    rw (p.1, p.2) (built_refused (length (es a.site a.points.now a.counts.now a.marks.now a.placement a.table.now)) _ e)

pub returns-in_err-site_refusal-clause-table_after : goal.returns-in_err-site_refusal-clause-table_after
returns-in_err-site_refusal-clause-table_after c =
    let a = c.args in
    refused_keeps _ a.table.now _ (by_site a.site a.points.now a.counts.now a.marks.now a.placement a.table.now _ c.in_err-site_refusal.ensures.value)

pub returns-in_err-site_refusal-clause-faithful_curves : goal.returns-in_err-site_refusal-clause-faithful_curves
returns-in_err-site_refusal-clause-faithful_curves c =
    let a = c.args in
    is_faithful a.site a.points.now a.counts.now a.marks.now a.placement a.table.now (returns-in_err-site_refusal-clause-table_after c)

pub marked_refusal-requires : goal.marked_refusal-requires
marked_refusal-requires c =
    let a = c.args in
    reach_fits a.site a.points.now a.counts.now a.marks.now a.placement a.table.now c.in_ok-site_refusal.ensures.value c.reach_of-reach.ensures

pub returns-in_err-edges-clause-value : goal.returns-in_err-edges-clause-value
returns-in_err-edges-clause-value c =
    let a = c.args in
    let p = err_from_is_err_and c.from_residual-in_err-edges.result c.from_residual-in_err-edges.ensures.1 in
    rw (p.1, p.2)
    (answer_is a.site a.points.now a.counts.now a.marks.now a.placement a.table.now c.in_ok-site_refusal.ensures.value c.reach_of-reach.ensures
    c.in_err-edges.ensures.value)

pub returns-in_err-edges-clause-table_after : goal.returns-in_err-edges-clause-table_after
returns-in_err-edges-clause-table_after c =
    let a = c.args in
    refused_keeps _ a.table.now _
    (by_outline a.site a.points.now a.counts.now a.marks.now a.placement a.table.now c.in_ok-site_refusal.ensures.value c.reach_of-reach.ensures _
    c.in_err-edges.ensures.value)

pub returns-in_err-edges-clause-faithful_curves : goal.returns-in_err-edges-clause-faithful_curves
returns-in_err-edges-clause-faithful_curves c =
    let a = c.args in is_faithful a.site a.points.now a.counts.now a.marks.now a.placement a.table.now (returns-in_err-edges-clause-table_after c)

pub view_of-requires : goal.view_of-requires
view_of-requires c =
    let a = c.args in
    (accepted a.site a.points.now a.counts.now a.marks.now a.placement a.table.now c.in_ok-site_refusal.ensures.value c.reach_of-reach.ensures
    c.in_ok-edges.ensures.value).site_yes

pub invariant_of-placed : goal.invariant_of-placed
invariant_of-placed c =
    let a = c.args in
    record {
      placeable =
          (accepted a.site a.points.now a.counts.now a.marks.now a.placement a.table.now c.in_ok-site_refusal.ensures.value c.reach_of-reach.ensures
          c.in_ok-edges.ensures.value).movable;
    }

pub invariant_of-outline : goal.invariant_of-outline
invariant_of-outline c =
    let a = c.args in
    record {
      as_many =
          placed-length a.placement a.points.now
          ∙ (accepted a.site a.points.now a.counts.now a.marks.now a.placement a.table.now c.in_ok-site_refusal.ensures.value c.reach_of-reach.ensures
          c.in_ok-edges.ensures.value).points_length;
    }

pub add_outline-requires : goal.add_outline-requires
add_outline-requires c =
    let a = c.args in
    let z = c.in_ok-site_refusal.ensures.value in
    let e = c.in_ok-edges.ensures.value in
    let y = accepted a.site a.points.now a.counts.now a.marks.now a.placement a.table.now z c.reach_of-reach.ensures e in (
      room a.site a.points.now a.counts.now a.marks.now a.placement a.table.now z c.reach_of-reach.ensures e c.clear.ensures c.tile_side.ensures c.depth_of.ensures
          c.view_of.ensures,
      seen a.site a.points.now a.counts.now a.marks.now a.placement a.table.now z c.reach_of-reach.ensures e c.clear.ensures c.tile_side.ensures c.depth_of.ensures
          c.view_of.ensures,
      y.marks_length,
      y.on_sheet,
    )

pub returns-clause-value : goal.returns-clause-value
returns-clause-value c =
    let a = c.args in
    answer_is a.site a.points.now a.counts.now a.marks.now a.placement a.table.now c.in_ok-site_refusal.ensures.value c.reach_of-reach.ensures
    c.in_ok-edges.ensures.value

pub returns-clause-table_after : goal.returns-clause-table_after
returns-clause-table_after c =
    let a = c.args in
    left_there a.site a.points.now a.counts.now a.marks.now a.placement a.table.now c.in_ok-site_refusal.ensures.value c.reach_of-reach.ensures
    c.in_ok-edges.ensures.value c.clear.ensures c.tile_side.ensures c.depth_of.ensures c.view_of.ensures c.add_outline.ensures

pub returns-clause-faithful_curves : goal.returns-clause-faithful_curves
returns-clause-faithful_curves c =
    let a = c.args in is_faithful a.site a.points.now a.counts.now a.marks.now a.placement a.table.now (returns-clause-table_after c)
