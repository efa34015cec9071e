-- A refused outline leaves everything as it was; an accepted one goes into a cleared table.
use Rattle.std.proofs.Common.{◌≡◌, List, ℕ, ℤ, sym, ◌∙◌, arith}
use mathlib.Core.Path.{subst⁻¹}
use Rattle.std.proofs.lemmas.Result.{err_from_is_err_and}
use Rattle.placement.specs.declared.Placement.{Placement}
use Rattle.placement.specs.Placed.{placed}
use Rattle.placement.proofs.Laws.PlacedPoints.{placed-length}
use Rattle.integers.specs.ListSum.{All}
use Rattle.integers.proofs.Theorems.ListSum.{all_map}
use Rattle.edge.specs.declared.Edge.{Edge}
use Rattle.accuracy.specs.Outline.{contours_of, edge_count}
use Rattle.accuracy.proofs.Laws.Contours.{outline_on_tile}
use Rattle.accuracy.proofs.Laws.Coordinates.{contours_of_on_tile}
use Rattle.rasterize.specs.declared.View.TheVariants.{Alone}
use Rattle.rasterize.specs.Views.{InView}
use Rattle.rasterize.proofs.Laws.EdgesInView.{in_view_alone}
use Rattle.tile.specs.declared.refusal.Refusal.{Refusal}
use Rattle.tile.specs.Answers.{number_of}
use Rattle.tile.specs.Questions.{Yes, depth_of, first_no, question12, table_questions, outline_questions}
use Rattle.tile.specs.Outcomes.{edges_of, placed_refusal, placed_table}
use Rattle.tile.specs.Faithful.{FaithfulPlaced}
use Rattle.tile.proofs.Theorems.Refusals.{placed_refusals}
use Rattle.tile.proofs.Theorems.PlacedOutline.{placed_none_in, placed-faithful}
use Rattle.tile.proofs.Laws.IfDone.{if_done_lem, refused_keeps, built_refused}
use Rattle.tile.proofs.Laws.Sides.{side_depth}
use Rattle.tile.proofs.Laws.Accepted.{Accepted, placed-accepted}
use Rattle.tile.proofs.Laws.Asking.{first_asked, rest_asked}
use Rattle.tile.proofs.Laws.Building.{cleared_fits, cleared_built}
use Rattle.tile.proofs.build_placed.Goals as goal

module _ (side : ℕ) (points : List ℤ) (counts : List ℕ) (placement : Placement) (table : List ℤ) where
  abbrev number : ℕ
  number = placed_refusal side points counts placement table

  -- the questions in the order in which they are asked: about the tile, and about the outline, no edge being in already
  by_tile : (r : Refusal) → number_of r ≡ first_no (table_questions side table) → number_of r ≡ number
  by_tile r e = first_asked (table_questions side table) (outline_questions side points counts placement 0) r e ∙ placed_none_in side points counts table placement

  by_outline : {n : ℕ} → 0 ≡ first_no (table_questions side table) → n ≡ first_no (outline_questions side points counts placement 0) → n ≡ number
  by_outline z e =
      rest_asked (table_questions side table) (outline_questions side points counts placement 0) tt z e ∙ placed_none_in side points counts table placement

  -- whatever the table is afterwards, if it is what building is to leave it is faithful to the outline
  is_faithful : {after : List ℤ} → after ≡ placed_table side points counts placement table → FaithfulPlaced side points counts placement table after
  is_faithful e = subst⁻¹ (FaithfulPlaced side points counts placement table) e (placed-faithful side points counts placement table)

  -- none is refused
  module _ (done : number ≡ 0) where
    is_accepted : Accepted side (placed placement points) counts table
    is_accepted = placed-accepted side points counts placement table done

    movable : Yes (question12 placement points)
    movable =
        let yes = (placed_refusals side points counts placement table).accepted.0 done in
        yes.1.1.1.1.1.0

    in_view : All (InView Alone (depth_of side)) (edges_of (placed placement points) counts)
    in_view =
        all_map (λ (e : Edge) h. in_view_alone {e = e} (side_depth side is_accepted.is_side) h) (edges_of (placed placement points) counts)
        (outline_on_tile (depth_of side) (contours_of counts (placed placement points))
        (contours_of_on_tile (depth_of side) counts (placed placement points) is_accepted.on_tile)).on_tile

pub returns-in_err-tile_refusal-clause-faithful_placed : goal.returns-in_err-tile_refusal-clause-faithful_placed
returns-in_err-tile_refusal-clause-faithful_placed c =
    let a = c.args in
    let e = by_tile a.side a.points.now a.counts.now a.placement a.table.now _ c.in_err-tile_refusal.ensures.value in
    is_faithful a.side a.points.now a.counts.now a.placement a.table.now (refused_keeps _ a.table.now _ e)

pub returns-in_err-outline_refusal-clause-value : goal.returns-in_err-outline_refusal-clause-value
returns-in_err-outline_refusal-clause-value c =
    let a = c.args in
    let e = by_outline a.side a.points.now a.counts.now a.placement a.table.now c.in_ok-tile_refusal.ensures.value c.in_err-outline_refusal.ensures.value in
    let p = err_from_is_err_and c.from_residual-in_err-outline_refusal.result c.from_residual-in_err-outline_refusal.ensures.1 in
    rw (p.1, p.2) (built_refused (edge_count a.counts.now) _ e)

pub returns-in_err-outline_refusal-clause-faithful_placed : goal.returns-in_err-outline_refusal-clause-faithful_placed
returns-in_err-outline_refusal-clause-faithful_placed c =
    let a = c.args in
    let e = by_outline a.side a.points.now a.counts.now a.placement a.table.now c.in_ok-tile_refusal.ensures.value c.in_err-outline_refusal.ensures.value in
    is_faithful a.side a.points.now a.counts.now a.placement a.table.now (refused_keeps _ a.table.now _ e)

pub invariant_of-placed : goal.invariant_of-placed
invariant_of-placed c =
    let a = c.args in
    let done = sym (by_outline a.side a.points.now a.counts.now a.placement a.table.now c.in_ok-tile_refusal.ensures.value c.in_ok-outline_refusal.ensures.value) in
    record { placeable = movable a.side a.points.now a.counts.now a.placement a.table.now done }

pub add_outline-requires : goal.add_outline-requires
add_outline-requires c =
    let a = c.args in
    let done = sym (by_outline a.side a.points.now a.counts.now a.placement a.table.now c.in_ok-tile_refusal.ensures.value c.in_ok-outline_refusal.ensures.value) in
    let y = is_accepted a.side a.points.now a.counts.now a.placement a.table.now done in
    let d = c.depth_of.ensures in (
      cleared_fits a.side a.table.now y.is_side y.table_length_lem c.clear.ensures d (edge_count a.counts.now) y.few_edges,
      omega (arith, y.points_length, placed-length a.placement a.points.now),
      subst⁻¹ (λ k. All (InView Alone k) (edges_of (placed a.placement a.points.now) a.counts.now)) d
          (in_view a.side a.points.now a.counts.now a.placement a.table.now done),
    )

pub returns-clause-table_after : goal.returns-clause-table_after
returns-clause-table_after c =
    let a = c.args in
    let done = sym (by_outline a.side a.points.now a.counts.now a.placement a.table.now c.in_ok-tile_refusal.ensures.value c.in_ok-outline_refusal.ensures.value) in
    let y = is_accepted a.side a.points.now a.counts.now a.placement a.table.now done in
    cleared_built a.side a.table.now y.is_side y.table_length_lem c.clear.ensures c.depth_of.ensures Alone
    (edges_of (placed a.placement a.points.now) a.counts.now) c.add_outline.ensures
    ∙ sym (if_done_lem _ a.table.now done)

pub returns-clause-faithful_placed : goal.returns-clause-faithful_placed
returns-clause-faithful_placed c =
    let a = c.args in is_faithful a.side a.points.now a.counts.now a.placement a.table.now (returns-clause-table_after c)
