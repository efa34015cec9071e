-- Contour by contour.
use Rattle.std.proofs.Common.{◌≡◌, ◌+◌, sym, subst, drop}
use Rattle.std.proofs.Math.Path.{subst⁻¹}
use Rattle.accuracy.specs.Outline.{points_of, contour_edges}
use Rattle.integers.specs.ListSum.{All}
use Rattle.rasterize.specs.Added.{added}
use Rattle.rasterize.specs.Ready.{Fits}
use Rattle.rasterize.specs.Views.{InView}
use Rattle.rasterize.specs.Laws.Sums.{edges_part}
use Rattle.std.specs.Prelude.{◌/◌, length}
use Rattle.contours.proofs.OutlineLoop.{Left, left_from, left_end, first_bounds, first_fits, first_in, left_step}
use Rattle.contours.proofs.add_outline.Goals as goal

pub split_at-requires : goal.split_at-requires
split_at-requires c = first_bounds (left_from c.args.counts.now c.loop-count.count-index c.loop-count.invariant c.loop-count-test.true)

pub add_contour-requires : goal.add_contour-requires
add_contour-requires c =
    let pass = c.args.pass in
    let l = left_from c.args.counts.now c.loop-count.count-index c.loop-count.invariant c.loop-count-test.true in
    let own = c.split_at.ensures.first in (
      subst⁻¹ (λ ps. Fits c.loop-count.table pass.depth (length ps / 2)) own (first_fits l),
      subst⁻¹ (λ ps. All (InView pass.view pass.depth) (contour_edges (points_of ps))) own (first_in l),
    )

pub loop-count-preserved : goal.loop-count-preserved
loop-count-preserved c =
    let a = c.args in
    let pass = a.pass in
    let l = left_from c.args.counts.now c.loop-count.count-index c.loop-count.invariant c.loop-count-test.true in
    let after = subst (λ ps. c.add_contour.new.table ≡ added c.loop-count.table (edges_part pass.view pass.depth pass.sign (contour_edges (points_of ps)))) c.split_at.ensures.first c.add_contour.ensures in
    subst⁻¹ (Left pass.view pass.depth pass.sign _ c.add_contour.new.table (drop (c.loop-count.count-index + 1) a.counts.now)) c.split_at.ensures.others (left_step l pass.sign_within after)

pub returns : goal.returns
returns c = sym (left_end c.args.counts.now c.loop-count.count-index c.loop-count.invariant c.loop-count-test.false)
