-- Contour by contour.
use Rattle.std.proofs.Common.{◌+◌, subst}
use Rattle.chords.specs.Chords.{contour_chords, outline_chords}
use Rattle.chords.specs.Marked.{contour_of}
use Rattle.chords.proofs.Left.{Left, left_none, left-fits, left_in, left_next}
use Rattle.chords.proofs.NextContour.{contours_left, outline_end, marks_there, own_on_sheet, walked_next, outline_next}
use Rattle.chords.proofs.add_outline.Goals as goal

pub split_at-requires : goal.split_at-requires
split_at-requires c = marks_there c.args.counts.now c.loop-count.count-index c.loop-count-test.true c.loop-count.invariant.walked

pub add_contour-requires : goal.add_contour-requires
add_contour-requires c =
    let pass = c.args.pass in
    let counts = c.args.counts.now in
    let k = c.loop-count.count-index in
    let w = c.loop-count.invariant.walked in
    let s = c.split_at.ensures in
    let edges = outline_next counts k c.loop-count-test.true w s.first s.others in
    let left = subst (Left pass.view pass.depth pass.sign _ c.loop-count.table) edges c.loop-count.invariant.left in
    let own = contour_chords (contour_of c.split_at.result.0) in
    let others = outline_chords (contours_left counts (k + 1) (contour_of c.split_at.result.1)) in
    (left-fits own others left, left_in own others left, own_on_sheet counts k c.loop-count-test.true w s.first s.others)

pub loop-count-preserved : goal.loop-count-preserved
loop-count-preserved c =
    let pass = c.args.pass in
    let counts = c.args.counts.now in
    let k = c.loop-count.count-index in
    let w = c.loop-count.invariant.walked in
    let s = c.split_at.ensures in
    let edges = outline_next counts k c.loop-count-test.true w s.first s.others in
    let left = subst (Left pass.view pass.depth pass.sign _ c.loop-count.table) edges c.loop-count.invariant.left in
    let own = contour_chords (contour_of c.split_at.result.0) in
    let others = outline_chords (contours_left counts (k + 1) (contour_of c.split_at.result.1)) in
    record { left = left_next own others left pass.sign_within c.add_contour.ensures; walked = walked_next counts k c.loop-count-test.true w s.first s.others }

pub returns : goal.returns
returns c =
    let pass = c.args.pass in
    let none = outline_end c.args.counts.now c.loop-count.count-index (contour_of c.loop-count.left) c.loop-count-test.false in
    left_none (subst (Left pass.view pass.depth pass.sign _ c.loop-count.table) none c.loop-count.invariant.left)
