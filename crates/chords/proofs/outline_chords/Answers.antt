-- Contour by contour, until they are too many.
use Rattle.std.proofs.Common.{◌≡◌, ◌≤◌, suc, cond, length, sym, ap, ◌∙◌, arith, le-leb}
use Rattle.std.proofs.lemmas.Bool.{lt-leb}
use Rattle.integers.specs.Units.{most_points, most_edges}
use Rattle.integers.proofs.Theorems.ListSum.{all_entry}
use Rattle.placement.specs.Coordinates.{coordinates}
use Rattle.chords.specs.Sides.{marked_contours}
use Rattle.chords.specs.Chords.{outline_chords}
use Rattle.chords.specs.Marked.{contour_of}
use Rattle.chords.proofs.Laws.ChordList.{contour_few}
use Rattle.chords.proofs.NextContour.{outline_end, marks_there, own_few, own_on_sheet, walked_next, outline_counted}
use Rattle.chords.proofs.outline_chords.Goals as goal

pub split_at-requires : goal.split_at-requires
split_at-requires c = marks_there c.args.counts.now c.loop-count.count-index c.loop-count-test.true c.loop-count.invariant.walked

pub chords_of-sum-requires : goal.chords_of-sum-requires
chords_of-sum-requires c =
    let counts = c.args.counts.now in
    let k = c.loop-count.count-index in
    let w = c.loop-count.invariant.walked in
    let s = c.split_at.ensures in
    let few = all_entry (λ n. n ≤ most_points) 0 counts c.requires.1 k c.loop-count-test.true in
    (omega (arith, few, own_few counts k c.loop-count-test.true w s.first s.others), own_on_sheet counts k c.loop-count-test.true w s.first s.others)

-- a contour has at most 128 edges for each mark
pub overflow_add-sum : goal.overflow_add-sum
overflow_add-sum c =
    let counts = c.args.counts.now in
    let k = c.loop-count.count-index in
    let s = c.split_at.ensures in
    let few = all_entry (λ n. n ≤ most_points) 0 counts c.requires.1 k c.loop-count-test.true in
    let marks = own_few counts k c.loop-count-test.true c.loop-count.invariant.walked s.first s.others in
    record { fits = omega (arith, c.loop-count.invariant.few, c.chords_of-sum.ensures, contour_few (contour_of c.split_at.result.0), marks, few) }

pub returns-then-sum-gt-MOST_EDGES : goal.returns-then-sum-gt-MOST_EDGES
returns-then-sum-gt-MOST_EDGES c =
    let counts = c.args.counts.now in
    let q = c.args.outline.now in
    let s = c.split_at.ensures in
    let next = outline_counted counts c.loop-count.count-index c.loop-count-test.true c.loop-count.invariant.walked s.first s.others in
    let all = length (outline_chords (marked_contours counts q.marks.now (coordinates q.points))) in
    sym (ap (λ b. cond b all (suc most_edges)) (lt-leb all most_edges (omega (arith, c.loop-count.invariant.counted, c.chords_of-sum.ensures, next, c.if-sum-gt-MOST_EDGES.true))))

pub loop-count-preserved : goal.loop-count-preserved
loop-count-preserved c =
    let counts = c.args.counts.now in
    let k = c.loop-count.count-index in
    let w = c.loop-count.invariant.walked in
    let s = c.split_at.ensures in
    let next = outline_counted counts k c.loop-count-test.true w s.first s.others in
    record {
      counted = omega (arith, c.loop-count.invariant.counted, c.chords_of-sum.ensures, next);
      walked = walked_next counts k c.loop-count-test.true w s.first s.others;
      few = c.if-sum-gt-MOST_EDGES.false;
    }

pub returns : goal.returns
returns c =
    let counts = c.args.counts.now in
    let q = c.args.outline.now in
    let all = length (outline_chords (marked_contours counts q.marks.now (coordinates q.points))) in
    let none = ap length (outline_end counts c.loop-count.count-index (contour_of c.loop-count.left) c.loop-count-test.false) in
    let same : c.loop-count.sum ≡ all = omega (arith, none, c.loop-count.invariant.counted) in
    same ∙ sym (ap (λ b. cond b all (suc most_edges)) (le-leb all most_edges (omega (arith, same, c.loop-count.invariant.few))))
