-- What is left to add are the edges of the contours that are left.
use Rattle.placement.specs.Coordinates.{coordinates}
use Rattle.rasterize.specs.Added.{added}
use Rattle.rasterize.specs.Laws.Sums.{edges_part}
use Rattle.chords.specs.Sides.{marked_contours}
use Rattle.chords.specs.Chords.{outline_chords}
use Rattle.chords.specs.Marked.{contour_of}
use Rattle.chords.proofs.Left.{Left}
use Rattle.chords.proofs.NextContour.{Walked, contours_left}
use Rattle.chords.proofs.add_outline.Given as goal

abbrev pub invariant-loop-count : goal.invariant-loop-count
invariant-loop-count l = record {
  left : Left l.pass.view l.pass.depth l.pass.sign
      (added l.fn.table (edges_part l.pass.view l.pass.depth l.pass.sign (outline_chords (marked_contours l.counts l.outline.marks.now (coordinates l.outline.points))))) l.table
      (outline_chords (contours_left l.counts l.count-index (contour_of l.left)));
  walked : Walked l.counts l.count-index (contour_of l.left);
}
