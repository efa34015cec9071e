-- The edges so far, and those of the contours that are left.
use Rattle.std.proofs.Common.{◌≡◌, ◌+◌, ◌≤◌, length}
use Rattle.integers.specs.Units.{most_edges}
use Rattle.placement.specs.Coordinates.{coordinates}
use Rattle.chords.specs.Sides.{marked_contours}
use Rattle.chords.specs.Chords.{outline_chords}
use Rattle.chords.specs.Marked.{contour_of}
use Rattle.chords.proofs.NextContour.{Walked, contours_left}
use Rattle.chords.proofs.outline_chords.Given as goal

abbrev pub invariant-loop-count : goal.invariant-loop-count
invariant-loop-count l = record {
  counted : l.sum + length (outline_chords (contours_left l.counts l.count-index (contour_of l.left)))
      ≡ length (outline_chords (marked_contours l.counts l.outline.marks.now (coordinates l.outline.points)));
  walked : Walked l.counts l.count-index (contour_of l.left);
  few : l.sum ≤ most_edges;
}
