-- What is left to add are the edges of the sides that are left.
use Rattle.std.proofs.Common.{length}
use Rattle.integers.specs.ListSum.{All, joined}
use Rattle.curve.specs.Curve.{OnSheet}
use Rattle.rasterize.specs.Added.{added}
use Rattle.rasterize.specs.Laws.Sums.{edges_part}
use Rattle.chords.specs.Chords.{chords_of, contour_chords}
use Rattle.chords.specs.Marked.{contour_of, sides_left}
use Rattle.chords.specs.Laws.SidesWithin.{SideWithin}
use Rattle.chords.proofs.Left.{Left}
use Rattle.chords.proofs.add_contour.Given as goal

abbrev pub invariant-loop-side : goal.invariant-loop-side
invariant-loop-side l = record {
  left : Left l.pass.view l.pass.depth l.pass.sign (added l.fn.table (edges_part l.pass.view l.pass.depth l.pass.sign (contour_chords (contour_of l.contour)))) l.table
      (joined chords_of (sides_left l.sides));
  on_sheet : All (SideWithin OnSheet) (sides_left l.sides);
}

abbrev pub decreases-loop-side : goal.decreases-loop-side
decreases-loop-side l = length (sides_left l.sides)
