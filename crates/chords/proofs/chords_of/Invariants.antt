-- The edges so far, and those of the sides that are left.
use Rattle.std.proofs.Common.{◌≡◌, ◌+◌, length}
use Rattle.integers.specs.ListSum.{All, joined}
use Rattle.curve.specs.Curve.{OnSheet}
use Rattle.chords.specs.Chords.{chords_of, contour_chords}
use Rattle.chords.specs.Marked.{contour_of, sides_left}
use Rattle.chords.specs.Laws.SidesWithin.{SideWithin}
use Rattle.chords.proofs.chords_of.Given as goal

abbrev pub invariant-loop-side : goal.invariant-loop-side
invariant-loop-side l = record {
  counted : l.sum + length (joined chords_of (sides_left l.sides)) ≡ length (contour_chords (contour_of l.contour));
  on_sheet : All (SideWithin OnSheet) (sides_left l.sides);
}

abbrev pub decreases-loop-side : goal.decreases-loop-side
decreases-loop-side l = length (sides_left l.sides)
