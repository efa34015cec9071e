-- One line after the other: `ContourLines` has what the two lists hold.
use Rattle.std.proofs.Common.{length}
use Rattle.frame_text.proofs.ContourLines.{LinesRead}
use Rattle.frame_text.proofs.reading.read_contours.Given as goal

abbrev pub invariant-loop-line : goal.invariant-loop-line
invariant-loop-line l = LinesRead l.body l.fn.points l.fn.counts l.points l.counts l.size l.rest

abbrev pub decreases-loop-line : goal.decreases-loop-line
decreases-loop-line l = length l.rest
