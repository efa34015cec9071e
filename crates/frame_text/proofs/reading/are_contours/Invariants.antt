-- One line after the other: what is left decides.
use Rattle.std.proofs.Common.{◌≡◌, length}
use Rattle.frame_text.specs.Inner.{is_body}
use Rattle.frame_text.proofs.reading.are_contours.Given as goal

abbrev pub invariant-loop-line : goal.invariant-loop-line
invariant-loop-line l = is_body l.body ≡ is_body l.rest

abbrev pub decreases-loop-line : goal.decreases-loop-line
decreases-loop-line l = length l.rest
