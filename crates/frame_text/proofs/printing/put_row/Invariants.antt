-- Two digits for each grey, and the end of the line.
use Rattle.std.proofs.Common.{◌≡◌, ◌*◌, length, drop}
use Rattle.frame_text.specs.Over.{over}
use Rattle.frame_text.specs.Lines.{line_text}
use Rattle.frame_text.specs.OutputLines.{grey_width}
use Rattle.frame_text.proofs.Laws.Over.{over_at}
use Rattle.frame_text.proofs.printing.put_row.Given as goal

abbrev pub invariant-loop-i : goal.invariant-loop-i
invariant-loop-i l =
    (length l.out ≡ length l.fn.out) × (over_at (2 * l.i) (line_text grey_width (drop l.i l.row)) l.out ≡ over (line_text grey_width l.row) l.fn.out)
