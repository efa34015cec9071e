-- From the last digit to the first: what is still to be written are the first n digits of what is left of the number.
use Rattle.std.proofs.Common.{◌≡◌, ◌≤◌, length}
use Rattle.frame_text.specs.Digits.{hex}
use Rattle.frame_text.specs.Over.{over}
use Rattle.frame_text.proofs.hex.put_hex.Given as goal

abbrev pub invariant-loop-n : goal.invariant-loop-n
invariant-loop-n l = (l.n ≤ l.width) × (length l.out ≡ length l.fn.out) × (over (hex l.n l.left) l.out ≡ over (hex l.width l.value) l.fn.out)

abbrev pub decreases-loop-n : goal.decreases-loop-n
decreases-loop-n l = l.n
