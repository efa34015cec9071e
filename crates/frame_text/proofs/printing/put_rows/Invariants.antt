-- One row after the other.
use Rattle.std.proofs.Common.{◌≡◌, ℕ, ◌+◌, ◌-◌, ◌*◌, ◌≤◌, List, length, drop}
use Rattle.frame_text.specs.Over.{over}
use Rattle.frame_text.specs.OutputLines.{rows_text}
use Rattle.frame_text.proofs.Laws.Over.{over_at}
use Rattle.frame_text.proofs.printing.put_rows.Given as goal

-- y rows are written, up to a place of the list, from so many greys
pub record RowsLeft (across : ℕ) (out₀ picture out : List ℕ) (at from y : ℕ) : Type 0 where
  pub same_length : length out ≡ length out₀
  pub room : at + (across - y) * (2 * across + 1) ≤ length out
  pub greys : from + (across - y) * across ≤ length picture
  pub left : over_at at (rows_text across (across - y) (drop from picture)) out ≡ over (rows_text across across picture) out₀

abbrev pub invariant-loop-y : goal.invariant-loop-y
invariant-loop-y l = RowsLeft l.across l.fn.out l.picture l.out (l.length * l.y) (l.across * l.y) l.y
