-- Four digits for each number.
use Rattle.std.proofs.Common.{◌≡◌, ℕ, ◌+◌, ◌*◌, List, ℤ, length}
use Rattle.std.specs.Slice.Iter.{chunks_exact_rest, chunks_exact_size}
use Rattle.frame_text.specs.Over.{over}
use Rattle.frame_text.specs.Reading.{coordinates}
use Rattle.frame_text.proofs.Laws.Over.{over_at}
use Rattle.frame_text.proofs.reading.read_coordinates.Given as goal

-- n numbers are read, and so much of the line is left
pub record NumbersLeft (line : List ℕ) (points₀ points : List ℤ) (rest : List ℕ) (size n : ℕ) : Type 0 where
  pub fours : size ≡ 4
  pub all_bytes : 4 * n + length rest ≡ length line
  pub left : over_at n (coordinates rest) points ≡ over (coordinates line) points₀

abbrev pub invariant-loop-point : goal.invariant-loop-point
invariant-loop-point l = NumbersLeft l.line l.fn.points l.point-items (chunks_exact_rest l.numbers) (chunks_exact_size l.numbers) l.point-index
