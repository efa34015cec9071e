-- The pairs so far are within.
use Rattle.std.proofs.Common.{◌≡◌, ◌*◌, ℕ, take, true}
use Rattle.integers.specs.Tests.{every, between}
use Rattle.integers.proofs.search_within.Given as goal

-- how many numbers a turn
abbrev pub turn : ℕ
turn = 2

abbrev pub invariant-loop-k : goal.invariant-loop-k
invariant-loop-k l = every (between l.low l.high) (take (turn * l.k) l.numbers) ≡ true
