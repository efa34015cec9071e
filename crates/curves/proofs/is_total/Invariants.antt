-- What is left of the size when some of the items are taken, whatever each has of its own.
use Rattle.std.proofs.Common.{◌≡◌, ℕ}
use Rattle.curves.proofs.Laws.CountingDown.{Down}
use Rattle.curves.proofs.is_total.Given as goal

abbrev pub invariant-loop-item : goal.invariant-loop-item
invariant-loop-item g l = (f : _ → ℕ) → ((x : _) (r : ℕ) → goal.F-post g l.own x r → r ≡ f x) → Down f l.items l.size l.item-index l.left
