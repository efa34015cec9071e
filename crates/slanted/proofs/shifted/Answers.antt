-- A crossing moved by q steps, back or on.
use Rattle.std.proofs.Common.{sym, ◌∙◌}
use Rattle.integers.proofs.Theorems.Held.{held_number, held-add, held_sub, held_back}
use Rattle.slanted.proofs.HalfTests.{shifted_before, shifted_after}
use Rattle.slanted.proofs.shifted.Goals as goal

pub returns-then-k-eq0 : goal.returns-then-k-eq0
returns-then-k-eq0 c =
    (held_back tt (held_sub (held_number tt c.requires.0) (held_number tt c.requires.1))).is ∙ sym (shifted_before c.args.m c.args.q c.if-k-eq0.true)

pub returns-else-k-eq0 : goal.returns-else-k-eq0
returns-else-k-eq0 c =
    (held_back tt (held-add (held_number tt c.requires.0) (held_number tt c.requires.1))).is ∙ sym (shifted_after c.args.m c.args.q c.if-k-eq0.false)
