-- The first step in a half.
use Rattle.std.proofs.Common.{sym, ◌∙◌, to_z-of_z}
use Rattle.edge.proofs.Laws.Methods.{max-answer}
use Rattle.slanted.proofs.HalfTests.{since_before, since_after}
use Rattle.slanted.proofs.since.Goals as goal

pub returns-then-k-eq0 : goal.returns-then-k-eq0
returns-then-k-eq0 c = to_z-of_z c.ranges.t ∙ sym (since_before c.args.t c.args.m c.if-k-eq0.true)

pub returns-else-k-eq0 : goal.returns-else-k-eq0
returns-else-k-eq0 c =
    max-answer c.max.type_inv c.max.ensures.value (to_z-of_z c.ranges.t) (to_z-of_z c.ranges.m) ∙ sym (since_after c.args.t c.args.m c.if-k-eq0.false)
