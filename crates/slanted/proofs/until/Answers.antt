-- The last step in a half.
use Rattle.std.proofs.Common.{sym, ◌∙◌, to_z-of_z}
use Rattle.edge.proofs.Laws.Methods.{min-answer}
use Rattle.slanted.proofs.HalfTests.{until_before, until_after}
use Rattle.slanted.proofs.until.Goals as goal

pub returns-then-k-eq0 : goal.returns-then-k-eq0
returns-then-k-eq0 c =
    min-answer c.min.type_inv c.min.ensures.value (to_z-of_z c.ranges.t) (to_z-of_z c.ranges.m) ∙ sym (until_before c.args.t c.args.m c.if-k-eq0.true)

pub returns-else-k-eq0 : goal.returns-else-k-eq0
returns-else-k-eq0 c = to_z-of_z c.ranges.t ∙ sym (until_after c.args.t c.args.m c.if-k-eq0.false)
