-- The answer of either kind is what is promised of the text.
use Rattle.std.proofs.Common.{refl, ◌∙◌}
use Rattle.frame.proofs.Theorems.Theorem.{answered}
use Rattle.frame.proofs.draw.Goals as goal

pub returns-in_default-clause-answered : goal.returns-in_default-clause-answered
returns-in_default-clause-answered c = answered c.args.text.now c.in_default.ensures.value

pub put_refused-requires : goal.put_refused-requires
put_refused-requires c = c.in-Err.ensures.kept refl

pub returns-in-Err-clause-answered : goal.returns-in-Err-clause-answered
returns-in-Err-clause-answered c = answered c.args.text.now (c.put_refused.ensures ∙ c.in-Err.ensures.value)
