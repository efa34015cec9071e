-- What `all` answers is the test of every mark.
use Rattle.std.proofs.Common.{refl, rules}
use Rattle.std.proofs.lemmas.List.Recursion.{and_is}
use Rattle.integers.specs.Tests.{every}
use Rattle.curves.specs.MarkedQuestions.{is_mark}
use Rattle.curves.proofs.are_marks.Goals as goal

pub returns : goal.returns
returns c = and_is (every is_mark) is_mark refl (λ _ _. refl) c.args.marks.now 0 _ (search rules) (search rules)
