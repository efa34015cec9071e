-- What `all` answers is the test of every byte.
use Rattle.std.proofs.Common.{refl, rules}
use Rattle.std.proofs.lemmas.List.Recursion.{and_is}
use Rattle.integers.specs.Tests.{every}
use Rattle.frame_text.specs.Digits.{is_digit}
use Rattle.frame_text.proofs.hex.are_digits.Goals as goal

pub returns : goal.returns
returns c = and_is (every is_digit) is_digit refl (λ _ _. refl) c.args.bytes.now 0 _ (search rules) (search rules)
