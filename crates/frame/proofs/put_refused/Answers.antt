-- The line over the start of zeros.
use Rattle.std.proofs.Common.{List, ℕ, ◌∙◌, ap, ap₂, arith}
use Rattle.frame_text.specs.Over.{over}
use Rattle.frame_text.specs.OutputLines.{refusal_text}
use Rattle.frame.specs.declared.Answer.{Answer}
use Rattle.tile.proofs.Theorems.Numbers.{number_le}
use Rattle.frame.proofs.put_refused.Goals as goal

abbrev line : List ℕ → Answer
line bytes = record { bytes = bytes; len = 11 }

pub put_refusal-requires : goal.put_refusal-requires
put_refusal-requires c = omega (arith, c.number.ensures, number_le c.args.refusal)

pub returns : goal.returns
returns c = ap line (c.put_refusal.ensures ∙ ap₂ (λ n a. over (refusal_text n) a.bytes) c.number.ensures c.requires)
