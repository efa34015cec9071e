-- All steps of a slanted walk, by `span_whole`; else as `span_in` answers.
use Rattle.std.proofs.Common.{◌≡◌, sym, ◌∙◌, ap, rules}
use Rattle.integers.specs.Bits.{back}
use Rattle.edge.specs.Cuts.{all_steps}
use Rattle.edge.proofs.Laws.WalkKnown.{is_walk}
use Rattle.slanted.proofs.Laws.WholeSpan.{span_whole}
use Rattle.slanted.proofs.span_on.Goals as goal

pub returns-then-is_slanted : goal.returns-then-is_slanted
returns-then-is_slanted c =
    let steps : back c.args.w.steps ≡ c.args.w.steps = search rules in
    let m = c.is_slanted.ensures.yes c.if-is_slanted.true in
    ap all_steps steps ∙ sym (span_whole (is_walk c.args.w) m.0 m.1 c.args.c c.requires.1)
