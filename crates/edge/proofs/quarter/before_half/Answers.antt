-- Half a half on, or back.
use Rattle.std.proofs.Common.{pos, ◌≤ℤ◌, ◌<ℤ◌, sym, ◌∙◌}
use Rattle.std.proofs.Math.Facts.{sfits_lit}
use Rattle.integers.proofs.Theorems.Machine.{tests}
use Rattle.integers.proofs.Theorems.Held.{held_number, held-add, held_sub, held_back}
use Rattle.edge.proofs.Signs.{before_first, before_second}
use Rattle.edge.proofs.quarter.before_half.Goals as goal

pub returns-then-before-lt0 : goal.returns-then-before-lt0
returns-then-before-lt0 c =
    let i = c.ranges.before in
    let k : c.args.before <ℤ pos 0 = search (tests, sfits_lit) in
    (held_back tt (held-add (held_number tt c.requires.0) (held_number tt c.requires.1))).is ∙ sym (before_second _ _ k)

pub returns-else-before-lt0 : goal.returns-else-before-lt0
returns-else-before-lt0 c =
    let i = c.ranges.before in
    let k : pos 0 ≤ℤ c.args.before = search (tests, sfits_lit) in
    (held_back tt (held_sub (held_number tt c.requires.0) (held_number tt c.requires.1))).is ∙ sym (before_first _ _ k)
