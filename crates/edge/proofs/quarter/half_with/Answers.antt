-- The second where the number is negative, and else the first.
use Rattle.std.proofs.Common.{pos, ◌≤ℤ◌, ◌<ℤ◌, sym}
use Rattle.std.proofs.Math.Facts.{sfits_lit}
use Rattle.integers.proofs.Theorems.Machine.{tests}
use Rattle.edge.proofs.Signs.{half_first, half_second}
use Rattle.edge.proofs.quarter.half_with.Goals as goal

pub returns-then-before-lt0 : goal.returns-then-before-lt0
returns-then-before-lt0 c =
    let i = c.ranges.before in
    let k : c.args.before <ℤ pos 0 = search (tests, sfits_lit) in
    sym (half_second _ k)

pub returns-else-before-lt0 : goal.returns-else-before-lt0
returns-else-before-lt0 c =
    let i = c.ranges.before in
    let k : pos 0 ≤ℤ c.args.before = search (tests, sfits_lit) in
    sym (half_first _ k)
