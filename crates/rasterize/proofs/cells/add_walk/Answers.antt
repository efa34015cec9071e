-- The recursion, where there are steps inside.
use Rattle.std.proofs.Common.{sym, ◌≤ℤ◌, SFits, w64, rules}
use Rattle.integers.proofs.Theorems.Machine.{tests}
use Rattle.edge.proofs.Laws.WalkKnown.{is_walk}
use Rattle.rasterize.specs.Contribution.{contribution}
use Rattle.rasterize.proofs.Laws.Adding.{added_none}
use Rattle.rasterize.proofs.Laws.Contributions.{contribution_outside}
use Rattle.rasterize.proofs.QuarterLoop.{not-inside_of_span}
use Rattle.rasterize.proofs.cells.add_walk.Goals as goal

-- no part of the edge lies inside the cell
pub returns-else-span : goal.returns-else-span
returns-else-span c =
    let a = c.args in
    let f : SFits w64 a.span.first = search rules in
    let h : SFits w64 a.span.last = search rules in
    let l : a.span.last ≤ℤ a.span.first = search tests in
    sym (added_none a.table.now (contribution a.walk.edge a.left a.c)
    (contribution_outside a.left a.c c.requires.1.on_sheet (not-inside_of_span _ (is_walk a.walk) c.requires.2 l)))
