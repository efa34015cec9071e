-- Building with no placement: nothing moves, and the questions are building's.
use Rattle.std.proofs.Common.{◌∙◌}
use mathlib.Core.Path.{subst⁻¹}
use Rattle.tile.specs.Faithful.{Faithful}
use Rattle.tile.proofs.Theorems.Theorem.{faithful}
use Rattle.tile.proofs.Theorems.PlacedOutline.{placed_none_as_built}
use Rattle.tile.proofs.build.Goals as goal

pub returns-clause-value : goal.returns-clause-value
returns-clause-value c =
    let a = c.args in
    c.build_placed.ensures.value ∙ (placed_none_as_built a.side a.points.now a.counts.now a.table.now).0

pub returns-clause-table_after : goal.returns-clause-table_after
returns-clause-table_after c =
    let a = c.args in
    c.build_placed.ensures.table_after ∙ (placed_none_as_built a.side a.points.now a.counts.now a.table.now).1

pub returns-clause-faithful : goal.returns-clause-faithful
returns-clause-faithful c =
    let a = c.args in
    subst⁻¹ (Faithful a.side a.points.now a.counts.now a.table.now) (returns-clause-table_after c) (faithful a.side a.points.now a.counts.now a.table.now)
