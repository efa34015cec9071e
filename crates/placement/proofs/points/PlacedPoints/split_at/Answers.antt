-- The first points, placed, are the first of the placed coordinates, and the others are the others.
use Rattle.std.proofs.Common.{ap, ◌∙◌}
use Rattle.placement.specs.Placed.{placed}
use Rattle.placement.proofs.Laws.PlacedPoints.{placed-take, placed-drop}
use Rattle.placement.proofs.points.PlacedPoints.split_at.Goals as goal

pub returns-clause-first : goal.returns-clause-first
returns-clause-first c =
    let p = c.args.self.now in
    ap (placed p.placement) c.split_at.ensures.front ∙ placed-take p.placement c.args.k p.given.now

pub returns-clause-others : goal.returns-clause-others
returns-clause-others c =
    let p = c.args.self.now in
    ap (placed p.placement) c.split_at.ensures.back ∙ placed-drop p.placement c.args.k p.given.now
