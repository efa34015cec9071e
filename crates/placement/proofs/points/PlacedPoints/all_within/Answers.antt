-- Without a placement the points themselves decide.
use Rattle.std.proofs.Common.{sym, ap, ◌∙◌, ap₂, to_z-of_z}
use Rattle.integers.specs.Tests.{every, between}
use Rattle.placement.specs.Placed.{placed}
use Rattle.placement.proofs.Laws.PlacedPoints.{placed_none}
use Rattle.placement.specs.declared.Placement.{Placement}
use Rattle.placement.proofs.points.PlacedPoints.all_within.Goals as goal

pub returns-in-None : goal.returns-in-None
returns-in-None c =
    let points = c.args.self.now.given.now in
    let same = ap (λ (p : Placement). placed p points) c.in-None.is ∙ placed_none points in
    c.all_within.ensures
    ∙ ap₂ (λ low high. every (between low high) points) (to_z-of_z c.ranges.low) (to_z-of_z c.ranges.high)
    ∙ ap (every (between c.args.low c.args.high)) (sym same)
