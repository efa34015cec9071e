-- A list with room for the figures of every level above the depth.
use Rattle.std.proofs.Common.{◌-◌, ◌≤◌, arith, lit≤}
use Rattle.std.proofs.Math.Nat.{pow-le-pow_right}
use Rattle.integers.specs.Units.{greatest_depth}
use Rattle.haar.specs.Cells.{children}
use Rattle.haar.specs.Plane.{dimensions}
use Rattle.haar.proofs.pyramid.Goals as goal

pub pyramid_in-requires-clause-places : goal.pyramid_in-requires-clause-places
pyramid_in-requires-clause-places c = let h : c.args.depth - 1 ≤ 3 = omega arith in (pow-le-pow_right {n = children dimensions} (omega arith) h, lit≤ tt)

pub pyramid_in-requires-else-depth-le-SHALLOW-clause-places : goal.pyramid_in-requires-else-depth-le-SHALLOW-clause-places
pyramid_in-requires-else-depth-le-SHALLOW-clause-places c =
    let h : c.args.depth - 1 ≤ greatest_depth - 1 = omega (arith, c.requires.drawable.shallow) in
    (pow-le-pow_right {n = children dimensions} (omega arith) h, lit≤ tt)
