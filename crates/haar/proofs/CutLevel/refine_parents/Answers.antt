-- Above the depth, the next level.
use Rattle.std.proofs.Common.{suc, ◌-◌, ◌^◌, ◌≤◌, length, arith}
use Rattle.std.proofs.Math.Nat.{pow-le-pow_right}
use Rattle.haar.specs.Cells.{children}
use Rattle.haar.specs.Plane.{dimensions}
use Rattle.haar.proofs.NextLevel.{figures_parents}
use Rattle.haar.proofs.CutLevel.refine_parents.Goals as goal

pub draw_below-requires : goal.draw_below-requires
draw_below-requires c =
    let p = c.requires.1 in
    let k : suc c.args.self.level ≤ c.args.depth - 1 = omega arith in
    let h : children dimensions ^ suc c.args.self.level ≤ length c.args.figures.now =
    omega (arith, p.enough, pow-le-pow_right {n = children dimensions} (omega arith) k) in
    record { room = h; parents = figures_parents h (p.figures c.requires.0) }
