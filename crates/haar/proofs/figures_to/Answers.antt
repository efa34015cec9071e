-- The root is in the table, and is the figure of level 0.
use Rattle.std.proofs.Common.{refl, suc, ◌≤◌, ◌^◌, length, length-set, pos, get_or, arith}
use Rattle.std.proofs.Math.Nat.{one-le-pow, pow-le-pow_right}
use Rattle.integers.specs.Bits.{back}
use Rattle.haar.specs.Cells.{children}
use Rattle.haar.specs.Plane.{dimensions}
use Rattle.haar.proofs.Above.{root-inside, root_is, shallower}
use Rattle.haar.proofs.NextLevel.{root_figures, figures_parents}
use Rattle.haar.proofs.figures_to.Goals as goal

pub bounds-table-0 : goal.bounds-table-0
bounds-table-0 c = root-inside c.requires.0

pub bounds-picture-0 : goal.bounds-picture-0
bounds-picture-0 c = omega (arith, c.requires.1, one-le-pow c.args.level (children dimensions) (omega arith))

pub loop-j-init : goal.loop-j-init
loop-j-init c = record {
  figures = root_figures c.args.picture.now (omega (arith, c.requires.1, one-le-pow c.args.level (children dimensions) (omega arith))) (root_is c.requires.0);
  same_length = refl;
  within = omega arith;
}

pub invariant_of-above : goal.invariant_of-above
invariant_of-above c = record { drawable = shallower c.requires.0 c.loop-j-test.true }

pub draw_below-requires : goal.draw_below-requires
draw_below-requires c =
    let v = c.loop-j.invariant in
    let k : suc c.loop-j.j ≤ c.args.level = omega arith in
    let h : children dimensions ^ suc c.loop-j.j ≤ length c.loop-j.picture =
    omega (arith, c.requires.1, length-set c.args.picture.now 0 (back (get_or c.args.table.now 0 (pos 0))), pow-le-pow_right {n = children dimensions} (omega arith) k) in
    record { room = h; parents = figures_parents h v.figures }
