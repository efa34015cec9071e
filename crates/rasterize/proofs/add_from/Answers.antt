-- The way down, and the rest where there are levels left.
use Rattle.std.proofs.Common.{◌≡◌, ℕ, ◌+◌, ◌-◌, ◌≤◌, arith}
use Rattle.rasterize.proofs.Descending.{descent_rest, descent_last}
use Rattle.rasterize.proofs.add_from.Goals as goal

-- the level below the last
bottom : {first depth : ℕ} → first ≤ depth → depth ≡ first + (depth - first)
bottom h = omega arith

pub add_on-requires : goal.add_on-requires
add_on-requires c =
    let d = c.descend-c.ensures in
    (omega (arith, c.if-c-depth.true), descent_rest d (bottom c.requires.0), d.on)

pub returns-else-c-depth : goal.returns-else-c-depth
returns-else-c-depth c = descent_last c.descend-c.ensures (bottom c.requires.0) c.if-c-depth.false
