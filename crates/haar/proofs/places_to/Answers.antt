-- Three times the places, and one, are the cells of the next level.
use Rattle.std.proofs.Common.{suc, ◌*◌, ◌∙◌, ap₂, arith}
use Rattle.std.proofs.Math.Nat.{pow-succ'}
use Rattle.haar.proofs.Laws.Cells.{level_square}
use Rattle.haar.proofs.Laws.Pyramid.{places-closed}
use Rattle.haar.proofs.places_to.Goals as goal

pub returns : goal.returns
returns c =
    let e = c.cells_across-n.ensures in
    let depth = c.args.depth in
    omega (arith, places-closed (suc depth), pow-succ' 4 depth, ap₂ ◌*◌ e e ∙ level_square depth)
