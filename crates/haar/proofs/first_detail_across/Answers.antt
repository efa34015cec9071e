-- The place of a cell's first detail, by the number of cells across.
use Rattle.std.proofs.Common.{◌*◌, ap, arith}
use Rattle.haar.specs.Plane.{h_detail}
use Rattle.haar.proofs.Laws.Layout.{index_plane}
use Rattle.haar.proofs.LevelNumbers.{level_numbers}
use Rattle.haar.proofs.first_detail_across.Goals as goal

pub returns : goal.returns
returns c =
    let l = level_numbers c.requires.0 c.requires.1 in
    let a = c.args in
    omega (arith, l.square, index_plane a.level a.x a.y h_detail, ap (λ n. a.y * n) c.requires.1)
