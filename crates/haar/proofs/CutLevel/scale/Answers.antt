-- The cells across, squared.
use Rattle.std.proofs.Common.{◌∙◌, ap, pos, arith}
use Rattle.std.proofs.lemmas.Int.{to_z_pos}
use Rattle.std.specs.Int.{w64}
use Rattle.haar.proofs.LevelNumbers.{level_numbers}
use Rattle.haar.proofs.CutLevel.scale.Goals as goal

pub returns : goal.returns
returns c =
    let s = level_numbers c.args.self.now.drawable.shallow c.cells_across-n.ensures in
    to_z_pos w64 _ (omega arith) ∙ ap pos s.square
