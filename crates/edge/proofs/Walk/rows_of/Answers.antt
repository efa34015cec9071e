-- The steps in a cell's rows.
use Rattle.std.proofs.Common.{◌∙◌}
use Rattle.integers.proofs.Theorems.Bits.{back_is}
use Rattle.edge.proofs.Lemmas.Records.{meet-eq}
use Rattle.edge.proofs.Lemmas.CrossedCells.{strip_across}
use Rattle.edge.proofs.WalkRoom.{steps_within}
use Rattle.edge.proofs.Laws.WalkKnown.{is_walk}
use Rattle.edge.proofs.Walk.rows_of.Goals as goal

pub returns : goal.returns
returns c =
    let n = back_is tt (steps_within (is_walk c.args.self) c.requires.edge) in
    let r = c.strip-r.ensures ∙ strip_across c.down.ensures n in
    c.meet.ensures ∙ meet-eq r r n
