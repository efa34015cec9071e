-- The steps strictly inside a cell: those between the sides both ways.
use Rattle.std.proofs.Common.{◌∙◌}
use Rattle.integers.proofs.Theorems.Bits.{back_is}
use Rattle.edge.proofs.Lemmas.Records.{meet-eq}
use Rattle.edge.proofs.Lemmas.CrossedCells.{strip_across}
use Rattle.edge.proofs.WalkRoom.{steps_within}
use Rattle.edge.proofs.Laws.WalkKnown.{is_walk}
use Rattle.edge.proofs.Walk.span_in.Goals as goal

pub returns : goal.returns
returns c =
    let n = back_is tt (steps_within (is_walk c.args.self) c.requires.edge) in
    c.meet.ensures ∙ meet-eq (c.strip.ensures ∙ strip_across c.across.ensures n) (c.strip-2.ensures ∙ strip_across c.down.ensures n) n
