-- What is left to add are the chords from number i on.
use Rattle.std.proofs.Common.{drop}
use Rattle.rasterize.specs.Added.{added}
use Rattle.rasterize.specs.Laws.Sums.{edges_part}
use Rattle.chords.specs.declared.Side.TheVariants.{Curved}
use Rattle.chords.specs.Chords.{chords_of}
use Rattle.chords.specs.Inner.{curve_of}
use Rattle.chords.proofs.Left.{Left}
use Rattle.chords.proofs.add_chords.Given as goal

abbrev pub invariant-loop-i : goal.invariant-loop-i
invariant-loop-i l =
    Left l.pass.view l.pass.depth l.pass.sign (added l.fn.table (edges_part l.pass.view l.pass.depth l.pass.sign (chords_of (Curved (curve_of l.chords))))) l.table
    (drop l.i (chords_of (Curved (curve_of l.chords))))
