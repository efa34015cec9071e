-- An edge, or a curve's chords.
use Rattle.std.proofs.Common.{length, sym, ap, ◌∙◌, subst}
use Rattle.integers.specs.ListSum.{All}
use Rattle.rasterize.specs.Added.{added}
use Rattle.rasterize.specs.Ready.{Fits}
use Rattle.rasterize.specs.Views.{InView}
use Rattle.rasterize.specs.Laws.Sums.{edges_part}
use Rattle.chords.specs.declared.Side.TheVariants.{Curved}
use Rattle.chords.specs.Chords.{chords_of}
use Rattle.chords.proofs.Laws.ChordList.{straight_chords}
use Rattle.chords.proofs.Left.{one_edge}
use Rattle.chords.proofs.add_side.Goals as goal

pub add_edge-requires : goal.add_edge-requires
add_edge-requires c =
    let a = c.args in
    let edges = ap chords_of c.in-Straight.is ∙ straight_chords c.in-Straight.e in
    (subst (λ l. Fits a.table.now a.pass.depth (length l)) edges c.requires.0, (subst (All (InView a.pass.view a.pass.depth)) edges c.requires.1).0)

pub returns-in-Straight : goal.returns-in-Straight
returns-in-Straight c =
    let a = c.args in
    let pass = a.pass in
    let edges = ap chords_of c.in-Straight.is ∙ straight_chords c.in-Straight.e in
    c.add_edge.ensures ∙ one_edge pass.view pass.depth pass.sign a.table.now c.in-Straight.e
    ∙ sym (ap (λ l. added a.table.now (edges_part pass.view pass.depth pass.sign l)) edges)

-- the curve is the one whose chords are added
pub add_chords-requires : goal.add_chords-requires
add_chords-requires c =
    let a = c.args in
    let edges = ap chords_of c.in-Curved.is ∙ ap (λ k. chords_of (Curved k)) (sym c.of.ensures) in
    (subst (λ l. Fits a.table.now a.pass.depth (length l)) edges c.requires.0, subst (All (InView a.pass.view a.pass.depth)) edges c.requires.1)

pub returns-in-Curved : goal.returns-in-Curved
returns-in-Curved c =
    let a = c.args in
    let edges = ap chords_of c.in-Curved.is ∙ ap (λ k. chords_of (Curved k)) (sym c.of.ensures) in
    c.add_chords.ensures ∙ sym (ap (λ l. added a.table.now (edges_part a.pass.view a.pass.depth a.pass.sign l)) edges)
