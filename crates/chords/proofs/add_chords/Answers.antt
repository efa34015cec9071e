-- Chord by chord.
use Rattle.std.proofs.Common.{◌+◌, ◌*ℤ◌, ◌<◌, ◌≤◌, [], ◌∷◌, length, drop, drop_of_length-le, ap, ◌∙◌, subst, arith}
use Rattle.std.proofs.Math.Path.{subst⁻¹}
use Rattle.accuracy.specs.Outline.{edge_between}
use Rattle.rasterize.specs.Added.{added, entry_of}
use Rattle.rasterize.specs.Views.{part_table, InView}
use Rattle.chords.specs.declared.Side.TheVariants.{Curved}
use Rattle.chords.specs.Chords.{chord_point, chords_of}
use Rattle.chords.specs.Inner.{curve_of}
use Rattle.chords.proofs.Laws.ChordList.{curved_length, chord_next}
use Rattle.chords.proofs.Left.{Left, left_none, left-fits, left_in, left_next, one_edge}
use Rattle.chords.proofs.add_chords.Goals as goal

pub add_edge-requires : goal.add_edge-requires
add_edge-requires c =
    let a = c.args in
    let curve = curve_of a.chords in
    let i = c.loop-i.i in
    let this = edge_between (chord_point curve i) (chord_point curve (i + 1)) in
    let others = drop (i + 1) (chords_of (Curved curve)) in
    let below = subst (λ n. i < n) c.count-i-end.ensures c.loop-i-test.true in
    let left = subst (Left a.pass.view a.pass.depth a.pass.sign _ c.loop-i.table) (chord_next curve i below) c.loop-i.invariant in
    (left-fits (this ∷ []) others left, subst⁻¹ (InView a.pass.view a.pass.depth) c.chord.ensures (left_in (this ∷ []) others left).0)

pub loop-i-preserved : goal.loop-i-preserved
loop-i-preserved c =
    let a = c.args in
    let curve = curve_of a.chords in
    let i = c.loop-i.i in
    let this = edge_between (chord_point curve i) (chord_point curve (i + 1)) in
    let others = drop (i + 1) (chords_of (Curved curve)) in
    let below = subst (λ n. i < n) c.count-i-end.ensures c.loop-i-test.true in
    let left = subst (Left a.pass.view a.pass.depth a.pass.sign _ c.loop-i.table) (chord_next curve i below) c.loop-i.invariant in
    left_next (this ∷ []) others left a.pass.sign_within
    (c.add_edge.ensures
    ∙ ap (λ d. added c.loop-i.table (λ j. a.pass.sign *ℤ entry_of a.pass.depth (part_table a.pass.view a.pass.depth d) j)) c.chord.ensures
    ∙ one_edge a.pass.view a.pass.depth a.pass.sign c.loop-i.table this)

pub returns : goal.returns
returns c =
    let a = c.args in
    let curve = curve_of a.chords in
    let all = chords_of (Curved curve) in
    let few : length all ≤ c.loop-i.i = omega (arith, curved_length curve, c.count-i-end.ensures, c.loop-i-test.false) in
    left_none (subst (Left a.pass.view a.pass.depth a.pass.sign _ c.loop-i.table) (drop_of_length-le all few) c.loop-i.invariant)
