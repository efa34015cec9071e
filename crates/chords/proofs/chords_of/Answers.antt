-- Side by side.
use Rattle.std.proofs.Common.{length, ap, arith, subst}
use Rattle.std.proofs.Math.Path.{subst⁻¹}
use Rattle.integers.specs.ListSum.{All, joined}
use Rattle.curve.specs.Curve.{OnSheet}
use Rattle.placement.specs.Coordinates.{coordinates}
use Rattle.chords.specs.Chords.{chords_of}
use Rattle.chords.specs.Marked.{contour_of}
use Rattle.chords.specs.Laws.SidesWithin.{SideWithin}
use Rattle.chords.proofs.Laws.ChordList.{contour_few}
use Rattle.chords.proofs.NextSide.{all_within, chords_counted, no_chords}
use Rattle.chords.proofs.chords_of.Goals as goal

pub loop-side-init : goal.loop-side-init
loop-side-init c =
    let q = c.args.contour.now in
    record {
      counted = omega (arith, ap (λ ss. length (joined chords_of ss)) c.of-sides.ensures);
      on_sheet = subst⁻¹ (All (SideWithin OnSheet)) c.of-sides.ensures (all_within OnSheet q.marks.now (coordinates q.points) q.as_many c.requires.1);
    }

pub overflow_add-sum : goal.overflow_add-sum
overflow_add-sum c =
    let few = contour_few (contour_of c.args.contour.now) in
    record { fits = omega (arith, few, c.requires.0, c.chords_in-sum.ensures, chords_counted c.in-Some.ensures, c.loop-side.invariant.counted) }

pub loop-side-preserved : goal.loop-side-preserved
loop-side-preserved c = record {
  counted = omega (arith, c.chords_in-sum.ensures, chords_counted c.in-Some.ensures, c.loop-side.invariant.counted);
  on_sheet = (subst (All (SideWithin OnSheet)) c.in-Some.ensures c.loop-side.invariant.on_sheet).1;
}

pub returns : goal.returns
returns c = omega (arith, ap length (no_chords c.in_default.ensures), c.loop-side.invariant.counted)
