-- Side by side.
use Rattle.std.proofs.Common.{ap, subst}
use Rattle.std.proofs.Math.Path.{subst⁻¹}
use Rattle.integers.specs.ListSum.{All, joined}
use Rattle.curve.specs.Curve.{OnSheet}
use Rattle.placement.specs.Coordinates.{coordinates}
use Rattle.chords.specs.Chords.{chords_of}
use Rattle.chords.specs.Marked.{sides_left}
use Rattle.chords.specs.Laws.SidesWithin.{SideWithin}
use Rattle.chords.proofs.Left.{Left, left_start, left_none, left-fits, left_in, left_next}
use Rattle.chords.proofs.NextSide.{all_within, chords_next, no_chords}
use Rattle.chords.proofs.add_contour.Goals as goal

pub loop-side-init : goal.loop-side-init
loop-side-init c =
    let q = c.args.contour.now in
    let pass = c.args.pass in
    let edges = ap (joined chords_of) c.of-sides.ensures in
    record {
      left = subst⁻¹ (Left pass.view pass.depth pass.sign _ c.args.table.now) edges (left_start c.requires.0 c.requires.1);
      on_sheet = subst⁻¹ (All (SideWithin OnSheet)) c.of-sides.ensures (all_within OnSheet q.marks.now (coordinates q.points) q.as_many c.requires.2);
    }

pub add_side-requires : goal.add_side-requires
add_side-requires c =
    let pass = c.args.pass in
    let others = joined chords_of (sides_left c.next.new.self) in
    let left = subst (Left pass.view pass.depth pass.sign _ c.loop-side.table) (chords_next c.in-Some.ensures) c.loop-side.invariant.left in (
      left-fits (chords_of c.in-Some.side) others left,
      left_in (chords_of c.in-Some.side) others left,
      (subst (All (SideWithin OnSheet)) c.in-Some.ensures c.loop-side.invariant.on_sheet).0,
    )

pub loop-side-preserved : goal.loop-side-preserved
loop-side-preserved c =
    let pass = c.args.pass in
    let others = joined chords_of (sides_left c.next.new.self) in
    let left = subst (Left pass.view pass.depth pass.sign _ c.loop-side.table) (chords_next c.in-Some.ensures) c.loop-side.invariant.left in
    record {
      left = left_next (chords_of c.in-Some.side) others left pass.sign_within c.add_side.ensures;
      on_sheet = (subst (All (SideWithin OnSheet)) c.in-Some.ensures c.loop-side.invariant.on_sheet).1;
    }

pub returns : goal.returns
returns c =
    let pass = c.args.pass in
    left_none (subst (Left pass.view pass.depth pass.sign _ c.loop-side.table) (no_chords c.in_default.ensures) c.loop-side.invariant.left)
