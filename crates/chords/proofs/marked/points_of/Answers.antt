-- Mark by mark.
use Rattle.std.proofs.Common.{ℕ, ◌≤◌, Bool, true, false, cond, ap, arith, drop_of_length-le}
use Rattle.integers.specs.ListSum.{tally}
use Rattle.chords.specs.Sides.{numbers}
use Rattle.chords.specs.Marked.{is_straight}
use Rattle.chords.proofs.NextMark.{numbers_next}
use Rattle.chords.proofs.marked.points_of.Goals as goal

at_most : (b : Bool) → cond b 2 4 ≤ 4
at_most true = omega arith
at_most false = omega arith

pub loop-mark-preserved : goal.loop-mark-preserved
loop-mark-preserved c =
    let marks = c.args.marks.now in
    let own = ap {B = ℕ} (λ b. cond b 2 4) c.from.ensures in
    record {
      all = omega (arith, c.points-sum.ensures, own, numbers_next marks c.loop-mark.mark-index c.loop-mark-test.true, c.loop-mark.invariant.all);
      few = omega (arith, c.points-sum.ensures, at_most (is_straight c.from.result), c.loop-mark.invariant.few);
    }

pub returns : goal.returns
unfolding tally
returns c =
    let none = ap numbers (drop_of_length-le c.args.marks.now c.loop-mark-test.false) in
    omega (arith, none, c.loop-mark.invariant.all)
