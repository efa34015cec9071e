-- A curve's chords are 2^7 at most.
--
-- Main results
--   few_splits                   k, of 2^k chords, is at most 7
use Rattle.std.proofs.Common.{◌≤◌, arith}
use Rattle.integers.specs.Units.{most_splits}
use Rattle.curve.specs.Curve.{bend}
use Rattle.curve.proofs.Laws.Splits.{splits_most}
use Rattle.chords.specs.declared.curved.Chords.{Chords}

pub few_splits : (c : Chords) → c.k ≤ most_splits
few_splits c =
    let a = c.across in
    let d = c.down in
    omega (arith, c.least, splits_most (bend a.p a.q a.r) (bend d.p d.q d.r))
