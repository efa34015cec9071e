-- No number before k will do.
use Rattle.std.proofs.Common.{◌≡◌, ◌-◌, ◌≤◌}
use Rattle.integers.specs.Units.{most_splits}
use Rattle.curve.specs.Curve.{splits_from, splits}
use Rattle.curve.proofs.splits_of.Given as goal

abbrev pub invariant-loop-k : goal.invariant-loop-k
invariant-loop-k l = record {
  few : l.k ≤ most_splits;
  rest : splits l.u l.v ≡ splits_from (most_splits - l.k) l.k l.u l.v;
}
