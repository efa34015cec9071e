-- How large the pieces between cuts are, where no number at a cut passes the limit of a width times an extent.
--
-- Main results
--   piece_limit, piece_within a piece is at most (2 × limit) × (2 × limit)
--   piece_sum_within          and the three together at most three times that
use Prim.Native.Nat.{ℕ, ◌*◌}
use lib.IntN.{ℤ, pos, ◌+ℤ◌, ◌-ℤ◌, ◌*ℤ◌}
use Rattle.integers.specs.Units.{width_times_extent_limit, numerator_limit}
use Rattle.integers.specs.Within.{Within}
use Rattle.integers.proofs.Theorems.Within.{within_add, within_sub, within_mul}
use Rattle.edge.specs.declared.Samples.{Samples}
use Rattle.edge.specs.Code.{SamplesWithin, piece_sum}

abbrev pub piece_limit : ℕ
piece_limit = 2 * numerator_limit

pub piece_within : {f0 f1 g0 g1 : ℤ} → Within (pos width_times_extent_limit) f0 → Within (pos width_times_extent_limit) f1 → Within (pos width_times_extent_limit) g0
    → Within (pos width_times_extent_limit) g1 → Within (pos piece_limit) ((f0 +ℤ f1) *ℤ (g1 -ℤ g0))
piece_within a b c d = within_mul (within_add a b) (within_sub d c)

pub piece_sum_within : {f g : Samples} → SamplesWithin (pos width_times_extent_limit) f → SamplesWithin (pos width_times_extent_limit) g → Within (pos (3 * piece_limit)) (piece_sum f g)
piece_sum_within a b =
    within_add (within_add (piece_within a.first a.second b.first b.second) (piece_within a.second a.third b.second b.third))
    (piece_within a.third a.fourth b.third b.fourth)
