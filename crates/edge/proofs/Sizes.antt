-- How large things are: coordinates, their differences and extents, and a cell's width.
--
-- Main results
--   coordinate, difference        a coordinate, and a difference of two, as the machine has them
--   extent_within                 the extent of a difference
--   magnitude                     a difference's magnitude, as `abs` answers it
--   width≥0, width_high,
--   width_within                  what `Room` says of a cell's width
use mathlib.Core.Path.{◌≡◌, ◌∙◌, ap}
use mathlib.Core.List.{[], ◌∷◌}
use Prim.Native.Nat.{◌<◌, ◌^◌}
use lib.IntN.{ℤ, pos, nat_abs, ◌-ℤ◌}
use lib.Signed.{◌≤ℤ◌, mag}
use Rattle.integers.proofs.Theorems.Order.{nonneg, positive, add_one_≤ℤ, ≤ℤ-mul}
use Rattle.integers.proofs.Theorems.Linear.{le, eq, ◌&◌, none!, linear, lin≤}
use Rattle.integers.specs.Units.{width_times_extent_limit}
use Rattle.integers.specs.Magnitude.{abs}
use Rattle.integers.proofs.Theorems.Magnitude.{abs-nonneg}
use Rattle.integers.specs.Within.{Within}
use Rattle.integers.proofs.Theorems.Within.{within_le, within_self, abs_of_within}
use Rattle.edge.specs.declared.Edge.{Edge}
use Rattle.edge.specs.declared.Cell.{Cell}
use Rattle.edge.specs.Walk.{extent, dx, ax}
use Rattle.edge.proofs.Laws.StepCount.{extent-pos}
use Rattle.edge.specs.Room.{coordinate_limit, extent_limit, Room}
use Rattle.edge.proofs.Laws.Cells.{extent_at_most}
use Rattle.integers.specs.Bits.{back}
use Rattle.integers.proofs.Theorems.Bits.{back_is, result_is}
use Rattle.integers.proofs.Theorems.Held.{held_number, held_sub}
use Rattle.integers.specs.Held.{Held}

pub coordinate : {x : ℤ} → Within (pos coordinate_limit) x → Held coordinate_limit (back x) x
coordinate p = held_number tt p

pub difference : {a b : ℤ} → Within (pos coordinate_limit) a → Within (pos coordinate_limit) b → Held extent_limit (back b -ℤ back a) (b -ℤ a)
difference p q = held_sub (coordinate q) (coordinate p)

pub extent_within : (d : ℤ) → Within (pos extent_limit) d → Within (pos extent_limit) (pos (extent d))
extent_within d w = within_le (extent_at_most d (lin≤ [] none! (search linear depth 40) tt) w) (within_self (nonneg (extent d)))

pub magnitude : {z r : ℤ} → Within (pos extent_limit) z → mag r < 2 ^ 63 → r ≡ pos (nat_abs (back z)) → Held extent_limit (back r) (abs z)
unfolding abs
magnitude {z} w k e = record { is = result_is k (e ∙ ap abs (back_is tt w)); within = within_le (abs_of_within w) (within_self (abs-nonneg z)) }

-- ---- a cell
module _ {e : Edge} {c : Cell} (r : Room e c) where
  pub width≥0 : pos 0 ≤ℤ c.width
  width≥0 = let h = r.even in lin≤ (c.width ∷ h.half ∷ []) (le h.half≥0 & eq h.twice) (search linear depth 40) tt

  -- an extent is at least 1
  pub width_high : c.width ≤ℤ pos width_times_extent_limit
  width_high =
      lin≤ (c.width ∷ pos (ax e) ∷ []) (le r.wide & le (≤ℤ-mul (add_one_≤ℤ (positive (extent-pos (dx e)))) width≥0)) (search linear depth 40) tt

  pub width_within : Within (pos width_times_extent_limit) c.width
  width_within = record { low = lin≤ (c.width ∷ []) (le width≥0) (search linear depth 40) tt; high = width_high }
