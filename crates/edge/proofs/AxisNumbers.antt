-- One direction of a walk, where it has room: what the code forms from its scale, start and sign stays in range.
--
-- Main results
--   scale_held, sign-held               the direction's own numbers
--   diff_held, side_held                from the start to a side: `scale × (side − start)`
--   width_within, width_held, width_is  the width, `scale` times over
--   sum-held                            both together: from the start to the far side, or to the middle
--   past_is                             distances past a side that is read back
--   beyond_within, near_within          at cuts between the sides, the distances past the side and from the nearer side
--   hold_within                         at any cuts, the distance past the side, held to the width
use mathlib.Core.Path.{◌≡◌, ◌∙◌, ap, ap₂}
use mathlib.Core.List.{[], ◌∷◌}
use Prim.Native.Nat.{◌+◌, ◌*◌}
use lib.IntN.{ℤ, pos, ◌+ℤ◌, ◌-ℤ◌, ◌*ℤ◌}
use lib.Signed.{◌≤ℤ◌}
use mir.Syntax.{w64}
use mir.Val.{SFits}
use mir.Facts.{to_z-of_z}
use Rattle.integers.specs.Units.{width_times_extent_limit}
use Rattle.integers.proofs.Theorems.Order.{≤ℤ-mul-nonneg, ≤ℤ_trans}
use Rattle.integers.proofs.Theorems.Linear.{le, linear, lin≤}
use Rattle.integers.specs.Within.{Within}
use Rattle.integers.proofs.Theorems.Within.{within_le, within_self}
use Rattle.integers.specs.MinMax.{min}
use Rattle.integers.proofs.Theorems.MinMax.{min-≤ˡ, min-greatest}
use Rattle.integers.specs.Clamp.{clamp}
use Rattle.integers.proofs.Theorems.Clamp.{clamp_low, clamp_high}
use Rattle.edge.specs.declared.Axis.{Axis}
use Rattle.edge.specs.declared.Samples.{Samples}
use Rattle.edge.specs.Walk.{beyond}
use Rattle.edge.specs.Room.{extent_limit}
use Rattle.edge.specs.Code.{AxisRoom, SamplesWithin, Closed, SamplesClosed, beyond_at, near_at, held_at}
use Rattle.edge.specs.Cuts.{to_side}
use Rattle.integers.specs.Bits.{back}
use Rattle.integers.proofs.Theorems.Bits.{back_is}
use Rattle.integers.specs.Held.{Held}
use Rattle.integers.proofs.Theorems.Held.{held_number, held-add, held-mul, held_back}
use Rattle.edge.proofs.Sizes.{difference}

module _ {a : Axis} {side w : ℤ} (r : AxisRoom a side w) where
  pub scale_held : Held extent_limit (back a.scale) a.scale
  scale_held = held_number tt (within_le r.scale (within_self r.scaled))

  pub sign-held : Held 1 (back a.sign) a.sign
  sign-held = held_number tt r.signed

  -- ---- to a side
  pub diff_held : Held extent_limit (back side -ℤ back a.start) (side -ℤ a.start)
  diff_held = difference r.start r.line

  pub side_held : Held (extent_limit * extent_limit) (back a.scale *ℤ back (back side -ℤ back a.start)) (to_side a side)
  side_held = held-mul scale_held (held_back tt diff_held)

  -- ---- the width
  pub width_within : Within (pos width_times_extent_limit) (a.scale *ℤ w)
  width_within = within_le r.wide (within_self (≤ℤ-mul-nonneg r.scaled r.width))

  pub width_held : SFits w64 w → Held width_times_extent_limit (back a.scale *ℤ back w) (a.scale *ℤ w)
  width_held f = record { is = ap₂ ◌*ℤ◌ scale_held.is (to_z-of_z f); within = width_within }

  pub width_is : SFits w64 w → back (back a.scale *ℤ back w) ≡ a.scale *ℤ w
  width_is f = (held_back tt (width_held f)).is

  pub sum-held : SFits w64 w
      → Held (extent_limit * extent_limit + width_times_extent_limit) (back (back a.scale *ℤ back (back side -ℤ back a.start)) +ℤ back (back a.scale *ℤ back w)) (to_side a side +ℤ a.scale *ℤ w)
  sum-held f = held-add (held_back tt side_held) (held_back tt (width_held f))

  -- ---- at one cut, and at four
  pub past_is : (k : Samples) {u : Samples} → u ≡ beyond_at a (back side) k → u ≡ beyond_at a side k
  past_is k e = e ∙ ap (λ z. beyond_at a z k) (back_is tt r.line)

  beyond_within_at : {t : ℤ} → Closed a side w t → Within (pos width_times_extent_limit) (beyond a side t)
  beyond_within_at c = within_le (≤ℤ_trans c.high r.wide) (within_self c.low)

  near_within_at : {t : ℤ} → Closed a side w t → Within (pos width_times_extent_limit) (min (beyond a side t) (a.scale *ℤ w -ℤ beyond a side t))
  near_within_at {t} c =
      let u = beyond a side t in
      let m = a.scale *ℤ w in
      let h : pos 0 ≤ℤ (m -ℤ u) = lin≤ (a.scale ∷ a.start ∷ a.sign ∷ side ∷ w ∷ t ∷ []) (le c.high) (search linear depth 40) tt in
      within_le (≤ℤ_trans (min-≤ˡ u (m -ℤ u)) (≤ℤ_trans c.high r.wide)) (within_self (min-greatest c.low h))

  pub beyond_within : {k : Samples} → SamplesClosed a side w k → SamplesWithin (pos width_times_extent_limit) (beyond_at a side k)
  beyond_within c =
      record { first = beyond_within_at c.first; second = beyond_within_at c.second; third = beyond_within_at c.third; fourth = beyond_within_at c.fourth }

  pub near_within : {k : Samples} → SamplesClosed a side w k → SamplesWithin (pos width_times_extent_limit) (near_at (a.scale *ℤ w) (beyond_at a side k))
  near_within c = record { first = near_within_at c.first; second = near_within_at c.second; third = near_within_at c.third; fourth = near_within_at c.fourth }

  hold_within_at : (u : ℤ) → Within (pos width_times_extent_limit) (clamp u (pos 0) (a.scale *ℤ w))
  hold_within_at u =
      within_le (≤ℤ_trans (clamp_high (≤ℤ-mul-nonneg r.scaled r.width) u) r.wide) (within_self (clamp_low u (pos 0) (a.scale *ℤ w)))

  pub hold_within : (u : Samples) → SamplesWithin (pos width_times_extent_limit) (held_at (a.scale *ℤ w) u)
  hold_within u =
      record { first = hold_within_at u.first; second = hold_within_at u.second; third = hold_within_at u.third; fourth = hold_within_at u.fourth }
