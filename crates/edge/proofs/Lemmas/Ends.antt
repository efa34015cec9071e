-- The walk: signs and extents, and both ends.
--
-- Main results
--   sign-extent                     sign d × extent d = d
--   extent-neg, sign-neg            of −d: the same extent, the opposite sign
--   extent-zero, sign_zero          of 0: 1 and 0
--   Direction, direction            a sign is 1, 0 or −1
--   direction_within                and so at most one either way
--   Steady, steady_within,
--   x_steady, y_steady              a direction whose scale is not negative and whose sign is one of these; an edge's two are
--   beyond_start, x_end, y_end      the walk goes from one end point to the other
--   past_scale, near_scale          at a point the scale comes out
use Rattle.std.specs.Prelude.{◌≡◌, refl, [], ◌∷◌, zero, suc, ℤ, pos, negsuc, neg_ℤ, ◌-ℤ◌, ◌*ℤ◌, ◌≤ℤ◌}
use Rattle.std.proofs.Common.{◌∙◌, ap}
use Rattle.integers.proofs.Theorems.Ring.{read, ring, comb, ◌⊗◌}
use Rattle.integers.proofs.Theorems.Order.{nonneg}
use Rattle.integers.proofs.Theorems.Linear.{none!, linear, lin≤}
use Rattle.integers.specs.Within.{Within}
use Rattle.integers.specs.Clamp.{clamp}
use Rattle.integers.proofs.Theorems.Clamp.{clamp_scale}
use Rattle.integers.specs.Tent.{tent}
use Rattle.integers.proofs.Theorems.Tent.{tent_scale}
use Rattle.edge.specs.declared.Edge.{Edge}
use Rattle.edge.specs.declared.Axis.{Axis}
use Rattle.edge.specs.Walk.{extent, sign, dx, dy, ax, ay, steps, x_axis, y_axis, beyond, past, near}

-- ---- signs and extents
pub sign-extent : (d : ℤ) → sign d *ℤ pos (extent d) ≡ d
unfolding sign extent
sign-extent (pos zero) = refl
sign-extent (pos (suc n)) = ring (pos n ∷ []) (search read depth 40) tt
sign-extent (negsuc n) = ring (pos n ∷ []) (search read depth 40) tt

pub extent-neg : (d : ℤ) → extent (neg_ℤ d) ≡ extent d
unfolding extent
extent-neg (pos zero) = refl
extent-neg (pos (suc n)) = refl
extent-neg (negsuc n) = refl

pub sign-neg : (d : ℤ) → sign (neg_ℤ d) ≡ neg_ℤ (sign d)
unfolding sign
sign-neg (pos zero) = refl
sign-neg (pos (suc n)) = refl
sign-neg (negsuc n) = refl

pub extent-zero : {d : ℤ} → d ≡ pos 0 → extent d ≡ 1
unfolding extent
extent-zero h = ap extent h

pub sign_zero : {d : ℤ} → d ≡ pos 0 → sign d ≡ pos 0
unfolding sign
sign_zero h = ap sign h

pub data Direction : ℤ → Type 0 where
  forward : Direction (pos 1)
  still : Direction (pos 0)
  backward : Direction (negsuc 0)

pub direction : (d : ℤ) → Direction (sign d)
unfolding sign
direction (pos zero) = still
direction (pos (suc n)) = forward
direction (negsuc n) = backward

pub direction_within : {s : ℤ} → Direction s → Within (pos 1) s
direction_within forward = record { low = lin≤ [] none! (search linear depth 40) tt; high = lin≤ [] none! (search linear depth 40) tt }
direction_within still = record { low = lin≤ [] none! (search linear depth 40) tt; high = lin≤ [] none! (search linear depth 40) tt }
direction_within backward = record { low = lin≤ [] none! (search linear depth 40) tt; high = lin≤ [] none! (search linear depth 40) tt }

-- what the laws ask of a direction of a walk
pub record Steady (a : Axis) : Type 0 where
  pub scaled : pos 0 ≤ℤ a.scale
  pub signed : Direction a.sign

pub steady_within : {a : Axis} → Steady a → Within (pos 1) a.sign
steady_within s = direction_within s.signed

pub x_steady : (e : Edge) → Steady (x_axis e)
x_steady e = record { scaled = nonneg (ay e); signed = direction (dx e) }

pub y_steady : (e : Edge) → Steady (y_axis e)
y_steady e = record { scaled = nonneg (ax e); signed = direction (dy e) }

-- ---- both ends
pub beyond_start : (a : Axis) (line : ℤ) → beyond a line (pos 0) ≡ a.scale *ℤ (a.start -ℤ line)
beyond_start a line = ring (a.scale ∷ a.start ∷ a.sign ∷ line ∷ []) (search read depth 40) tt

pub x_end : (e : Edge) (line : ℤ) → beyond (x_axis e) line (pos (steps e)) ≡ pos (ay e) *ℤ (e.x1 -ℤ line)
x_end e line =
    comb (e.x0 ∷ e.x1 ∷ line ∷ sign (dx e) ∷ pos (ax e) ∷ pos (ay e) ∷ []) (pos (ay e) ⊗ sign-extent (dx e)) (search read depth 40) tt

pub y_end : (e : Edge) (line : ℤ) → beyond (y_axis e) line (pos (steps e)) ≡ pos (ax e) *ℤ (e.y1 -ℤ line)
y_end e line =
    comb (e.y0 ∷ e.y1 ∷ line ∷ sign (dy e) ∷ pos (ax e) ∷ pos (ay e) ∷ []) (pos (ax e) ⊗ sign-extent (dy e)) (search read depth 40) tt

-- the walk is at the point p after t steps
pub past_scale : (a : Axis) (side w t p : ℤ) → pos 0 ≤ℤ a.scale → pos 0 ≤ℤ w → beyond a side t ≡ a.scale *ℤ (p -ℤ side)
    → past a side w t ≡ a.scale *ℤ clamp (p -ℤ side) (pos 0) w
past_scale a side w t p h k e = ap (λ u. clamp u (pos 0) (a.scale *ℤ w)) e ∙ clamp_scale h k (p -ℤ side)

pub near_scale : (a : Axis) (side w t p : ℤ) → pos 0 ≤ℤ a.scale → pos 0 ≤ℤ w → beyond a side t ≡ a.scale *ℤ (p -ℤ side)
    → near a side w t ≡ a.scale *ℤ tent w (p -ℤ side)
near_scale a side w t p h k e = ap (tent (a.scale *ℤ w)) e ∙ tent_scale h k (p -ℤ side)
