-- A walk of an edge that has room in a cell has room there in each direction.
--
-- Main results
--   x_room, y_room                  each direction of the walk
--   narrower_room, half_room        for a smaller width, as half of it is
--   back-room, rooms                for numbers that are read back; of a walk, as `search` finds it
--   steps_within                    the number of steps
--   divisor_pos, divisor_within     what the numerators are divided by
use mathlib.Core.Path.{◌≡◌, sym, ◌∙◌, ap, subst⁻¹}
use mathlib.Core.List.{[], ◌∷◌}
use native.Mathlib.Nat.{max-le}
use native.Mathlib.Omega.{arith}
use lib.IntN.{ℤ, pos, ◌+ℤ◌, ◌-ℤ◌, ◌*ℤ◌}
use lib.Signed.{◌≤ℤ◌, ◌<ℤ◌}
use mir.Syntax.{w64}
use mir.Val.{SFits}
use mir.Facts.{to_z-of_z}
use Rattle.integers.specs.Units.{width_times_extent_limit}
use Rattle.integers.proofs.Theorems.Order.{pos-≤ℤ, ≤_of_pos, nonneg, positive, ≤ℤ-mul, ≤ℤ_trans}
use Rattle.integers.proofs.Theorems.Linear.{le, eq, ◌&◌, none!, linear, lin≤}
use Rattle.integers.specs.Within.{Within}
use Rattle.integers.proofs.Theorems.Within.{within_le, within_mul, within_self}
use Rattle.edge.specs.declared.Axis.{Axis}
use Rattle.edge.specs.declared.Cell.{Cell}
use Rattle.edge.specs.Walk.{extent, sign, dx, dy}
use Rattle.edge.proofs.Laws.StepCount.{steps_pos}
use Rattle.edge.proofs.Lemmas.Ends.{direction, direction_within}
use Rattle.edge.specs.Octilinear.{unit_steps}
use Rattle.edge.specs.Room.{coordinate_limit, extent_limit, crossing_limit, Measured, Room}
use Rattle.edge.specs.Code.{AxisRoom}
use Rattle.edge.specs.WalkOf.{Course, IsWalk, fine, unit}
use Rattle.integers.specs.Bits.{back}
use Rattle.integers.proofs.Theorems.Bits.{back_is, fits_within}
use Rattle.edge.proofs.Sizes.{difference, extent_within, width≥0, width_high, width_within}

-- ---- one direction
extent-range : {p q : ℤ} → Within (pos coordinate_limit) p → Within (pos coordinate_limit) q → Within (pos extent_limit) (pos (extent (q -ℤ p)))
extent-range {p} {q} i j = extent_within (q -ℤ p) (difference i j).within

unit_room : (d : ℤ) {start side w : ℤ} → Within (pos coordinate_limit) start → Within (pos coordinate_limit) side → pos 0 ≤ℤ w → w ≤ℤ pos width_times_extent_limit
    → AxisRoom (record { scale = pos 1; start = start; sign = sign d }) side w
unit_room d {start} {side} {w} i j h k = record {
  scaled = nonneg 1;
  scale = lin≤ [] none! (search linear depth 40) tt;
  signed = direction_within (direction d);
  start = i;
  line = j;
  width = h;
  wide = lin≤ (w ∷ []) (le k) (search linear depth 40) tt;
}

-- scaled by the extent of the other direction, which goes from u to v
fine_room : (d : ℤ) {u v start side w : ℤ} → Within (pos coordinate_limit) u → Within (pos coordinate_limit) v → Within (pos coordinate_limit) start → Within (pos coordinate_limit) side
    → pos 0 ≤ℤ w → (pos (extent (v -ℤ u)) *ℤ w) ≤ℤ pos width_times_extent_limit → AxisRoom (record { scale = pos (extent (v -ℤ u)); start = start; sign = sign d }) side w
fine_room d {u} {v} i j k l h p = record {
  scaled = nonneg (extent (v -ℤ u));
  scale = (extent-range i j).high;
  signed = direction_within (direction d);
  start = k;
  line = l;
  width = h;
  wide = p;
}

pub x_room : {w : Course} {c : Cell} → IsWalk w → Room w.edge c → AxisRoom w.x c.left c.width
x_room {w} {c} (fine o e) r = subst⁻¹ (λ (z : Course). AxisRoom z.x c.left c.width) e (fine_room (dx w.edge) r.edge.y0 r.edge.y1 r.edge.x0 r.left (width≥0 r) r.tall)
x_room {w} {c} (unit s e) r = subst⁻¹ (λ (z : Course). AxisRoom z.x c.left c.width) e (unit_room (dx w.edge) r.edge.x0 r.left (width≥0 r) (width_high r))

pub y_room : {w : Course} {c : Cell} → IsWalk w → Room w.edge c → AxisRoom w.y c.top c.width
y_room {w} {c} (fine o e) r = subst⁻¹ (λ (z : Course). AxisRoom z.y c.top c.width) e (fine_room (dy w.edge) r.edge.x0 r.edge.x1 r.edge.y0 r.top (width≥0 r) r.wide)
y_room {w} {c} (unit s e) r = subst⁻¹ (λ (z : Course). AxisRoom z.y c.top c.width) e (unit_room (dy w.edge) r.edge.y0 r.top (width≥0 r) (width_high r))

pub narrower_room : {a : Axis} {side w v : ℤ} → pos 0 ≤ℤ v → v ≤ℤ w → AxisRoom a side w → AxisRoom a side v
narrower_room {a} {w = w} {v} h k r = record {
  scaled = r.scaled;
  scale = r.scale;
  signed = r.signed;
  start = r.start;
  line = r.line;
  width = h;
  wide = lin≤ (a.scale ∷ v ∷ w ∷ []) (le (≤ℤ-mul r.scaled k) & le r.wide) (search linear depth 40) tt;
}

pub half_room : {a : Axis} {side w half : ℤ} → w ≡ half +ℤ half → pos 0 ≤ℤ half → AxisRoom a side w → AxisRoom a side half
half_room {w = w} {half} e h r = narrower_room h (lin≤ (half ∷ w ∷ []) (eq e & le h) (search linear depth 40) tt) r

pub back-room : {a : Axis} {side w : ℤ} → SFits w64 side → SFits w64 w → AxisRoom a side w → AxisRoom a (back side) (back w)
back-room {a} {side} {w} f g r = subst⁻¹ (λ z. AxisRoom a z (back w)) (to_z-of_z f) (subst⁻¹ (AxisRoom a side) (to_z-of_z g) r)

module _ {w : Course} {c : Cell} (k : IsWalk w) (r : Room w.edge c) where
  pub x_room-back : AxisRoom w.x (back c.left) (back c.width)
  x_room-back = back-room (fits_within tt r.left) (fits_within tt (width_within r)) (x_room k r)

  pub y_room-back : AxisRoom w.y (back c.top) (back c.width)
  y_room-back = back-room (fits_within tt r.top) (fits_within tt (width_within r)) (y_room k r)

  -- for a width of 0
  pub x_side_back : AxisRoom w.x (back c.left) (pos 0)
  x_side_back = subst⁻¹ (λ z. AxisRoom w.x z (pos 0)) (back_is tt r.left) (narrower_room (nonneg 0) (width≥0 r) (x_room k r))

-- What a call asks of one direction. Where it is handed the other one, what is refused is what the caller says of the answer.
pub ruleset rooms = (x_room-back, y_room-back, x_side_back)

-- ---- the steps
pub steps_within : {w : Course} → IsWalk w → Measured w.edge → Within (pos crossing_limit) w.steps
steps_within {w} (fine o e) m =
    subst⁻¹ (λ (z : Course). Within (pos crossing_limit) z.steps) e
    (within_le (lin≤ [] none! (search linear depth 40) tt) (within_mul (extent-range m.x0 m.x1) (extent-range m.y0 m.y1)))
steps_within {w} (unit s e) m =
    subst⁻¹ (λ (z : Course). Within (pos crossing_limit) z.steps) e
    (within_le (≤ℤ_trans (pos-≤ℤ (max-le (≤_of_pos (extent-range m.x0 m.x1).high) (≤_of_pos (extent-range m.y0 m.y1).high))) (lin≤ [] none! (search linear depth 40) tt))
    (within_self (nonneg (unit_steps w.edge))))

pub divisor_pos : {w : Course} → IsWalk w → pos 0 <ℤ w.divisor
divisor_pos {w} (fine o e) = subst⁻¹ (λ (z : Course). pos 0 <ℤ z.divisor) e (positive (steps_pos w.edge))
divisor_pos {w} (unit s e) = subst⁻¹ (λ (z : Course). pos 0 <ℤ z.divisor) e (positive {n = 1} (omega arith))

pub divisor_within : {w : Course} → IsWalk w → Measured w.edge → Within (pos crossing_limit) w.divisor
divisor_within {w} (fine o e) m =
    let same : w.divisor ≡ w.steps = ap (λ (z : Course). z.divisor) e ∙ sym (ap (λ (z : Course). z.steps) e) in
    subst⁻¹ (Within (pos crossing_limit)) same (steps_within (fine o e) m)
divisor_within {w} (unit s e) m =
    subst⁻¹ (λ (z : Course). Within (pos crossing_limit) z.divisor) e (within_le (lin≤ [] none! (search linear depth 40) tt) (within_self (nonneg 1)))
