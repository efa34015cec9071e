-- What an edge's walk is like, and in which ranges its numbers lie where the edge has room in a cell.
--
-- Main results
--   walk_steady             scales that are not negative, and signs
--   moving-walk             where neither sign is 0, both directions move
--   WalkRoom, walk-room     the ranges of a walk in a cell
use Rattle.std.specs.Prelude.{◌≡◌, refl, [], ◌∷◌, ℤ, pos, ◌-ℤ◌, ◌*ℤ◌, ◌≤ℤ◌, ◌<ℤ◌}
use Rattle.std.proofs.Math.Path.{subst⁻¹}
use Rattle.std.proofs.Math.Nat.{max-le}
use Rattle.std.proofs.Common.{arith}
use Rattle.integers.specs.Units.{width_times_extent_limit}
use Rattle.integers.proofs.Theorems.Order.{pos-≤ℤ, ≤_of_pos, nonneg, positive, add_one_≤ℤ, ≤ℤ-mul, ≤ℤ_trans}
use Rattle.integers.proofs.Theorems.Linear.{le, eq, ◌&◌, none!, linear, lin≤}
use Rattle.integers.specs.Within.{Within}
use Rattle.integers.proofs.Theorems.Within.{within_sub, within_mul, within_self, within_le}
use Rattle.edge.specs.declared.Axis.{Axis}
use Rattle.edge.specs.declared.Cell.{Cell}
use Rattle.edge.specs.declared.Edge.{Edge}
use Rattle.edge.specs.Walk.{extent, dx, dy, ax, ay, steps}
use Rattle.edge.specs.Octilinear.{unit_steps}
use Rattle.edge.specs.Room.{coordinate_limit, extent_limit, crossing_limit, Room}
use Rattle.edge.specs.Code.{AxisRoom}
use Rattle.edge.specs.WalkOf.{Course, IsWalk, fine, unit, fine_walk, unit_walk}
use Rattle.edge.proofs.Laws.StepCount.{extent-pos, steps_pos}
use Rattle.edge.proofs.Laws.Cells.{extent_at_most}
use Rattle.edge.proofs.Laws.WalkInside.{unit_x_steady, unit_y_steady}
use Rattle.edge.proofs.Lemmas.Ends.{Direction, forward, still, backward, direction, direction_within, Steady, x_steady, y_steady}
use Rattle.slanted.specs.Pieces.{Moving, onward, back}

-- ---- scales and signs
pub walk_steady : {w : Course} → IsWalk w → Steady w.x × Steady w.y
walk_steady {w} (fine o e) = subst⁻¹ (λ (z : Course). Steady z.x × Steady z.y) e (x_steady w.edge, y_steady w.edge)
walk_steady {w} (unit s e) = subst⁻¹ (λ (z : Course). Steady z.x × Steady z.y) e (unit_x_steady w.edge, unit_y_steady w.edge)

moving : {a : Axis} → Steady a → (a.sign ≡ pos 0 → ⊥) → Moving a
moving {a} s n = go s.signed refl
  where
    go : {s : ℤ} → Direction s → a.sign ≡ s → Moving a
    go forward e = onward e
    go still e = absurd (n e)
    go backward e = back e

pub moving-walk : {w : Course} → IsWalk w → (w.x.sign ≡ pos 0 → ⊥) → (w.y.sign ≡ pos 0 → ⊥) → Moving w.x × Moving w.y
moving-walk k i j = let s = walk_steady k in (moving s.0 i, moving s.1 j)

-- ---- ranges
pub record WalkRoom (c : Cell) (w : Course) : Type 0 where
  pub x : AxisRoom w.x c.left c.width
  pub y : AxisRoom w.y c.top c.width
  pub steps : w.steps ≤ℤ pos crossing_limit
  pub above : pos 0 <ℤ w.divisor
  pub limit : w.divisor ≤ℤ pos crossing_limit

module _ {e : Edge} {c : Cell} (r : Room e c) where
  width≥0 : pos 0 ≤ℤ c.width
  width≥0 = let h = r.even in lin≤ (c.width ∷ h.half ∷ []) (le h.half≥0 & eq h.twice) (search linear depth 40) tt

  -- an extent is at least 1
  width_high : (pos 1 *ℤ c.width) ≤ℤ pos width_times_extent_limit
  width_high =
      lin≤ (c.width ∷ pos (ax e) ∷ []) (le r.wide & le (≤ℤ-mul (add_one_≤ℤ (positive (extent-pos (dx e)))) width≥0)) (search linear depth 40) tt

  extent_high : {u v : ℤ} → Within (pos coordinate_limit) u → Within (pos coordinate_limit) v → pos (extent (v -ℤ u)) ≤ℤ pos extent_limit
  extent_high {u} {v} i j = extent_at_most (v -ℤ u) (lin≤ [] none! (search linear depth 40) tt) (within_sub j i)

  ax_high : pos (ax e) ≤ℤ pos extent_limit
  ax_high = extent_high r.edge.x0 r.edge.x1

  ay_high : pos (ay e) ≤ℤ pos extent_limit
  ay_high = extent_high r.edge.y0 r.edge.y1

  steps_high : pos (steps e) ≤ℤ pos crossing_limit
  steps_high =
      ≤ℤ_trans (within_mul (within_le ax_high (within_self (nonneg (ax e)))) (within_le ay_high (within_self (nonneg (ay e))))).high
      (lin≤ [] none! (search linear depth 40) tt)

  unit_high : pos (unit_steps e) ≤ℤ pos crossing_limit
  unit_high = ≤ℤ_trans (pos-≤ℤ (max-le (≤_of_pos ax_high) (≤_of_pos ay_high))) (lin≤ [] none! (search linear depth 40) tt)

  fine_room : WalkRoom c (fine_walk e)
  fine_room = record {
    x = record {
      scaled = nonneg (ay e);
      scale = ay_high;
      signed = direction_within (direction (dx e));
      start = r.edge.x0;
      line = r.left;
      width = width≥0;
      wide = r.tall;
    };
    y = record {
      scaled = nonneg (ax e);
      scale = ax_high;
      signed = direction_within (direction (dy e));
      start = r.edge.y0;
      line = r.top;
      width = width≥0;
      wide = r.wide;
    };
    steps = steps_high;
    above = positive (steps_pos e);
    limit = steps_high;
  }

  one_high : pos 1 ≤ℤ pos extent_limit
  one_high = lin≤ [] none! (search linear depth 40) tt

  unit_room : WalkRoom c (unit_walk e)
  unit_room = record {
    x = record {
      scaled = nonneg 1;
      scale = one_high;
      signed = direction_within (direction (dx e));
      start = r.edge.x0;
      line = r.left;
      width = width≥0;
      wide = width_high;
    };
    y = record {
      scaled = nonneg 1;
      scale = one_high;
      signed = direction_within (direction (dy e));
      start = r.edge.y0;
      line = r.top;
      width = width≥0;
      wide = width_high;
    };
    steps = unit_high;
    above = positive {n = 1} (omega arith);
    limit = lin≤ [] none! (search linear depth 40) tt;
  }

pub walk-room : {w : Course} {c : Cell} → IsWalk w → Room w.edge c → WalkRoom c w
walk-room {c = c} (fine o e) r = subst⁻¹ (WalkRoom c) e (fine_room r)
walk-room {c = c} (unit s e) r = subst⁻¹ (WalkRoom c) e (unit_room r)
