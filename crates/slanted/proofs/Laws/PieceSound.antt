-- What the functions ask of a slanted walk in a cell holds where the edge has room there.
--
-- Main results
--   half_within             half of the width in the steps of one direction
--   piece_sound             what `details_of` asks, of a walk that comes strictly inside
--   sound_ranged            and so what `part_of` asks
--   piece_even              half of a width in steps is even where half of the width is
use Rattle.std.specs.Prelude.{◌≡◌, [], ◌∷◌, ℤ, pos, ◌+ℤ◌, ◌-ℤ◌, ◌*ℤ◌, ◌≤ℤ◌, ◌<ℤ◌}
use Rattle.std.proofs.Common.{◌∙◌, ap}
use Rattle.std.proofs.Math.Path.{subst⁻¹}
use Rattle.integers.proofs.Theorems.Ring.{read, ring}
use Rattle.integers.specs.Units.{width_times_extent_limit}
use Rattle.integers.proofs.Theorems.Order.{≤ℤ_trans, ≤ℤ_of_<ℤ, ≤ℤ-mul-nonneg}
use Rattle.integers.proofs.Theorems.Linear.{le, eq, ◌&◌, linear, lin≤}
use Rattle.integers.proofs.Theorems.MinMax.{min-≤ˡ, max-≥ˡ}
use Rattle.integers.specs.Within.{Within}
use Rattle.integers.proofs.Theorems.Within.{bounds}
use Rattle.edge.specs.declared.Axis.{Axis}
use Rattle.edge.specs.declared.Cell.{Cell}
use Rattle.edge.specs.Walk.{steps, x_axis, y_axis}
use Rattle.edge.specs.Cuts.{to_middle}
use Rattle.edge.specs.Octilinear.{unit_x, unit_y, unit_steps}
use Rattle.edge.specs.Room.{crossing_limit, Even, Room}
use Rattle.edge.specs.Code.{Closed, AxisRoom}
use Rattle.edge.specs.WalkOf.{Course, IsWalk, fine, unit}
use Rattle.edge.proofs.Lemmas.Ends.{x_steady, y_steady}
use Rattle.edge.proofs.Laws.WalkInside.{unit_x_steady, unit_y_steady}
use Rattle.slanted.specs.declared.Slope.{Slope}
use Rattle.slanted.specs.declared.Piece.{Piece}
use Rattle.slanted.specs.Under.{far_limit, Arch}
use Rattle.slanted.specs.Pieces.{Moving, slope_of, piece_of, Sound, Ranged}
use Rattle.slanted.proofs.Laws.Tents.{within_peak}
use Rattle.slanted.proofs.Laws.SlantedSums.{first_closed, last_closed}
use Rattle.slanted.proofs.Laws.Walks.{walk-room, walk_steady}

-- ---- one direction, between its sides from u to v
pub half_within : {a : Axis} {side w : ℤ} (half : ℤ) → w ≡ half +ℤ half → pos 0 ≤ℤ half → AxisRoom a side w → Within (pos width_times_extent_limit) (a.scale *ℤ half)
half_within {a} {side} {w} half even hh r = small (a.scale *ℤ half) (≤ℤ-mul-nonneg r.scaled hh) twice r.wide
  where
    twice : a.scale *ℤ w ≡ a.scale *ℤ half +ℤ a.scale *ℤ half
    twice = ap (λ z. a.scale *ℤ z) even ∙ ring (a.scale ∷ half ∷ []) (search read depth 40) tt

    small : (p : ℤ) {q : ℤ} → pos 0 ≤ℤ p → q ≡ p +ℤ p → q ≤ℤ pos width_times_extent_limit → Within (pos width_times_extent_limit) p
    small p {q} k e l = record {
      low = lin≤ (p ∷ []) (le k) (search linear depth 40) tt;
      high = lin≤ (p ∷ q ∷ []) (le k & eq e & le l) (search linear depth 40) tt;
    }

arch_of : {a : Axis} → Moving a → (side half : ℤ) {w u v : ℤ} → w ≡ half +ℤ half → pos 0 ≤ℤ half → AxisRoom a side w → u ≤ℤ v → Closed a side w u → Closed a side w v
    → Within (pos crossing_limit) u → Within (pos crossing_limit) v → Arch (a.scale *ℤ half) (to_middle a side half) u v
arch_of {a} mv side half {w} {u} {v} even hh r h i j f t = record {
  order = h;
  peak = peak;
  start = start;
  end = within_peak mv side half even j;
  middle = far (a.scale *ℤ half) u (to_middle a side half) peak f start;
  from = f;
  to = t;
}
  where
    start : Within (a.scale *ℤ half) (u -ℤ to_middle a side half)
    start = within_peak mv side half even i

    peak : Within (pos width_times_extent_limit) (a.scale *ℤ half)
    peak = half_within half even hh r

    far : (p u m : ℤ) → Within (pos width_times_extent_limit) p → Within (pos crossing_limit) u → Within p (u -ℤ m) → Within (pos far_limit) m
    far p u m i j k = record {
      low = lin≤ (p ∷ u ∷ m ∷ []) (bounds i & bounds j & bounds k) (search linear depth 40) tt;
      high = lin≤ (p ∷ u ∷ m ∷ []) (bounds i & bounds j & bounds k) (search linear depth 40) tt;
    }

-- ---- both, from the first step inside to the last
record Ends (c : Cell) (half : ℤ) (z : Course) : Type 0 where
  first : Closed z.x c.left c.width (piece_of z c half).first × Closed z.y c.top c.width (piece_of z c half).first
  last : Closed z.x c.left c.width (piece_of z c half).last × Closed z.y c.top c.width (piece_of z c half).last

ends_closed : {w : Course} → IsWalk w → (c : Cell) (half : ℤ) → c.width ≡ half +ℤ half → pos 0 ≤ℤ half → (piece_of w c half).first <ℤ (piece_of w c half).last → Ends c half w
ends_closed {w} (fine o e) c half even hh =
    subst⁻¹ (λ z. (piece_of z c half).first <ℤ (piece_of z c half).last → Ends c half z) e
    (λ inside. record {
      first = first_closed (x_axis w.edge) (y_axis w.edge) (x_steady w.edge) (y_steady w.edge) c half even hh (steps w.edge) inside;
      last = last_closed (x_axis w.edge) (y_axis w.edge) (x_steady w.edge) (y_steady w.edge) c half even hh (steps w.edge) inside;
    })
ends_closed {w} (unit s e) c half even hh =
    subst⁻¹ (λ z. (piece_of z c half).first <ℤ (piece_of z c half).last → Ends c half z) e
    (λ inside. record {
      first = first_closed (unit_x w.edge) (unit_y w.edge) (unit_x_steady w.edge) (unit_y_steady w.edge) c half even hh (unit_steps w.edge) inside;
      last = last_closed (unit_x w.edge) (unit_y w.edge) (unit_x_steady w.edge) (unit_y_steady w.edge) c half even hh (unit_steps w.edge) inside;
    })

-- steps of the walk
between : {u v n : ℤ} → pos 0 ≤ℤ u → u ≤ℤ v → v ≤ℤ n → n ≤ℤ pos crossing_limit → Within (pos crossing_limit) u × Within (pos crossing_limit) v
between {u} {v} {n} h i j k = (
  record { low = lin≤ (u ∷ []) (le h) (search linear depth 40) tt; high = ≤ℤ_trans i (≤ℤ_trans j k) },
  record { low = lin≤ (u ∷ v ∷ []) (le h & le i) (search linear depth 40) tt; high = ≤ℤ_trans j k },
)

pub piece_sound : {w : Course} → IsWalk w → Moving w.x → Moving w.y → (c : Cell) (half : ℤ) → Room w.edge c → c.width ≡ half +ℤ half → pos 0 ≤ℤ half
    → (piece_of w c half).first <ℤ (piece_of w c half).last → Sound (slope_of w) (piece_of w c half)
piece_sound {w} k ma mb c half r even hh inside =
    let room = walk-room k r in
    let ends = ends_closed k c half even hh inside in
    let order = ≤ℤ_of_<ℤ inside in
    let steps = between (max-≥ˡ (pos 0) _) order (min-≤ˡ w.steps _) room.steps in
    record {
      above = room.above;
      limit = room.limit;
      x = room.x.signed;
      y = room.y.signed;
      arch_x = arch_of ma c.left half even hh room.x order ends.first.0 ends.last.0 steps.0 steps.1;
      arch_y = arch_of mb c.top half even hh room.y order ends.first.1 ends.last.1 steps.0 steps.1;
    }

-- ---- for its parts
pub sound_ranged : {l : Slope} {k : Piece} → Sound l k → Ranged k
sound_ranged s = record { half_x_lem = s.arch_x.peak; half_y_lem = s.arch_y.peak; middle_x_lem = s.arch_x.middle; middle_y_lem = s.arch_y.middle }

even_times : {k half : ℤ} (q : ℤ) → pos 0 ≤ℤ k → half ≡ q +ℤ q → pos 0 ≤ℤ q → Even (k *ℤ half)
even_times {k} {half} q h e n =
    record { half = k *ℤ q; half≥0 = ≤ℤ-mul-nonneg h n; twice = ap (λ z. k *ℤ z) e ∙ ring (k ∷ q ∷ []) (search read depth 40) tt }

pub piece_even : {w : Course} → IsWalk w → (c : Cell) {half : ℤ} (q : ℤ) → half ≡ q +ℤ q → pos 0 ≤ℤ q
    → Even (piece_of w c half).half_x × Even (piece_of w c half).half_y
piece_even k c q e h = let s = walk_steady k in (even_times q s.0.scaled e h, even_times q s.1.scaled e h)
