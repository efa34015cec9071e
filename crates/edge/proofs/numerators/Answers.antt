-- The numerators of h, v and d, from how far the walk is past the sides at the four cuts. Between the sides all of that stays within its limit.
use Rattle.std.proofs.Common.{◌≡◌, ◌*◌, ℤ, pos, ◌-ℤ◌, ◌*ℤ◌, ◌∙◌, ap, ap₂}
use Rattle.std.proofs.Math.Path.{subst⁻¹}
use Rattle.integers.specs.Units.{width_times_extent_limit}
use Rattle.integers.proofs.Theorems.Machine.{known}
use Rattle.integers.specs.Within.{Within}
use Rattle.integers.specs.Bits.{back}
use Rattle.integers.proofs.Theorems.Bits.{result_is}
use Rattle.integers.specs.Held.{Held}
use Rattle.integers.proofs.Theorems.Held.{held_fits, held-neg}
use Rattle.edge.specs.declared.Axis.{Axis}
use Rattle.edge.specs.declared.Samples.{Samples}
use Rattle.edge.specs.Code.{AxisRoom, SamplesWithin, SamplesClosed, beyond_at, near_at, piece_sum}
use Rattle.edge.proofs.Lemmas.Records.{details-eq}
use Rattle.edge.proofs.AxisNumbers.{width_within, beyond_within, near_within}
use Rattle.edge.proofs.PieceBounds.{piece_limit, piece_sum_within}
use Rattle.edge.proofs.numerators.Goals as goal
use Rattle.edge.proofs.numerators.Goals.{After-near_at-ny, After-pieces-2}

-- ---- one direction, its numbers read back
abbrev Bounded : Samples → Type 0
Bounded s = SamplesWithin (pos width_times_extent_limit) s

-- at the cuts u is how far the direction is past its side, and v how far from the nearer side
record Found (a : Axis) (side w : ℤ) (k u v : Samples) : Type 0 where
  past : u ≡ beyond_at a side k
  past_bound : Bounded u
  near : v ≡ near_at (a.scale *ℤ w) (beyond_at a side k)
  near_bound : Bounded v

module _ {a : Axis} {side w : ℤ} (r : AxisRoom a side w) {k : Samples} (c : SamplesClosed a side w k) {u : Samples} (e : u ≡ beyond_at a side k) where
  past_within : Bounded u
  past_within = subst⁻¹ Bounded e (beyond_within r c)

  -- m: the width in its scale, read back
  found : {v : Samples} {m : ℤ} → m ≡ a.scale *ℤ w → v ≡ near_at m u → Found a side w k u v
  found {v} f h =
      let i : v ≡ near_at (a.scale *ℤ w) (beyond_at a side k) = h ∙ ap₂ near_at f e in
      record { past = e; past_bound = past_within; near = i; near_bound = subst⁻¹ Bounded i (near_within r c) }

pub near_at-nx-requires : goal.near_at-nx-requires
near_at-nx-requires c =
    let r = c.args.a.room in
    (subst⁻¹ (Within (pos width_times_extent_limit)) (result_is c.reach.type_inv c.reach.ensures) (width_within r), past_within r c.requires.1 c.past-x.ensures)

pub near_at-ny-requires : goal.near_at-ny-requires
near_at-ny-requires c =
    let r = c.args.b.room in
    (subst⁻¹ (Within (pos width_times_extent_limit)) (result_is c.reach-2.type_inv c.reach-2.ensures) (width_within r), past_within r c.requires.2 c.past-y.ensures)

-- ---- both directions
module _ (c : After-near_at-ny) where
  x : Found c.args.a.axis c.args.a.side c.args.a.width c.args.k c.past-x.result c.near_at-nx.result
  x = found c.args.a.room c.requires.1 c.past-x.ensures (result_is c.reach.type_inv c.reach.ensures) c.near_at-nx.ensures

  y : Found c.args.b.axis c.args.b.side c.args.b.width c.args.k c.past-y.result c.near_at-ny.result
  y = found c.args.b.room c.requires.2 c.past-y.ensures (result_is c.reach-2.type_inv c.reach-2.ensures) c.near_at-ny.ensures

pub pieces-requires : goal.pieces-requires
pieces-requires c = ((x c).near_bound, (y c).past_bound)

pub pieces-requires-2 : goal.pieces-requires-2
pieces-requires-2 c = let n = (goal.at.pieces-requires-2 c).After-near_at-ny in ((y n).near_bound, (x n).past_bound)

-- the sum of v, whose sign is turned
v_held : (c : After-pieces-2) → Held (3 * piece_limit) (back c.pieces-2.result) (piece_sum c.near_at-ny.result c.past-x.result)
v_held c =
    let n = (goal.at.overflow_sub-result c).After-near_at-ny in
    record { is = result_is c.pieces-2.type_inv c.pieces-2.ensures; within = piece_sum_within (y n).near_bound (x n).past_bound }

pub overflow_sub-result : goal.overflow_sub-result
overflow_sub-result c = held_fits tt (held-neg (v_held c))

pub pieces-requires-3 : goal.pieces-requires-3
pieces-requires-3 c = let n = (goal.at.pieces-requires-3 c).After-near_at-ny in ((x n).near_bound, (y n).near_bound)

pub returns : goal.returns
returns c =
    let n = (goal.at.returns c).After-near_at-ny in
    let v = v_held (goal.at.returns c).After-pieces-2 in
    details-eq (result_is c.pieces.type_inv (c.pieces.ensures ∙ ap₂ piece_sum (x n).near (y n).past))
    (known (held_fits tt (held-neg v)) (ap (λ z. pos 0 -ℤ z) (v.is ∙ ap₂ piece_sum (y n).near (x n).past)))
    (result_is c.pieces-3.type_inv (c.pieces-3.ensures ∙ ap₂ piece_sum (x n).near (y n).near))
