-- The area's numerator, from how far the walk is past the sides at the four cuts: x is held to the cell's width, and y is between the sides.
use Rattle.std.proofs.Common.{◌≡◌, pos, ◌*ℤ◌, ◌≤ℤ◌, ◌∙◌, ap₂}
use Rattle.std.proofs.Math.Path.{subst⁻¹}
use Rattle.integers.proofs.Theorems.Order.{≤ℤ-mul-nonneg}
use Rattle.integers.specs.Units.{width_times_extent_limit}
use Rattle.integers.proofs.Theorems.Bits.{result_is}
use Rattle.edge.specs.Code.{SamplesWithin, beyond_at, held_at, piece_sum}
use Rattle.edge.proofs.AxisNumbers.{beyond_within, hold_within}
use Rattle.edge.proofs.area_numerator.Goals as goal
use Rattle.edge.proofs.area_numerator.Goals.{After-past-y}

module _ (c : After-past-y) where
  x_is : c.hold_at-x.result ≡ held_at (c.args.a.axis.scale *ℤ c.args.a.width) (beyond_at c.args.a.axis c.args.a.side c.args.k)
  x_is = c.hold_at-x.ensures ∙ ap₂ held_at (result_is c.reach.type_inv c.reach.ensures) c.past.ensures

pub hold_at-x-requires : goal.hold_at-x-requires
hold_at-x-requires c =
    let r = c.args.a.room in
    subst⁻¹ (λ z. pos 0 ≤ℤ z) (result_is c.reach.type_inv c.reach.ensures) (≤ℤ-mul-nonneg r.scaled r.width)

pub pieces-requires : goal.pieces-requires
pieces-requires c =
    let u = beyond_at c.args.a.axis c.args.a.side c.args.k in (
      subst⁻¹ (SamplesWithin (pos width_times_extent_limit)) (x_is c) (hold_within c.args.a.room u),
      subst⁻¹ (SamplesWithin (pos width_times_extent_limit)) c.past-y.ensures (beyond_within c.args.b.room c.requires.1),
    )

pub returns : goal.returns
returns c =
    let b = (goal.at.returns c).After-past-y in
    result_is c.pieces.type_inv (c.pieces.ensures ∙ ap₂ piece_sum (x_is b) b.past-y.ensures)
