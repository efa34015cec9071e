-- The turned point is a multiple of 1/65,536 within the greatest placed coordinate, and its parts are `parts_at`.
use Rattle.std.proofs.Common.{◌≡◌, true, FitsSigned, w64, ℤ, ap, ◌∙◌, subst, ap₂, to_z-of_z}
use Rattle.integers.specs.Bits.{back}
use Rattle.integers.proofs.Theorems.Bits.{result_is}
use Rattle.integers.specs.Units.{parts_per_step, placed_limit}
use Rattle.std.specs.Prelude.{Float}
use Rattle.placement.specs.Parts.{Value, is_multiple, parts_of, nearest}
use Rattle.placement.specs.Placed.{parts_at}
use Rattle.placement.specs.Ready.{Ready}
use Rattle.placement.proofs.Laws.PartsOf.{value_multiple}
use Rattle.placement.proofs.Laws.Turning.{parts_at-bound}
use Rattle.placement.proofs.coordinate.Goals as goal

-- v is worked out of the coordinates as they are held
told : {a b c : Float} {x y : ℤ} → Ready a b c x y → FitsSigned w64 x → FitsSigned w64 y → (v : Float) → Value v (parts_at a b c (back x) (back y)) parts_per_step
    → (is_multiple placed_limit v ≡ true) × (parts_of v ≡ parts_at a b c x y)
told {a} {b} {c} {x} {y} r f g v h =
    value_multiple placed_limit v (parts_at a b c x y) (subst (λ (k : ℤ). Value v k parts_per_step) (ap₂ (parts_at a b c) (to_z-of_z f) (to_z-of_z g)) h) (parts_at-bound r)

pub nearest_step-requires : goal.nearest_step-requires
nearest_step-requires c = (told c.requires c.ranges.x c.ranges.y c.turned.result c.turned.ensures.value_2).0

pub returns : goal.returns
returns c =
    result_is c.nearest_step.type_inv
    (c.nearest_step.ensures ∙ ap nearest (told c.requires c.ranges.x c.ranges.y c.turned.result c.turned.ensures.value_2).1)
