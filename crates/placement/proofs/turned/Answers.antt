-- Each cast is of a whole number that a float holds, and each operation is exact.
use Rattle.std.proofs.Common.{ap₂, to_z-of_z}
use Rattle.std.proofs.Math.Path.{subst⁻¹}
use Rattle.std.specs.Prelude.{Float}
use Rattle.integers.specs.Units.{parts_per_step}
use Rattle.placement.specs.Parts.{Value}
use Rattle.placement.specs.Placed.{parts_at}
use Rattle.placement.specs.Exact as Exact
use Rattle.placement.proofs.Theorems.Exact.{every-product_and_sum_is_exact}
use Rattle.placement.proofs.turned.Goals as goal

pub returns-clause-value_2 : goal.returns-clause-value_2
returns-clause-value_2 c =
    let p = c.args in
    let same = ap₂ (Exact.turned p.r.a p.r.b p.r.c) (to_z-of_z c.ranges.x) (to_z-of_z c.ranges.y) in
    subst⁻¹ (λ (v : Float). Value v (parts_at p.r.a p.r.b p.r.c p.x p.y) parts_per_step) same (every-product_and_sum_is_exact c.requires).second_sum
