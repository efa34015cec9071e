-- A drawn area, which is a figure over 4^level, beside the exact area: a figure that is near to 4^level times an area is near to that area: by at most
-- a quarter of a square step for each edge.
--
-- Main results
--   area_within                  where twice the figure's miss is at most as many units as there are cells, for each edge
--   miss_limit_cells             and 01's limit is less than that
use Rattle.std.specs.Prelude.{◌≡◌, [], ◌∷◌, ℕ, ◌*◌, ◌-◌, ◌^◌, ◌≤◌, ℤ, pos, ◌-ℤ◌, ◌*ℤ◌, ◌≤ℤ◌}
use Rattle.std.proofs.Common.{sym, ◌∙◌, ap, subst, arith, mul_comm, mul_assoc, mul-one, mul-le-mul_right, le_trans, le_of_eq}
use Rattle.integers.specs.Units.{units_per_half_square_step}
use Rattle.integers.proofs.Theorems.Ring.{read, ring}
use Rattle.integers.proofs.Theorems.Order.{≤ℤ_trans, pos-≤ℤ}
use Rattle.integers.specs.Magnitude.{abs}
use Rattle.accuracy.specs.Accurate.{twice_miss_limit}
use Rattle.tile.specs.Faithful.{WithinQuarterSquareSteps}

pub area_within : (figure area : ℤ) (cells den limit edges : ℕ) → limit ≤ cells * edges
    → (pos 2 *ℤ abs (figure *ℤ pos den -ℤ pos cells *ℤ area)) ≤ℤ pos (limit * den) → WithinQuarterSquareSteps edges figure cells area den
area_within figure area cells den limit edges few near =
    let turned : figure *ℤ pos den -ℤ pos cells *ℤ area ≡ figure *ℤ pos den -ℤ area *ℤ pos cells =
    ring (figure ∷ pos den ∷ pos cells ∷ area ∷ []) (search read depth 40) tt in
    let product : cells * edges * den ≡ edges * units_per_half_square_step * (cells * den) =
    ap (λ n. n * den) (mul_comm cells edges) ∙ mul_assoc edges cells den ∙ ap (λ n. n * (cells * den)) (sym (mul-one edges)) in
    ≤ℤ_trans (subst (λ z. (pos 2 *ℤ abs z) ≤ℤ pos (limit * den)) turned near) (pos-≤ℤ (le_trans (mul-le-mul_right den few) (le_of_eq product)))

pub miss_limit_cells : (level edges : ℕ) → twice_miss_limit level edges ≤ 4 ^ level * edges
miss_limit_cells level edges = mul-le-mul_right edges (less (4 ^ level))
  where
    less : (n : ℕ) → n - 1 ≤ n
    less n = omega arith
