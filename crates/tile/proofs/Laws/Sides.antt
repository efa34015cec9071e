-- What question 1's yes says of a side: it is 2 to the power of its depth, and no greater than the greatest.
--
-- Main results
--   side_cases                 what holds of 1, 2, 4, 8, 16, 32 and 64 holds of every side
--   side_power                 a side is 2^depth
--   side_depth, side_le        its depth is one of a tile's, and so is the side
--   square_injective           a number is known by its square
--   side_cells                 a tile has as many pixels as its deepest level has cells
use Rattle.std.specs.Prelude.{◌≡◌, refl, true, [], ◌∷◌, ℕ, ◌*◌, ◌^◌, ◌<◌, ◌≤◌}
use Rattle.std.proofs.Common.{◌∙◌, ap, inl, inr, mul-le-mul_left, mul-lt-mul_of_pos_right, arith, lit≤}
use Rattle.std.proofs.Math.Path.{subst⁻¹}
use Rattle.std.proofs.Math.Decide.{dec_lt}
use Rattle.std.specs.Int.Count.{count_trailing_zeros}
use Rattle.integers.specs.Units.{greatest_depth, greatest_side}
use Rattle.haar.specs.Cells.{children}
use Rattle.haar.specs.Plane.{dimensions}
use Rattle.haar.proofs.Laws.Cells.{level_square}
use Rattle.tile.specs.Questions.{depth_of, question1}
use Rattle.integers.specs.Tests.{OneOf}
use Rattle.integers.proofs.Theorems.Tests.{one_of_means}

pub side_cases : (P : ℕ → Type 0) → P 1 → P 2 → P 4 → P 8 → P 16 → P 32 → P 64 → (side : ℕ) → (question1 side).answer ≡ true → P side
side_cases P p₁ p₂ p₄ p₈ p₁₆ p₃₂ p₆₄ side e = go ((one_of_means side (1 ∷ 2 ∷ 4 ∷ 8 ∷ 16 ∷ 32 ∷ 64 ∷ [])).0 e)
  where
    go : OneOf side (1 ∷ 2 ∷ 4 ∷ 8 ∷ 16 ∷ 32 ∷ 64 ∷ []) → P side
    go (inl q) = subst⁻¹ P q p₁
    go (inr (inl q)) = subst⁻¹ P q p₂
    go (inr (inr (inl q))) = subst⁻¹ P q p₄
    go (inr (inr (inr (inl q)))) = subst⁻¹ P q p₈
    go (inr (inr (inr (inr (inl q))))) = subst⁻¹ P q p₁₆
    go (inr (inr (inr (inr (inr (inl q)))))) = subst⁻¹ P q p₃₂
    go (inr (inr (inr (inr (inr (inr (inl q))))))) = subst⁻¹ P q p₆₄
    go (inr (inr (inr (inr (inr (inr (inr n))))))) = absurd n

pub side_power : (side : ℕ) → (question1 side).answer ≡ true → side ≡ 2 ^ depth_of side
unfolding count_trailing_zeros
side_power = side_cases (λ side. side ≡ 2 ^ depth_of side) refl refl refl refl refl refl refl

pub side_depth : (side : ℕ) → (question1 side).answer ≡ true → depth_of side ≤ greatest_depth
unfolding count_trailing_zeros
side_depth = side_cases (λ side. depth_of side ≤ greatest_depth) (lit≤ tt) (lit≤ tt) (lit≤ tt) (lit≤ tt) (lit≤ tt) (lit≤ tt) (lit≤ tt)

pub side_le : (side : ℕ) → (question1 side).answer ≡ true → side ≤ greatest_side
side_le = side_cases (λ side. side ≤ greatest_side) (lit≤ tt) (lit≤ tt) (lit≤ tt) (lit≤ tt) (lit≤ tt) (lit≤ tt) (lit≤ tt)

pub side_cells : (side : ℕ) → (question1 side).answer ≡ true → side * side ≡ children dimensions ^ depth_of side
side_cells side e = ap (λ s. s * s) (side_power side e) ∙ level_square (depth_of side)

squares_apart : {m n : ℕ} → m < n → m * m < n * n
squares_apart {m} {n} h =
    let below : m * m ≤ m * n = mul-le-mul_left m (omega arith) in
    let above : m * n < n * n = mul-lt-mul_of_pos_right h (omega arith) in
    omega (arith, below, above)

pub square_injective : (m n : ℕ) → m * m ≡ n * n → m ≡ n
square_injective m n e =
    elim (dec_lt m n) [
      | yes h ↦ absurd (omega (arith, squares_apart h, e))
      | no h ↦ elim (dec_lt n m) [ yes k ↦ absurd (omega (arith, squares_apart k, e)) | no k ↦ omega arith ]
    ]
