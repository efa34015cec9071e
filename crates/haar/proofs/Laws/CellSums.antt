-- Sums over the cells of a level.
--
-- Main results
--   Σcells n m f                 the sum of f over all cells below m in each direction
--   Σcells_scale                 a factor comes out
--   Σcells_one                   where there is one cell, a constant adds up to itself
--   Σ-cell_at                    the same sum, place by place
--   cells_by_children            with twice as many cells in each direction, the same sum by children of the cells
use Rattle.std.specs.Prelude.{◌≡◌, refl, ℕ, zero, suc, ◌+◌, ◌*◌, ◌/◌, ◌%◌, ◌^◌, ◌<◌, ℤ, pos, ◌+ℤ◌, ◌*ℤ◌}
use Rattle.std.proofs.Common.{sym, ◌∙◌, ap, ap₂, arith, mul_comm}
use Rattle.std.proofs.Math.Path.{fun_ext}
use Rattle.std.proofs.Math.Nat.{pow-zero}
use Rattle.std.proofs.Math.IntN.{+ℤ_idl}
use Rattle.integers.specs.RangeSum.{Σ<}
use Rattle.integers.proofs.Theorems.RangeSum.{Σ_cong, Σ_scale, Σ-rows, Σ_power, Σ-swap}
use Rattle.haar.specs.Cells.{children, Cell, row_major, cell_at, child}
use Rattle.haar.proofs.Laws.Cells.{below-cell_at, cell_at-row_major, row_major-cell_at}

-- x runs fastest, as in the cells' places
unfoldable pub Σcells : (n m : ℕ) → (Cell n → ℤ) → ℤ
Σcells zero m f = f tt
Σcells (suc n) m f = Σcells n m (λ rest. Σ< m (λ x. f (x, rest)))

pub Σcells_scale : (n m : ℕ) (k : ℤ) (f : Cell n → ℤ) → Σcells n m (λ cell. k *ℤ f cell) ≡ k *ℤ Σcells n m f
unfolding Σcells
Σcells_scale zero m k f = refl
Σcells_scale (suc n) m k f =
    ap (Σcells n m) (fun_ext (λ rest. Σ_scale m k (λ x. f (x, rest)))) ∙ Σcells_scale n m k (λ rest. Σ< m (λ x. f (x, rest)))

pub Σcells_one : (n : ℕ) (z : ℤ) → Σcells n 1 (λ cell. z) ≡ z
unfolding Σcells Σ<
Σcells_one zero z = refl
Σcells_one (suc n) z = Σcells_one n (pos 0 +ℤ z) ∙ +ℤ_idl z

-- ---- place by place
cell_at-row : (n m : ℕ) {x y : ℕ} → x < m → y < m ^ n → cell_at (suc n) m (y * m + x) ≡ (x, cell_at n m y)
unfolding row_major
cell_at-row n m {x} {y} h k =
    ap (λ r. cell_at (suc n) m (r * m + x)) (sym (row_major-cell_at n m y (omega arith) k))
    ∙ cell_at-row_major (suc n) m (x, cell_at n m y) (h, below-cell_at n m y (omega arith))

pub Σ-cell_at : (n m : ℕ) (f : Cell n → ℤ) → Σ< (m ^ n) (λ i. f (cell_at n m i)) ≡ Σcells n m f
unfolding Σcells Σ< cell_at
Σ-cell_at zero m f = ap (λ k. Σ< k (λ i. f tt)) (pow-zero m) ∙ +ℤ_idl (f tt)
Σ-cell_at (suc n) m f = Σ_power m n (λ i. f (cell_at (suc n) m i)) ∙ Σ_cong (m ^ n) _ (λ y. row (cell_at n m y)) by_rows ∙ Σ-cell_at n m row
  where
    row : Cell n → ℤ
    row rest = Σ< m (λ x. f (x, rest))

    by_rows : (y : ℕ) → y < m ^ n → Σ< m (λ x. f (cell_at (suc n) m (y * m + x))) ≡ row (cell_at n m y)
    by_rows y k = Σ_cong m _ (λ x. f (x, cell_at n m y)) (λ x h. ap f (cell_at-row n m h k))

-- ---- child by child
-- child 2 i + b of (x, rest) is half b of x, and child i of the rest
children_by_halves : (n : ℕ) (f : Cell (suc n) → ℤ) (x : ℕ) (rest : Cell n)
    → Σ< (children (suc n)) (λ c. f (child (suc n) (x, rest) c)) ≡ Σ< (children n) (λ i. Σ< 2 (λ b. f (x * 2 + b, child n rest i)))
unfolding child
children_by_halves n f x rest =
    Σ_power 2 n (λ c. f (child (suc n) (x, rest) c))
    ∙ ap (Σ< (children n)) (fun_ext (λ i. Σ_cong 2 _ (λ b. f (x * 2 + b, child n rest i)) (λ b h. ap f (half i b h))))
  where
    half : (i b : ℕ) → b < 2 → child (suc n) (x, rest) (i * 2 + b) ≡ (x * 2 + b, child n rest i)
    half i b h =
        let first : 2 * x + (i * 2 + b) % 2 ≡ x * 2 + b = omega arith in
        let others : (i * 2 + b) / 2 ≡ i = omega arith in
        ap₂ (λ u k. (u, child n rest k)) first others

pub cells_by_children : (n m : ℕ) (f : Cell n → ℤ) → Σcells n (2 * m) f ≡ Σcells n m (λ cell. Σ< (children n) (λ c. f (child n cell c)))
unfolding Σcells Σ< child
cells_by_children zero m f = sym (+ℤ_idl (f tt))
cells_by_children (suc n) m f = cells_by_children n m (λ rest. Σ< (2 * m) (λ x. f (x, rest))) ∙ ap (Σcells n m) (fun_ext by_halves)
  where
    at : Cell n → ℕ → ℕ → ℤ
    at rest i x = f (x, child n rest i)

    by_halves : (rest : Cell n)
        → Σ< (children n) (λ i. Σ< (2 * m) (at rest i)) ≡ Σ< m (λ x. Σ< (children (suc n)) (λ c. f (child (suc n) (x, rest) c)))
    by_halves rest =
        ap (Σ< (children n)) (fun_ext (λ i. ap (λ k. Σ< k (at rest i)) (mul_comm 2 m) ∙ Σ-rows m 2 (at rest i)))
        ∙ Σ-swap (children n) m (λ i x. Σ< 2 (λ b. at rest i (x * 2 + b)))
        ∙ ap (Σ< m) (fun_ext (λ x. sym (children_by_halves n f x rest)))
