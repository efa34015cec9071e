-- What the figures of a level add up to: the root, as many times over as the level has cells, so the same ink at every level.
--
-- Main results
--   children-total               the figures of a cell's children add up to as many times the cell's own
--   figures_total                the figures of a level add up to the root times the number of its cells
use Rattle.std.specs.Prelude.{◌≡◌, [], ◌∷◌, ℕ, zero, suc, ◌^◌, ◌<◌, ℤ, pos, negsuc, ◌+ℤ◌, ◌*ℤ◌}
use Rattle.std.proofs.Common.{◌∙◌, ap, ap₂, arith}
use Rattle.std.proofs.Math.Path.{fun_ext}
use Rattle.std.proofs.Math.Nat.{pow-zero, pow-succ'}
use Rattle.std.proofs.Math.IntN.{*ℤ_comm, *ℤ-zero}
use Rattle.integers.proofs.Theorems.Ring.{read, comb, ◌⊕◌, ◌⊗◌}
use Rattle.integers.specs.RangeSum.{Σ<}
use Rattle.integers.proofs.Theorems.RangeSum.{Σ_cong, Σ-add, Σ_scale, Σ_const, Σ-swap}
use Rattle.haar.specs.Cells.{children, details, Cell, child}
use Rattle.haar.specs.Signs.{sign}
use Rattle.haar.specs.Table.{Coefficients}
use Rattle.haar.specs.Figures.{signed_details, figure}
use Rattle.haar.proofs.Laws.CellSums.{Σcells, Σcells_scale, Σcells_one, cells_by_children}
use Rattle.haar.proofs.Laws.Signs.{sign-row-sum}
use Rattle.haar.proofs.Laws.Figures.{figure-root, figure-child}

-- ---- one cell's children
-- What the details take from one child they give to another: each detail's signs add up to 0.
signed_details-total : (n : ℕ) (w : ℕ → ℤ) → Σ< (children n) (signed_details n w) ≡ pos 0
unfolding signed_details
signed_details-total n w =
    Σ-swap (children n) (details n) (λ c k. sign (suc k) c *ℤ w (suc k))
    ∙ Σ_cong (details n) _ (λ k. pos 0) row ∙ Σ_const (details n) (pos 0) ∙ *ℤ-zero (pos (details n))
  where
    row : (k : ℕ) → k < details n → Σ< (children n) (λ c. sign (suc k) c *ℤ w (suc k)) ≡ pos 0
    row k h =
        ap (Σ< (children n)) (fun_ext (λ c. *ℤ_comm (sign (suc k) c) (w (suc k)))) ∙ Σ_scale (children n) (w (suc k)) (sign (suc k))
        ∙ ap (λ z. w (suc k) *ℤ z) (sign-row-sum n (suc k) (omega arith) (λ e. omega arith)) ∙ *ℤ-zero (w (suc k))

pub children-total : (n : ℕ) (t : Coefficients n) (j : ℕ) (cell : Cell n)
    → Σ< (children n) (λ c. figure n t (suc j) (child n cell c)) ≡ pos (children n) *ℤ figure n t j cell
children-total n t j cell =
    Σ_cong (children n) _ (λ c. figure n t j cell +ℤ pos (children n ^ j) *ℤ w c) (figure-child n t j cell)
    ∙ Σ-add (children n) (λ c. figure n t j cell) (λ c. pos (children n ^ j) *ℤ w c)
    ∙ ap₂ ◌+ℤ◌ (Σ_const (children n) (figure n t j cell)) (Σ_scale (children n) (pos (children n ^ j)) w)
    ∙ comb (pos (children n) ∷ pos (children n ^ j) ∷ figure n t j cell ∷ Σ< (children n) w ∷ [])
    (pos (children n ^ j) ⊗ signed_details-total n (t.detail j cell)) (search read depth 40) tt
  where
    w : ℕ → ℤ
    w = signed_details n (t.detail j cell)

-- ---- a level
pub figures_total : (n : ℕ) (t : Coefficients n) (level : ℕ) → Σcells n (2 ^ level) (figure n t level) ≡ pos (children n ^ level) *ℤ t.root
figures_total n t zero =
    ap (Σcells n 1) (fun_ext (figure-root n t)) ∙ Σcells_one n t.root
    ∙ comb (pos (children n ^ 0) ∷ t.root ∷ []) ((negsuc 0 *ℤ t.root) ⊗ ap pos (pow-zero (children n))) (search read depth 40) tt
figures_total n t (suc j) =
    ap (λ m. Σcells n m (figure n t (suc j))) (pow-succ' 2 j)
    ∙ cells_by_children n (2 ^ j) (figure n t (suc j))
    ∙ ap (Σcells n (2 ^ j)) (fun_ext (children-total n t j))
    ∙ Σcells_scale n (2 ^ j) (pos (children n)) (figure n t j)
    ∙ comb (Σcells n (2 ^ j) (figure n t j) ∷ pos (children n) ∷ pos (children n ^ j) ∷ pos (children n ^ suc j) ∷ t.root ∷ [])
    (pos (children n) ⊗ figures_total n t j ⊕ (negsuc 0 *ℤ t.root) ⊗ ap pos (pow-succ' (children n) j)) (search read depth 40) tt
