-- Figures: from a cell to its children, and the coefficients that a figure depends on.
--
-- Main results
--   figure-root, figure_next     the definition's two clauses, which every other law goes by
--   figure-child                 a child's figure is its parent's plus the scaled details with the child's signs
--   figure_same                  tables that are the same below a depth have the same figures, down to it
use Rattle.std.specs.Prelude.{◌≡◌, refl, ℕ, zero, suc, ◌^◌, ◌<◌, ◌≤◌, pos, ◌+ℤ◌, ◌*ℤ◌}
use Rattle.std.proofs.Common.{sym, ◌∙◌, ap, ap₂, subst, arith}
use Rattle.std.proofs.Math.Nat.{pow-succ'}
use Rattle.integers.proofs.Theorems.RangeSum.{Σ_cong}
use Rattle.haar.specs.Signs.{sign}
use Rattle.haar.specs.Cells.{children, details, Cell, Below, parent, child_number, child}
use Rattle.haar.specs.Table.{Coefficients, SameBelow}
use Rattle.haar.specs.Figures.{signed_details, figure}
use Rattle.haar.proofs.Laws.Cells.{parent-child, child_number-child, below-parent}

pub figure-root : (n : ℕ) (t : Coefficients n) (cell : Cell n) → figure n t 0 cell ≡ t.root
unfolding figure
figure-root n t cell = refl

pub figure_next : (n : ℕ) (t : Coefficients n) (j : ℕ) (cell : Cell n)
    → figure n t (suc j) cell
    ≡ figure n t j (parent n cell) +ℤ pos (children n ^ j) *ℤ signed_details n (t.detail j (parent n cell)) (child_number n cell)
unfolding figure
figure_next n t j cell = refl

pub figure-child : (n : ℕ) (t : Coefficients n) (j : ℕ) (cell : Cell n) (c : ℕ) → c < children n
    → figure n t (suc j) (child n cell c) ≡ figure n t j cell +ℤ pos (children n ^ j) *ℤ signed_details n (t.detail j cell) c
figure-child n t j cell c h =
    figure_next n t j (child n cell c)
    ∙ ap₂ (λ (q : Cell n) (k : ℕ). figure n t j q +ℤ pos (children n ^ j) *ℤ signed_details n (t.detail j q) k)
    (parent-child n cell c) (child_number-child n cell c h)

-- ---- a figure depends on its own coefficients alone
pub figure_same : {n depth : ℕ} {t u : Coefficients n} → SameBelow n depth t u → (level : ℕ) → level ≤ depth
    → (cell : Cell n) → Below n (2 ^ level) cell → figure n t level cell ≡ figure n u level cell
unfolding signed_details
figure_same {n} {depth} {t} {u} s zero h cell b = figure-root n t cell ∙ s.same_root ∙ sym (figure-root n u cell)
figure_same {n} {depth} {t} {u} s (suc j) h cell b =
    let q = parent n cell in
    let c = child_number n cell in
    let p = below-parent n (2 ^ j) cell (subst (λ m. Below n m cell) (pow-succ' 2 j) b) in
    figure_next n t j cell
    ∙ ap₂ (λ f d. f +ℤ pos (children n ^ j) *ℤ d) (figure_same s j (omega arith) q p)
    (Σ_cong (details n) (λ k. sign (suc k) c *ℤ t.detail j q (suc k)) (λ k. sign (suc k) c *ℤ u.detail j q (suc k))
    (λ k i. ap (λ x. sign (suc k) c *ℤ x) (s.same_detail j h q p (suc k) (omega arith) i)))
    ∙ sym (figure_next n u j cell)
