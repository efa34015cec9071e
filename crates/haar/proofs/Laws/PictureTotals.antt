-- A picture's figures add up to the level's total.
use Rattle.std.specs.Prelude.{◌≡◌, refl, ℕ, zero, suc, ◌^◌, ℤ, pos, ◌+ℤ◌, ◌*ℤ◌}
use Rattle.std.proofs.Common.{sym, ◌∙◌, ap}
use Rattle.integers.specs.RangeSum.{Σ<}
use Rattle.integers.proofs.Theorems.RangeSum.{Σ_first}
use Rattle.integers.specs.ListSum.{total}
use Rattle.haar.specs.Cells.{children, cell_at}
use Rattle.haar.specs.Table.{Coefficients}
use Rattle.haar.specs.Figures.{figure}
use Rattle.haar.specs.Pictures.{tabulate, picture}
use Rattle.haar.proofs.Laws.Cells.{level_cells}
use Rattle.haar.proofs.Laws.CellSums.{Σ-cell_at}
use Rattle.haar.proofs.Laws.Totals.{figures_total}

-- ---- a picture
total-tabulate : {A : Type 0} (f : A → ℤ) (m : ℕ) (g : ℕ → A) → total f (tabulate m g) ≡ Σ< m (λ i. f (g i))
unfolding total tabulate Σ<
total-tabulate f zero g = refl
total-tabulate f (suc m) g = ap (λ z. f (g 0) +ℤ z) (total-tabulate f m (λ i. g (suc i))) ∙ sym (Σ_first m (λ i. f (g i)))

pub picture-total : (n : ℕ) (t : Coefficients n) (level : ℕ) → total (λ z. z) (picture n (λ z. z) t level) ≡ pos (children n ^ level) *ℤ t.root
picture-total n t level =
    total-tabulate (λ z. z) (children n ^ level) (λ i. figure n t level (cell_at n (2 ^ level) i))
    ∙ ap (λ k. Σ< k (λ i. figure n t level (cell_at n (2 ^ level) i))) (sym (level_cells n level))
    ∙ Σ-cell_at n (2 ^ level) (figure n t level) ∙ figures_total n t level
