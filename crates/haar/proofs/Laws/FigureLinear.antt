-- Figures are linear in the table: those of a t + b u are a times those of t plus b times those of u.
-- Sums, differences, multiples and the negative of tables are cases of it.
--
-- Main results
--   combine a t b u              the table a t + b u, entry by entry
--   figure_linear                its figures
use Rattle.std.specs.Prelude.{◌≡◌, [], ◌∷◌, ℕ, zero, suc, ◌^◌, ℤ, pos, ◌+ℤ◌, ◌*ℤ◌}
use Rattle.std.proofs.Common.{sym, ◌∙◌, ap₂}
use Rattle.integers.proofs.Theorems.Ring.{read, ring, comb, ◌⊕◌, ◌⊗◌}
use Rattle.integers.proofs.Theorems.RangeSum.{Σ_cong, Σ-add, Σ_scale}
use Rattle.haar.specs.Signs.{sign}
use Rattle.haar.specs.Cells.{children, details, Cell, parent, child_number}
use Rattle.haar.specs.Table.{Coefficients}
use Rattle.haar.specs.Figures.{signed_details, figure}
use Rattle.haar.proofs.Laws.Figures.{figure-root, figure_next}

abbrev pub combine : {n : ℕ} → ℤ → Coefficients n → ℤ → Coefficients n → Coefficients n
combine a t b u = record {
  root = a *ℤ t.root +ℤ b *ℤ u.root;
  detail = λ j cell e. a *ℤ t.detail j cell e +ℤ b *ℤ u.detail j cell e;
}

signed_details_linear : (n : ℕ) (a : ℤ) (v : ℕ → ℤ) (b : ℤ) (w : ℕ → ℤ) (c : ℕ)
    → signed_details n (λ e. a *ℤ v e +ℤ b *ℤ w e) c ≡ a *ℤ signed_details n v c +ℤ b *ℤ signed_details n w c
unfolding signed_details
signed_details_linear n a v b w c =
    Σ_cong (details n) (λ k. s k *ℤ (a *ℤ v (suc k) +ℤ b *ℤ w (suc k))) (λ k. a *ℤ f k +ℤ b *ℤ g k)
    (λ k h. ring (s k ∷ a ∷ v (suc k) ∷ b ∷ w (suc k) ∷ []) (search read depth 40) tt)
    ∙ Σ-add (details n) (λ k. a *ℤ f k) (λ k. b *ℤ g k) ∙ ap₂ ◌+ℤ◌ (Σ_scale (details n) a f) (Σ_scale (details n) b g)
  where
    s : ℕ → ℤ
    s k = sign (suc k) c

    f : ℕ → ℤ
    f k = s k *ℤ v (suc k)

    g : ℕ → ℤ
    g k = s k *ℤ w (suc k)

pub figure_linear : (n : ℕ) (a : ℤ) (t : Coefficients n) (b : ℤ) (u : Coefficients n) (level : ℕ) (cell : Cell n)
    → figure n (combine a t b u) level cell ≡ a *ℤ figure n t level cell +ℤ b *ℤ figure n u level cell
figure_linear n a t b u zero cell =
    figure-root n (combine a t b u) cell ∙ sym (ap₂ (λ x y. a *ℤ x +ℤ b *ℤ y) (figure-root n t cell) (figure-root n u cell))
figure_linear n a t b u (suc j) cell =
    let q = parent n cell in
    let c = child_number n cell in
    let v = t.detail j q in
    let w = u.detail j q in
    figure_next n (combine a t b u) j cell
    ∙ comb
    (a ∷ b ∷ pos (children n ^ j) ∷ figure n t j q ∷ figure n u j q ∷ figure n (combine a t b u) j q
    ∷ signed_details n v c ∷ signed_details n w c ∷ signed_details n (λ e. a *ℤ v e +ℤ b *ℤ w e) c ∷ [])
    (figure_linear n a t b u j q ⊕ pos (children n ^ j) ⊗ signed_details_linear n a v b w c) (search read depth 40) tt
    ∙ sym (ap₂ (λ x y. a *ℤ x +ℤ b *ℤ y) (figure_next n t j cell) (figure_next n u j cell))
