-- What a figure means: "The figure of a cell at level L is 4^L times its area in units", for a table that has the differences of areas as 01 says them.
--
-- Main results
--   Differences n depth t a      the root is the area of the whole, areas add up, and each detail is what its signs make of the children's areas
--   Parts n depth t a            as many times a child's area as there are children is its parent's area plus the details with the child's signs
--   parts_of_differences         the first gives the second: the signs are orthogonal
--   figure_area                  and by the second a figure is the area times the number of cells of its level
use Rattle.std.specs.Prelude.{◌≡◌, [], ◌∷◌, ◌≢◌, ℕ, zero, suc, ◌^◌, ◌<◌, ◌≤◌, ℤ, pos, negsuc, ◌+ℤ◌, ◌*ℤ◌}
use Rattle.std.proofs.Common.{sym, ◌∙◌, ap, ap₂, subst, arith, pow-suc}
use Rattle.std.proofs.Math.Path.{fun_ext}
use Rattle.std.proofs.Math.Nat.{pow-zero, pow-succ'}
use Rattle.std.proofs.Math.Pow.{suc_ones}
use Rattle.integers.proofs.Theorems.Ring.{read, ring, comb, ◌⊕◌, ◌⊗◌}
use Rattle.integers.specs.RangeSum.{Σ<}
use Rattle.integers.proofs.Theorems.RangeSum.{Σ_cong, Σ_scale, Σ_first, Σ-swap, Σ_one}
use Rattle.haar.specs.Cells.{children, details, Cell, Below, parent, child_number, child}
use Rattle.haar.specs.Signs.{sign}
use Rattle.haar.specs.Table.{Coefficients}
use Rattle.haar.specs.Figures.{signed_details, figure}
use Rattle.haar.proofs.Laws.Cells.{child-parent, child_number-lt, below-parent}
use Rattle.haar.proofs.Laws.Signs.{sign-plain, sign_comm, signs_orthogonal, signs_self}
use Rattle.haar.proofs.Laws.Figures.{figure-root, figure_next}

-- on the tile: h is the area in the left half less that in the right half, v that in the upper half less that in the lower half, and so on
pub record Differences (n depth : ℕ) (t : Coefficients n) (a : ℕ → Cell n → ℤ) : Type 0 where
  pub whole : (cell : Cell n) → Below n 1 cell → a 0 cell ≡ t.root
  pub adds_up : (j : ℕ) → j < depth → (cell : Cell n) → Below n (2 ^ j) cell → a j cell ≡ Σ< (children n) (λ c. a (suc j) (child n cell c))
  pub difference : (j : ℕ) → j < depth → (cell : Cell n) → Below n (2 ^ j) cell → (e : ℕ) → 1 ≤ e → e ≤ details n
      → t.detail j cell e ≡ Σ< (children n) (λ c. sign e c *ℤ a (suc j) (child n cell c))

-- on the tile: 4 × the area of a quarter is the area of the cell ± h ± v ± d
pub record Parts (n depth : ℕ) (t : Coefficients n) (a : ℕ → Cell n → ℤ) : Type 0 where
  pub whole : (cell : Cell n) → Below n 1 cell → a 0 cell ≡ t.root
  pub part : (j : ℕ) → j < depth → (cell : Cell n) → Below n (2 ^ suc j) cell
      → pos (children n) *ℤ a (suc j) cell ≡ a j (parent n cell) +ℤ signed_details n (t.detail j (parent n cell)) (child_number n cell)

-- ---- from differences to parts
-- two columns of signs are orthogonal as two rows are, so that of all children's areas one is left
one_child : (n : ℕ) (p : ℕ → ℤ) (k : ℕ) → k < children n
    → Σ< (children n) (λ e. sign e k *ℤ Σ< (children n) (λ c. sign e c *ℤ p c)) ≡ pos (children n) *ℤ p k
one_child n p k h =
    ap (Σ< (children n)) (fun_ext (λ e. sym (Σ_scale (children n) (sign e k) (λ c. sign e c *ℤ p c))))
    ∙ Σ-swap (children n) (children n) (λ e c. sign e k *ℤ (sign e c *ℤ p c))
    ∙ ap (Σ< (children n)) (fun_ext by_column)
    ∙ Σ_one (children n) (λ c. p c *ℤ column c) k h others
    ∙ comb (p k ∷ column k ∷ pos (children n) ∷ []) (p k ⊗ signs_self n k) (search read depth 40) tt
  where
    column : ℕ → ℤ
    column c = Σ< (children n) (λ e. sign k e *ℤ sign c e)

    by_column : (c : ℕ) → Σ< (children n) (λ e. sign e k *ℤ (sign e c *ℤ p c)) ≡ p c *ℤ column c
    by_column c =
        ap (Σ< (children n)) (fun_ext (λ e. ap₂ (λ x y. x *ℤ (y *ℤ p c)) (sign_comm e k) (sign_comm e c)
        ∙ ring (sign k e ∷ sign c e ∷ p c ∷ []) (search read depth 40) tt))
        ∙ Σ_scale (children n) (p c) (λ e. sign k e *ℤ sign c e)

    others : (c : ℕ) → c < children n → c ≢ k → p c *ℤ column c ≡ pos 0
    others c i d = comb (p c ∷ column c ∷ []) (p c ⊗ signs_orthogonal n k c h i (λ e. d (sym e))) (search read depth 40) tt

-- the whole, s, is the row that is all 1, and the details w are the others
by_children : (n : ℕ) (w p : ℕ → ℤ) (s : ℤ) (k : ℕ) → k < children n → s ≡ Σ< (children n) p
    → ((e : ℕ) → 1 ≤ e → e ≤ details n → w e ≡ Σ< (children n) (λ c. sign e c *ℤ p c)) → pos (children n) *ℤ p k ≡ s +ℤ signed_details n w k
unfolding signed_details
by_children n w p s k h es ew =
    sym (one_child n p k h) ∙ ap (λ m. Σ< m row) (sym (suc_ones n)) ∙ Σ_first (details n) row ∙ ap₂ ◌+ℤ◌ plain signed
  where
    row : ℕ → ℤ
    row e = sign e k *ℤ Σ< (children n) (λ c. sign e c *ℤ p c)

    one : (c : ℕ) → sign 0 c *ℤ p c ≡ p c
    one c = comb (sign 0 c ∷ p c ∷ []) (p c ⊗ sign-plain c) (search read depth 40) tt

    plain : row 0 ≡ s
    plain =
        ap₂ ◌*ℤ◌ (sign-plain k) (Σ_cong (children n) (λ c. sign 0 c *ℤ p c) p (λ c l. one c))
        ∙ ring (Σ< (children n) p ∷ []) (search read depth 40) tt ∙ sym es

    signed : Σ< (details n) (λ i. row (suc i)) ≡ Σ< (details n) (λ i. sign (suc i) k *ℤ w (suc i))
    signed =
        Σ_cong (details n) (λ i. row (suc i)) (λ i. sign (suc i) k *ℤ w (suc i))
        (λ i l. ap (λ z. sign (suc i) k *ℤ z) (sym (ew (suc i) (omega arith) l)))

pub parts_of_differences : {n depth : ℕ} {t : Coefficients n} {a : ℕ → Cell n → ℤ} → Differences n depth t a → Parts n depth t a
parts_of_differences {n} {depth} {t} {a} h = record {
  whole = h.whole;
  part = λ j i cell b.
      let q = parent n cell in
      let below = below-parent n (2 ^ j) cell (subst (λ m. Below n m cell) (pow-succ' 2 j) b) in
      ap (λ z. pos (children n) *ℤ a (suc j) z) (sym (child-parent n cell))
      ∙ by_children n (t.detail j q) (λ c. a (suc j) (child n q c)) (a j q) (child_number n cell) (child_number-lt n cell)
      (h.adds_up j i q below) (h.difference j i q below);
}

-- ---- from parts to figures
pub figure_area : {n depth : ℕ} {t : Coefficients n} {a : ℕ → Cell n → ℤ} → Parts n depth t a → (level : ℕ) → level ≤ depth
    → (cell : Cell n) → Below n (2 ^ level) cell → figure n t level cell ≡ pos (children n ^ level) *ℤ a level cell
figure_area {n} {t = t} {a} h zero i cell b =
    figure-root n t cell
    ∙ comb (t.root ∷ a 0 cell ∷ pos (children n ^ 0) ∷ []) (negsuc 0 ⊗ h.whole cell b ⊕ (negsuc 0 *ℤ a 0 cell) ⊗ ap pos (pow-zero (children n)))
    (search read depth 40) tt
figure_area {n} {t = t} {a} h (suc j) i cell b =
    let q = parent n cell in
    let s = signed_details n (t.detail j q) (child_number n cell) in
    let up = figure_area h j (omega arith) q (below-parent n (2 ^ j) cell (subst (λ m. Below n m cell) (pow-succ' 2 j) b)) in
    figure_next n t j cell
    ∙ comb (figure n t j q ∷ s ∷ pos (children n ^ j) ∷ pos (children n ^ suc j) ∷ pos (children n) ∷ a j q ∷ a (suc j) cell ∷ [])
    (up ⊕ (negsuc 0 *ℤ pos (children n ^ j)) ⊗ h.part j i cell b ⊕ (negsuc 0 *ℤ a (suc j) cell) ⊗ ap pos (pow-suc (children n) j))
    (search read depth 40) tt
