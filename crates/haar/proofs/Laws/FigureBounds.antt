-- How large a figure is, either way. It is a sum over the cells in which its cell lies, and so is its bound. With `figure_linear`, a bound of how
-- far two tables are apart gives one of how far their figures are. A cell has B children.
--
-- Main results
--   bound n r b level cell       a bound of the figure, from a bound r of the root and a bound b of each cell's details
--   figure_within                the figures of a table that r and b bound are within their bounds
--   bound_const                  where b is k throughout, the bound is B^level k − k + r
--   bound_scale                  m times the bounds of the root and the details, and the bound is m times as large
--   stored_bounded               a list of entries within k is bounded by k throughout
use Rattle.std.specs.Prelude.{◌≡◌, refl, List, [], ◌∷◌, ℕ, zero, suc, ◌+◌, ◌*◌, ◌^◌, ◌≤◌, get_or, ℤ, pos, ◌*ℤ◌}
use Rattle.std.proofs.Common.{sym, ap, subst, arith}
use Rattle.std.proofs.Math.Nat.{pow-succ', pow-zero}
use Rattle.integers.proofs.Theorems.Ring.{read, ring}
use Rattle.integers.proofs.Theorems.RangeSum.{Σ_within}
use Rattle.integers.specs.Within.{Within}
use Rattle.integers.proofs.Theorems.Within.{within_is, within_add, within_scale, within_sign}
use Rattle.haar.specs.Signs.{sign}
use Rattle.haar.specs.Cells.{children, details, Cell, Below, parent, child_number}
use Rattle.haar.specs.Table.{Coefficients, Bounded, index, stored}
use Rattle.haar.specs.Figures.{signed_details, figure}
use Rattle.haar.proofs.Laws.Cells.{below-parent, next_level}
use Rattle.haar.proofs.Laws.Signs.{sign_cases}
use Rattle.haar.proofs.Laws.Figures.{figure-root, figure_next}

-- B^j times the bound of each of a cell's details, for every level above
unfoldable pub bound : (n r : ℕ) → (ℕ → Cell n → ℕ) → ℕ → Cell n → ℕ
bound n r b zero cell = r
bound n r b (suc j) cell = bound n r b j (parent n cell) + children n ^ j * (details n * b j (parent n cell))

signed_details_within : {b : ℤ} (n : ℕ) (w : ℕ → ℤ) → ((e : ℕ) → 1 ≤ e → e ≤ details n → Within b (w e)) → (c : ℕ)
    → Within (pos (details n) *ℤ b) (signed_details n w c)
unfolding signed_details
signed_details_within n w h c =
    Σ_within (details n) (λ k. sign (suc k) c *ℤ w (suc k)) (λ k i. within_sign (sign_cases (suc k) c) (h (suc k) (omega arith) i))

pub figure_within : {n depth r : ℕ} {b : ℕ → Cell n → ℕ} {t : Coefficients n} → Bounded n depth r b t → (level : ℕ) → level ≤ depth
    → (cell : Cell n) → Below n (2 ^ level) cell → Within (pos (bound n r b level cell)) (figure n t level cell)
unfolding bound
figure_within {n} {t = t} h zero i cell k = within_is refl (sym (figure-root n t cell)) h.root_within
figure_within {n} {depth} {r} {b} {t} h (suc j) i cell k =
    let q = parent n cell in
    let p = below-parent n (2 ^ j) cell (subst (λ m. Below n m cell) (pow-succ' 2 j) k) in
    let w = signed_details_within n (t.detail j q) (h.detail_within j i q p) (child_number n cell) in
    within_is (ring (pos (bound n r b j q) ∷ pos (children n ^ j) ∷ pos (details n) ∷ pos (b j q) ∷ []) (search read depth 40) tt)
    (sym (figure_next n t j cell)) (within_add (figure_within h j (omega arith) q p) (within_scale (children n ^ j) w))

-- of B children a cell has B − 1 details, so a level adds B^j (B − 1) k = B^(j + 1) k − B^j k
pub bound_const : (n r k level : ℕ) (cell : Cell n) → bound n r (λ j cell. k) level cell + k ≡ children n ^ level * k + r
unfolding bound
bound_const n r k zero cell = omega (arith, ap (λ m. m * k) (pow-zero (children n)))
bound_const n r k (suc j) cell = omega (arith, bound_const n r k j (parent n cell), ap (λ m. m * k) (next_level n j))

pub bound_scale : (n r : ℕ) (b : ℕ → Cell n → ℕ) (m level : ℕ) (cell : Cell n) → bound n (r * m) (λ j cell. b j cell * m) level cell ≡ bound n r b level cell * m
unfolding bound
bound_scale n r b m zero cell = refl
bound_scale n r b m (suc j) cell = omega (arith, bound_scale n r b m j (parent n cell))

pub stored_bounded : (n depth k : ℕ) (entries : List ℤ) → ((i : ℕ) → Within (pos k) (get_or entries i (pos 0)))
    → Bounded n depth k (λ j cell. k) (stored n entries)
stored_bounded n depth k entries h = record { root_within = h 0; detail_within = λ j i cell b e f g. h (index n j cell e) }
