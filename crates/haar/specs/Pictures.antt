-- Pictures: what is made of each figure of a level, row by row.
--
-- Definitions
--   tabulate m f                 f 0, f 1, and so on: m of them
--   picture n g t level          g of every figure of a level
use Rattle.std.specs.Prelude.{List, [], ◌∷◌, ℕ, zero, suc, ◌^◌, ℤ}
use Rattle.haar.specs.Cells.{children, cell_at}
use Rattle.haar.specs.Table.{Coefficients}
use Rattle.haar.specs.Figures.{figure}

unfoldable pub tabulate : {A : Type 0} → ℕ → (ℕ → A) → List A
tabulate zero f = []
tabulate (suc m) f = f 0 ∷ tabulate m (λ i. f (suc i))

-- "A picture has 4^L figures, row by row from the top left." g is the figure itself, or its grey. The entry of cell (cx, cy) is at cy × 2^L + cx
-- (`picture_at` of `Laws/Pictures`).
abbrev pub picture : {A : Type 0} (n : ℕ) → (ℤ → A) → Coefficients n → ℕ → List A
picture n g t level = tabulate (children n ^ level) (λ i. g (figure n t level (cell_at n (2 ^ level) i)))
