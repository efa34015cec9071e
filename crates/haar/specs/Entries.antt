-- The list of a table's entries: the root, then the details level by level, and in each level cell by cell, row by row.
--
-- Definitions
--   level_details n t j           the details of the cells of level j, one after the other
--   entries n depth t             the entries of t down to a depth, in the order of `index`
use Rattle.std.specs.Prelude.{List, [], ◌∷◌, ◌++◌, ℕ, zero, suc, ◌*◌, ◌/◌, ◌%◌, ◌^◌, ℤ}
use Rattle.haar.specs.Cells.{children, details, cell_at}
use Rattle.haar.specs.Table.{Coefficients}
use Rattle.haar.specs.Pictures.{tabulate}

unfoldable pub level_details : (n : ℕ) → Coefficients n → ℕ → List ℤ
level_details n t j = tabulate (details n * children n ^ j) (λ i. t.detail j (cell_at n (2 ^ j) (i / details n)) (suc (i % details n)))

unfoldable pub entries : (n : ℕ) → ℕ → Coefficients n → List ℤ
entries n zero t = t.root ∷ []
entries n (suc j) t = entries n j t ++ level_details n t j
