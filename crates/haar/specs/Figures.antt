-- Figures from a table: "The figure of a cell at level L is 4^L times its area in units, worked from the table alone". Here is how it is worked;
-- `Laws/Areas` has that it is 4^L times the area, where the details are differences of areas.
--
-- Definitions
--   signed_details n w c         a cell's details w with their signs at child c, added up
--   figure n t level cell        the figure of a cell of a level
use Rattle.std.specs.Prelude.{ℕ, zero, suc, ◌^◌, ℤ, pos, ◌+ℤ◌, ◌*ℤ◌}
use Rattle.integers.specs.RangeSum.{Σ<}
use Rattle.haar.specs.Signs.{sign}
use Rattle.haar.specs.Cells.{children, details, Cell, parent, child_number}
use Rattle.haar.specs.Table.{Coefficients}

-- "± h ± v ± d": the details are numbered from 1 on
unfoldable pub signed_details : (n : ℕ) → (ℕ → ℤ) → ℕ → ℤ
signed_details n w c = Σ< (details n) (λ k. sign (suc k) c *ℤ w (suc k))

-- "the root's figure is entry 0; a quarter's figure is its parent's plus 4^j times (± h ± v ± d)". Nothing is divided, and nothing is held at zero.
unfoldable pub figure : (n : ℕ) → Coefficients n → ℕ → Cell n → ℤ
figure n t zero cell = t.root
figure n t (suc j) cell = figure n t j (parent n cell) +ℤ pos (children n ^ j) *ℤ signed_details n (t.detail j (parent n cell)) (child_number n cell)
