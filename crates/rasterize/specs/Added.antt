-- A table with something added to each of its entries.
--
-- Definitions
--   added t g                     the entries of t, each with g of its index added
--   at_root z i                   z at the root, and nothing elsewhere
--   entry_of depth t i            entry i of the table of coefficients t, of a tile of side 2^depth
use Rattle.std.specs.Prelude.{List, ℕ, zero, suc, length, get_or, ℤ, pos, ◌+ℤ◌}
use Rattle.haar.specs.Table.{Coefficients}
use Rattle.haar.specs.Pictures.{tabulate}
use Rattle.haar.specs.Entries.{entries}
use Rattle.haar.specs.Plane.{dimensions}

unfoldable pub added : List ℤ → (ℕ → ℤ) → List ℤ
added t g = tabulate (length t) (λ i. get_or t i (pos 0) +ℤ g i)

abbrev pub at_root : ℤ → ℕ → ℤ
at_root z zero = z
at_root z (suc i) = pos 0

abbrev pub entry_of : ℕ → Coefficients dimensions → ℕ → ℤ
entry_of depth t i = get_or (entries dimensions depth t) i (pos 0)
