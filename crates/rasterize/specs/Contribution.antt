-- What an edge adds to each entry of a table in a cell and in the cells below it.
--
-- Definitions
--   first_detail c               where the details of a cell begin in the table
--   own_part w first i           what details w, which stand from `first` on, add to entry i
--   contribution e left c i      what an edge adds to entry i in cell c and below it, `left` levels in all
use Rattle.std.specs.Prelude.{ℕ, zero, suc, ◌-◌, ℤ, pos, ◌+ℤ◌}
use Rattle.integers.specs.RangeSum.{Σ<}
use Rattle.edge.specs.declared.Edge.{Edge}
use Rattle.edge.specs.declared.Details.{Details}
use Rattle.edge.specs.Rounded.{details}
use Rattle.haar.specs.Table.{index}
use Rattle.haar.specs.Plane.{dimensions, h_detail, at}
use Rattle.accuracy.specs.ExactDetails.{numbered}
use Rattle.rasterize.specs.declared.Node.{Node}
use Rattle.rasterize.specs.Nodes.{quarters, quarter_node}

abbrev pub first_detail : Node → ℕ
first_detail c = index dimensions c.level (at c.x c.y) h_detail

-- h at `first`, v and d at the next two, and nothing elsewhere: `numbered` is 0 for 0, which is what is left before `first`, and from 4 on
abbrev pub own_part : Details → ℕ → ℕ → ℤ
own_part w first i = numbered w (suc i - first)

-- "A cell hands the edge on to its four quarters, until the last level."
unfoldable pub contribution : Edge → ℕ → Node → ℕ → ℤ
contribution e zero c i = pos 0
contribution e (suc left) c i = own_part (details e c.square) (first_detail c) i +ℤ Σ< quarters (λ q. contribution e left (quarter_node c q) i)
