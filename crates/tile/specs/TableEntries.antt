-- Demand 2, building: what each entry of the table is that building left, whatever the table held before. `table_of` of `Outcomes` is the whole of it;
-- here is each entry by itself.
--
-- Main results (the laws among them are in proofs/Theorems/TableEntries.antt)
--   built_length                 the table has side × side entries
--   built_root_lem               "Entry 0 is the root, the signed area of the whole outline"
--   built_detail                 a cell's detail: the sum over the edges of the exact integral rounded to a whole unit, each edge's on its own
--   exact-whole                  before rounding: the root is the exact area of the tile
--   exact_quarter                four times the exact area of a quarter is its cell's ± h ± v ± d
--   exact_differences            and h, v and d are 01's differences of the quarters' exact areas
--   DetailEntry, detail_entry    every entry but the root is a detail of a cell
--   edges_counted                the edges are as many as the counts' sum, which building reports
--   no_contour                   "No contour at all is an accepted outline: every entry of its table is 0."
use Rattle.std.specs.Prelude.{◌≡◌, ℕ, ◌+◌, ◌*◌, ◌-◌, ◌^◌, ◌<◌, ◌≤◌}

-- detail `number` of cell (x, y) of a level stands at i
pub record DetailEntry (depth i : ℕ) : Type 0 where
  pub level : ℕ
  pub x : ℕ
  pub y : ℕ
  pub number : ℕ
  pub below : level < depth
  pub x_below : x < 2 ^ level
  pub y_below : y < 2 ^ level
  pub first : 1 ≤ number
  pub last : number ≤ 3
  pub at : i ≡ 4 ^ level + 3 * (y * 2 ^ level + x) + (number - 1)
