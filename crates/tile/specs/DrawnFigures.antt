-- Demand 2, what is drawn: of every table that is not refused, each figure is the Haar sum of that table, and each grey is the figure's.
--
-- Main results (the laws among them are in proofs/Theorems/DrawnFigures.antt)
--   figures_drawn, greys_drawn_lem         the whole picture that a call leaves
--   figure_in_picture, grey_in_picture     what it has for a cell
--   figure_alone, alone_as_in_picture      one cell's figure, the same
--   cell_details                           h, v and d of a cell, as the table has them
--   figure_of_root, figure_of_quarter      and how a figure is worked from the table: 01's own formula
use Rattle.std.specs.Prelude.{List, ℕ, ◌+◌, ◌*◌, ◌-◌, ◌^◌, get_or, ℤ, pos}

-- h, v and d of cell (cx, cy) of level j, by their numbers 1, 2 and 3: they stand "from 4^j + 3 × (cy × 2^j + cx) on"
abbrev pub cell_details : List ℤ → ℕ → ℕ → ℕ → ℕ → ℤ
cell_details table j cx cy k = get_or table (4 ^ j + 3 * (cy * 2 ^ j + cx) + (k - 1)) (pos 0)
