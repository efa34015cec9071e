-- The cells of a tree in which every cell is cut in half in each of n directions: a quadtree's for n = 2.
--
-- Definitions
--   children n, details n        how many children and how many details a cell has
--   Cell n                       a cell of a level, by its number in each direction, x first
--   Below n m cell               each of its numbers is below m
--   row_major n m cell           its place among them, row by row
--   cell_at n m i                the cell at place i
--   parent, child_number         the cell that a cell lies in, and which of its children it is
--   child n cell c               child c of a cell
use Rattle.std.specs.Prelude.{ℕ, zero, suc, ◌+◌, ◌*◌, ◌-◌, ◌/◌, ◌%◌, ◌^◌, ◌<◌}

-- A child for each choice of a half in each direction, and a detail for each set of directions but the empty one.
abbrev pub children : ℕ → ℕ
children n = 2 ^ n

abbrev pub details : ℕ → ℕ
details n = children n - 1

-- "Level j has 2^j by 2^j cells": (cx, cy) is (cx, (cy, tt))
abbrev pub Cell : ℕ → Type 0
Cell zero = Unit {0}
Cell (suc n) = ℕ × Cell n

abbrev pub Below : (n m : ℕ) → Cell n → Type 0
Below zero m cell = Unit {0}
Below (suc n) m (x, rest) = (x < m) × Below n m rest

-- x runs fastest: cy × m + cx, or (cz × m + cy) × m + cx
unfoldable pub row_major : (n m : ℕ) → Cell n → ℕ
row_major zero m cell = 0
row_major (suc n) m (x, rest) = row_major n m rest * m + x

unfoldable pub cell_at : (n m : ℕ) → ℕ → Cell n
cell_at zero m i = tt
cell_at (suc n) m i = (i % m, cell_at n m (i / m))

-- one level up
unfoldable pub parent : (n : ℕ) → Cell n → Cell n
parent zero cell = tt
parent (suc n) (x, rest) = (x / 2, parent n rest)

unfoldable pub child_number : (n : ℕ) → Cell n → ℕ
child_number zero cell = 0
child_number (suc n) (x, rest) = x % 2 + 2 * child_number n rest

-- one level down
unfoldable pub child : (n : ℕ) → Cell n → ℕ → Cell n
child zero cell c = tt
child (suc n) (x, rest) c = (2 * x + c % 2, child n rest (c / 2))
