-- What an edge adds to the table: its rounded details in a cell, and its term of the root; in place of that term, where edges may lie beyond the tile, its
-- rounded area in the tile.
--
-- Definitions
--   details             h, v and d, each rounded on its own
--   root_term           the edge's term of the signed area
--   rounded_area        the edge's part of a cell's area, rounded on its own
--   Exact               rounding keeps the three details
--   DetailsWithin       a bound of all three
use Rattle.std.specs.Prelude.{◌≡◌, ℤ, pos, ◌-ℤ◌, ◌*ℤ◌}
use Rattle.integers.specs.Within.{Within}
use Rattle.integers.specs.Rounding.{round_half_away}
use Rattle.edge.specs.declared.Edge.{Edge}
use Rattle.edge.specs.declared.Cell.{Cell}
use Rattle.edge.specs.declared.Details.{Details}
use Rattle.edge.specs.Walk.{steps}
use Rattle.edge.specs.Integrals.{area_num, h_num, v_num, d_num}

-- "Each edge's three values are rounded on their own, to the nearest whole unit, halves away from zero."
unfoldable pub details : Edge → Cell → Details
details e c = record { h = round_half_away (h_num e c) (steps e); v = round_half_away (v_num e c) (steps e); d = round_half_away (d_num e c) (steps e) }

-- "Signed area in units is the sum over edges of x0 × y1 − x1 × y0"
unfoldable pub root_term : Edge → ℤ
root_term e = e.x0 *ℤ e.y1 -ℤ e.x1 *ℤ e.y0

-- "The root is now rounded for each edge too" (02, P5): of the tile's square, to the nearest whole unit, halves away from zero
unfoldable pub rounded_area : Edge → Cell → ℤ
rounded_area e c = round_half_away (area_num e c) (steps e)

-- rounding leaves the edge's three details in the cell as they are: they are whole
pub record Exact (e : Edge) (c : Cell) : Type 0 where
  pub h : round_half_away (h_num e c) (steps e) *ℤ pos (steps e) ≡ h_num e c
  pub v : round_half_away (v_num e c) (steps e) *ℤ pos (steps e) ≡ v_num e c
  pub d : round_half_away (d_num e c) (steps e) *ℤ pos (steps e) ≡ d_num e c

pub record DetailsWithin (b : ℤ) (w : Details) : Type 0 where
  pub h : Within b w.h
  pub v : Within b w.v
  pub d : Within b w.d
