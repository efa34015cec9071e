-- Edges on the tile, in the words of `edge`: in the tile's square.
--
-- Main results
--   on_cell                      an edge on the tile lies in the tile's square
use Rattle.std.specs.Prelude.{[], ◌∷◌, ℕ, ℤ, pos, ◌≤ℤ◌}
use Rattle.integers.proofs.Theorems.Linear.{le, linear, lin≤}
use Rattle.edge.specs.declared.Edge.{Edge}
use Rattle.edge.specs.Nested.{OnRange, OnCell}
use Rattle.accuracy.specs.Tile.{tile, EdgeOnTile}

from_zero : {p w : ℤ} → pos 0 ≤ℤ p → p ≤ℤ w → OnRange (pos 0) w p
from_zero {p} {w} l h = record { low = l; high = lin≤ (p ∷ w ∷ []) (le h) (search linear depth 40) tt }

pub on_cell : (depth : ℕ) (e : Edge) → EdgeOnTile depth e → OnCell (tile depth) e
on_cell depth e o = record {
  x0 = from_zero o.start.x_low o.start.x_high;
  y0 = from_zero o.start.y_low o.start.y_high;
  x1 = from_zero o.end.x_low o.end.x_high;
  y1 = from_zero o.end.y_low o.end.y_high;
}
