-- The edges of a contour, one by one, from its list of coordinates: x and y in turn.
--
-- Definitions
--   next n k                       the point after point k of n: after the last, the first
--   edge_of points n k             the edge from point k to the next
--   edge_entry, edges_from         what edge k of a contour adds to entry i of the table, and what m edges from k on add
use Rattle.std.specs.Prelude.{cond, List, ℕ, ◌+◌, ◌/◌, ltb, length, ℤ}
use Rattle.integers.specs.RangeSum.{Σ<}
use Rattle.edge.specs.declared.Edge.{Edge}
use Rattle.accuracy.specs.Outline.{point_at, edge_between}
use Rattle.rasterize.specs.declared.View.{View}
use Rattle.rasterize.specs.Added.{entry_of}
use Rattle.rasterize.specs.Views.{part_table}

-- "Its last point joins its first."
abbrev pub next : ℕ → ℕ → ℕ
next n k = cond (ltb (k + 1) n) (k + 1) 0

abbrev pub edge_of : List ℤ → ℕ → ℕ → Edge
edge_of points n k = edge_between (point_at points k) (point_at points (next n k))

-- `points` are the contour's coordinates, two to a point
abbrev pub edge_entry : View → ℕ → List ℤ → ℕ → ℕ → ℤ
edge_entry view depth points i k = entry_of depth (part_table view depth (edge_of points (length points / 2) k)) i

abbrev pub edges_from : View → ℕ → List ℤ → ℕ → ℕ → ℕ → ℤ
edges_from view depth points k m i = Σ< m (λ u. edge_entry view depth points i (k + u))
