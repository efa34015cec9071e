-- The table of an outline: what each edge adds to each entry, added up over the edges.
--
-- Definitions
--   edge_table depth e                      what one edge adds: its term of the signed area, and its three rounded details in each cell
--   outline_table depth es                  the sums over the edges
--   rooted_table, table_from                the same with another root
--   tile_root, tile_table depth es          and with the root that a tile of a sheet has: edges may lie beyond the tile
use Rattle.std.specs.Prelude.{List, ℕ, ℤ}
use Rattle.integers.specs.ListSum.{total}
use Rattle.edge.specs.declared.Edge.{Edge}
use Rattle.edge.specs.Rounded.{details, root_term, rounded_area}
use Rattle.haar.specs.Table.{Coefficients}
use Rattle.haar.specs.Plane.{dimensions}
use Rattle.accuracy.specs.Outline.{signed_area}
use Rattle.accuracy.specs.Tile.{square, tile}
use Rattle.accuracy.specs.ExactDetails.{numbered}

-- "Each edge's three values are rounded on their own": `details` are the rounded ones
abbrev pub edge_table : ℕ → Edge → Coefficients dimensions
edge_table depth e = record { root = root_term e; detail = λ j cell k. numbered (details e (square depth j cell)) k }

-- "Entry 0 is the root, the signed area of the whole outline", the sum of the edges' root terms. With no edge every entry is 0.
abbrev pub outline_table : ℕ → List Edge → Coefficients dimensions
outline_table depth es = record { root = signed_area es; detail = λ j cell k. total (λ e. (edge_table depth e).detail j cell k) es }

-- ---- with another root: of one edge, and of all of them. With the edge's root term and the signed area they are the two above.
abbrev pub rooted_table : ℤ → ℕ → Edge → Coefficients dimensions
rooted_table root depth e = record { root = root; detail = (edge_table depth e).detail }

abbrev pub table_from : ℤ → ℕ → List Edge → Coefficients dimensions
table_from root depth es = record { root = root; detail = (outline_table depth es).detail }

-- A tile of a sheet (02, P5): "The root is now rounded for each edge too". An edge's part of the tile's exact area, which an edge beyond the tile may have
-- too: to the right of it, in its rows.
abbrev pub tile_root : ℕ → List Edge → ℤ
tile_root depth es = total (λ e. rounded_area e (tile depth)) es

abbrev pub tile_table : ℕ → List Edge → Coefficients dimensions
tile_table depth es = table_from (tile_root depth es) depth es
