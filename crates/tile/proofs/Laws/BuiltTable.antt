-- The table that building leaves: the outline's coefficients in their order, whatever it held before; and one that the drawing calls do not refuse.
--
-- Main results
--   built_is                     what building leaves
--   table_with-length            the table of a list of edges, with whatever root, has side × side entries
--   table_length_lem             and so that of their own root; `table_of` is that of an outline's edges
--   table_same                   it holds the coefficients of the edges' table
--   table_within, table_in_range its entries are at most what the most edges add, and so in question 9's range
use Rattle.std.specs.Prelude.{◌≡◌, List, ℕ, ◌*◌, ◌≤◌, length, get_or, ℤ, pos}
use Rattle.std.proofs.Common.{sym, ◌∙◌, ap, lit≤}
use Rattle.integers.specs.Units.{entry_limit, built_entry_limit}
use Rattle.integers.proofs.Theorems.Order.{pos-≤ℤ}
use Rattle.integers.specs.Within.{Within}
use Rattle.integers.proofs.Theorems.Within.{within_le}
use Rattle.edge.specs.declared.Edge.{Edge}
use Rattle.haar.specs.Table.{stored, SameBelow}
use Rattle.haar.specs.Plane.{dimensions}
use Rattle.haar.specs.Drawable.{InRange}
use Rattle.haar.proofs.Laws.Entries.{entries-length, entries-stored, entries_within}
use Rattle.accuracy.specs.Outline.{signed_area}
use Rattle.accuracy.specs.OutlineTable.{table_from}
use Rattle.tile.specs.Questions.{Yes, depth_of, question1}
use Rattle.tile.specs.Outcomes.{if_done, table_of, edges_table, table_with, build_refusal, build_table}
use Rattle.tile.proofs.Laws.Sides.{side_depth, side_cells}
use Rattle.tile.proofs.Laws.Accepted.{AcceptedEdges}

pub built_is : (side : ℕ) (points : List ℤ) (counts : List ℕ) (before : List ℤ) → build_refusal side points counts before ≡ 0
    → build_table side points counts before ≡ table_of side points counts
built_is side points counts before done = ap (λ n. if_done n (table_of side points counts) before) done

module _ (side : ℕ) (root : ℤ) (es : List Edge) where
  pub table_with-length : Yes (question1 side) → length (table_with side root es) ≡ side * side
  table_with-length y = entries-length dimensions (depth_of side) (table_from root (depth_of side) es) ∙ sym (side_cells side y)

  pub table_same : SameBelow dimensions (depth_of side) (stored dimensions (table_with side root es)) (table_from root (depth_of side) es)
  table_same = entries-stored dimensions (depth_of side) (table_from root (depth_of side) es)

pub table_length_lem : (side : ℕ) (es : List Edge) → Yes (question1 side) → length (edges_table side es) ≡ side * side
table_length_lem side es = table_with-length side (signed_area es) es

-- few edges on a small tile: no entry passes 2^38
module _ {side : ℕ} {root_of : List Edge → ℤ} {twice_limit : ℕ → ℕ → ℕ} {es : List Edge} (a : AcceptedEdges side root_of twice_limit es) where
  pub table_within : (i : ℕ) → Within (pos built_entry_limit) (get_or (table_with side (root_of es) es) i (pos 0))
  table_within i =
      entries_within dimensions (depth_of side) built_entry_limit (table_from (root_of es) (depth_of side) es)
      (a.accurate.entries (side_depth side a.is_side) a.few_edges) i

  pub table_in_range : InRange (table_with side (root_of es) es)
  table_in_range = let larger : built_entry_limit ≤ entry_limit = lit≤ tt in record { each = λ i. within_le (pos-≤ℤ larger) (table_within i) }
