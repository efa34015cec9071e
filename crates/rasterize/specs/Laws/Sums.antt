-- Every entry of an outline's table is the sum, over its edges, of the same entry of what each edge adds.
--
-- Main results (the laws among them are in proofs/Laws/Sums.antt)
--   entry_of-total               the sum over the edges
--   entry_of_append              the edges of two lists, one after the other
--   edges_part                   what edges add to entry i, or take from it where the sign is -1
--   added_append, added_no_edges the edges of two lists are added one list after the other; where there are none, the table stays
--   edge_entry_within            an edge in view adds at most `detail_limit` to an entry, either way
--   outline_entry_within         and n edges at most n times as much
use Rattle.std.specs.Prelude.{List, ℕ, ℤ, ◌*ℤ◌}
use Rattle.edge.specs.declared.Edge.{Edge}
use Rattle.rasterize.specs.declared.View.{View}
use Rattle.rasterize.specs.Added.{entry_of}
use Rattle.rasterize.specs.Views.{view_table}

-- ---- additions
abbrev pub edges_part : View → ℕ → ℤ → List Edge → ℕ → ℤ
edges_part view depth sign es i = sign *ℤ entry_of depth (view_table view depth es) i
