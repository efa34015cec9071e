-- What building on a sheet answers, and what the table holds afterwards, for every input.
--
-- Definitions
--   tile_at sheet side column row the tile at that place
--   seen_from_tile place es        the edges as they are seen from the tile's corner
--   tile_entries place es          the table of the tile: its entries, in order
--   sheet_refusal, sheet_result,
--   sheet_table                    the number; the number and the edge count; the table afterwards
use Rattle.std.specs.Prelude.{List, ℕ, ℤ}
use Rattle.edge.specs.declared.Edge.{Edge}
use Rattle.placement.specs.declared.Placement.{Placement}
use Rattle.placement.specs.Placed.{placed}
use Rattle.accuracy.specs.Outline.{edge_count}
use Rattle.accuracy.specs.OutlineTable.{tile_root}
use Rattle.accuracy.specs.Sheet.{from_tile}
use Rattle.tile.specs.Answers.{Built}
use Rattle.tile.specs.Questions.{depth_of, first_no}
use Rattle.tile.specs.Outcomes.{if_done, edges_of, table_with}
use Rattle.sheet.specs.declared.SheetTile.{SheetTile}
use Rattle.sheet.specs.SheetQuestions.{sheet_questions}

abbrev pub tile_at : ℕ → ℕ → ℕ → ℕ → SheetTile
tile_at sheet side column row = record { sheet = sheet; side = side; column = column; row = row }

abbrev pub seen_from_tile : SheetTile → List Edge → List Edge
seen_from_tile place es = from_tile (depth_of place.side) place.column place.row es

-- h, v and d of every cell are 01's, each edge's rounded on its own; "The root is now rounded for each edge too": `tile_root` is the sum over the edges of each
-- one's rounded part of the tile's exact area
abbrev pub tile_entries : SheetTile → List Edge → List ℤ
tile_entries place es = table_with place.side (tile_root (depth_of place.side) (seen_from_tile place es)) (seen_from_tile place es)

abbrev pub sheet_refusal : SheetTile → List ℤ → List ℕ → Placement → List ℤ → ℕ
sheet_refusal place points counts placement table = first_no (sheet_questions place points counts placement table)

abbrev pub sheet_result : SheetTile → List ℤ → List ℕ → Placement → List ℤ → Built
sheet_result place points counts placement table = record {
  number = sheet_refusal place points counts placement table;
  edges = if_done (sheet_refusal place points counts placement table) (edge_count counts) 0;
}

abbrev pub sheet_table : SheetTile → List ℤ → List ℕ → Placement → List ℤ → List ℤ
sheet_table place points counts placement table =
    if_done (sheet_refusal place points counts placement table) (tile_entries place (edges_of (placed placement points) counts)) table
