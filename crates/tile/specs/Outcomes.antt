-- What each call answers, and what each buffer holds afterwards, for every input. The number in an answer is 0 where the work is done, which is ours:
-- 01's numbers begin at 1. "A refusal carries its number and the edge count or figure 0; tables and pictures keep what they held."
--
-- Definitions
--   if_done number a b                          a where the number is 0, and else b
--   edges_of points counts                      the edges of an outline
--   table_of side points counts                 the table of an outline: its entries, in order
--   edges_table side es                         the same of a list of edges, whatever kind of outline they are of
--   table_with side root es                     and with another root than the signed area
--   build_refusal, build_result, build_table    building: the number; the number and the edge count; the table afterwards
--   placed_refusal, placed_result, placed_table building with a placement: the same, and the table is that of the outline as placed
--   draw_refusal                                pictures of figures or of greys: the number
--   figures_picture, greys_picture              the picture afterwards
--   picture_index                               where a cell stands in a picture
--   cell_refusal, cell_result                   one cell: the number; the number and the figure
--   pyramid_refusal, pyramid_pictures           all levels of greys: the number; the buffer afterwards
--   level_part level pictures                   a level's part of the buffer
use Rattle.std.specs.Prelude.{List, ℕ, zero, suc, ◌+◌, ◌*◌, ◌^◌, length, take, drop, ℤ, pos}
use Rattle.edge.specs.declared.Edge.{Edge}
use Rattle.haar.specs.Entries.{entries}
use Rattle.haar.specs.Greys.{grey_of}
use Rattle.haar.specs.Plane.{dimensions, figure_in, picture_in}
use Rattle.haar.specs.Pyramid.{places, pyramid_in}
use Rattle.placement.specs.declared.Placement.{Placement}
use Rattle.placement.specs.Placed.{placed}
use Rattle.accuracy.specs.Outline.{contours_of, edge_count, outline_edges}
use Rattle.accuracy.specs.OutlineTable.{outline_table, table_from}
use Rattle.tile.specs.Answers.{Built, CellFigure}
use Rattle.tile.specs.Questions.{depth_of, first_no, building_questions, placed_questions, drawing_questions, cell_questions, pyramid_questions}

abbrev pub if_done : {A : Type 0} → ℕ → A → A → A
if_done zero a b = a
if_done (suc n) a b = b

-- ---- building
abbrev pub edges_of : List ℤ → List ℕ → List Edge
edges_of points counts = outline_edges (contours_of counts points)

-- `outline_table` has for each detail of each cell the sum over the edges of the exact Haar line integral, each edge's rounded on its own, and the
-- signed area for the root; `entries` puts them in the table's order (`TableEntries`).
abbrev pub table_of : ℕ → List ℤ → List ℕ → List ℤ
table_of side points counts = entries dimensions (depth_of side) (outline_table (depth_of side) (edges_of points counts))

abbrev pub edges_table : ℕ → List Edge → List ℤ
edges_table side es = entries dimensions (depth_of side) (outline_table (depth_of side) es)

abbrev pub table_with : ℕ → ℤ → List Edge → List ℤ
table_with side root es = entries dimensions (depth_of side) (table_from root (depth_of side) es)

abbrev pub build_refusal : ℕ → List ℤ → List ℕ → List ℤ → ℕ
build_refusal side points counts table = first_no (building_questions side points counts table)

-- "Building reports the edge count, the sum of the counts"
abbrev pub build_result : ℕ → List ℤ → List ℕ → List ℤ → Built
build_result side points counts table = record {
  number = build_refusal side points counts table;
  edges = if_done (build_refusal side points counts table) (edge_count counts) 0;
}

abbrev pub build_table : ℕ → List ℤ → List ℕ → List ℤ → List ℤ
build_table side points counts table = if_done (build_refusal side points counts table) (table_of side points counts) table

-- ---- building with a placement: "the drawn outline is the one that demand 3 measures", that of the points as placed
abbrev pub placed_refusal : ℕ → List ℤ → List ℕ → Placement → List ℤ → ℕ
placed_refusal side points counts placement table = first_no (placed_questions side points counts placement table)

abbrev pub placed_result : ℕ → List ℤ → List ℕ → Placement → List ℤ → Built
placed_result side points counts placement table = record {
  number = placed_refusal side points counts placement table;
  edges = if_done (placed_refusal side points counts placement table) (edge_count counts) 0;
}

abbrev pub placed_table : ℕ → List ℤ → List ℕ → Placement → List ℤ → List ℤ
placed_table side points counts placement table =
    if_done (placed_refusal side points counts placement table) (table_of side (placed placement points) counts) table

-- ---- pictures of figures and of greys
abbrev pub draw_refusal : ℕ → ℕ → List ℤ → ℕ → ℕ
draw_refusal side level table size = first_no (drawing_questions side level table size)

-- the Haar sums of the table (`DrawnFigures`)
abbrev pub figures_picture : ℕ → ℕ → List ℤ → List ℤ → List ℤ
figures_picture side level table picture = if_done (draw_refusal side level table (length picture)) (picture_in (λ f. f) table level) picture

abbrev pub greys_picture : ℕ → ℕ → List ℤ → List ℕ → List ℕ
greys_picture side level table picture = if_done (draw_refusal side level table (length picture)) (picture_in (grey_of side) table level) picture

-- where cell (cx, cy) stands in a picture: "row by row from the top left"
abbrev pub picture_index : ℕ → ℕ → ℕ → ℕ
picture_index level cx cy = cy * 2 ^ level + cx

-- ---- one cell
abbrev pub cell_refusal : ℕ → ℕ → ℕ → ℕ → List ℤ → ℕ
cell_refusal side level cx cy table = first_no (cell_questions side level cx cy table)

abbrev pub cell_result : ℕ → ℕ → ℕ → ℕ → List ℤ → CellFigure
cell_result side level cx cy table = record {
  number = cell_refusal side level cx cy table;
  figure = if_done (cell_refusal side level cx cy table) (figure_in table level cx cy) (pos 0);
}

-- ---- all levels of greys in one buffer, level 0 first
abbrev pub pyramid_refusal : ℕ → List ℤ → ℕ → ℕ
pyramid_refusal side table size = first_no (pyramid_questions side table size)

abbrev pub pyramid_pictures : ℕ → List ℤ → List ℕ → List ℕ
pyramid_pictures side table pictures = if_done (pyramid_refusal side table (length pictures)) (pyramid_in (grey_of side) table (suc (depth_of side))) pictures

-- the 4^level places behind those of the levels before it
abbrev pub level_part : ℕ → List ℕ → List ℕ
level_part level pictures = take (4 ^ level) (drop (places level) pictures)
