-- The table of a given outline, and the pictures of a given table, by computing them.
--
-- A table is computed by the closed form of its edges' details, `closed_table` of `accuracy`. What is to be unfolded besides stands on the two
-- `unfolding` lines here, so a proof names `computed_table` or `computed_picture` alone.
--
-- Main results
--   computed_table                an outline's table, by the closed form of its edges' details
--   table_of_computed             it is the table
--   computed_picture              a picture of figures or of greys
use Rattle.std.specs.Prelude.{◌≡◌, List, ℕ, ℤ}
use Rattle.std.proofs.Common.{ap}
use Rattle.std.specs.Int.Count.{ones, count_trailing_zeros}
use Rattle.integers.specs.MinMax.{min, max}
use Rattle.integers.specs.Magnitude.{abs}
use Rattle.integers.specs.Clamp.{clamp}
use Rattle.integers.specs.RangeSum.{Σ<}
use Rattle.integers.specs.Rounding.{round_half_up, floor}
use Rattle.haar.specs.Cells.{row_major, cell_at, parent, child_number}
use Rattle.haar.specs.Signs.{alternate, sign as detail_sign}
use Rattle.haar.specs.Table.{index}
use Rattle.haar.specs.Figures.{signed_details, figure}
use Rattle.haar.specs.Pictures.{tabulate}
use Rattle.haar.specs.Entries.{level_details, entries}
use Rattle.haar.specs.Greys.{ink_grey, grey}
use Rattle.haar.specs.Plane.{dimensions, picture_in}
use Rattle.accuracy.specs.Outline.{points_of, contours_of, through, contour_edges, outline_edges}
use Rattle.accuracy.proofs.Laws.ClosedTable.{closed_table, outline_table-closed}
use Rattle.tile.specs.Questions.{depth_of}
use Rattle.tile.specs.Outcomes.{edges_of, table_of}

unfoldable pub computed_table : ℕ → List ℤ → List ℕ → List ℤ
unfolding count_trailing_zeros points_of contours_of through contour_edges outline_edges closed_table cell_at tabulate level_details entries
computed_table side points counts = entries dimensions (depth_of side) (closed_table (depth_of side) (edges_of points counts))

pub table_of_computed : (side : ℕ) (points : List ℤ) (counts : List ℕ) → table_of side points counts ≡ computed_table side points counts
unfolding computed_table
table_of_computed side points counts = ap (entries dimensions (depth_of side)) (outline_table-closed (depth_of side) (edges_of points counts))

unfoldable pub computed_picture : {A : Type 0} → (ℤ → A) → List ℤ → ℕ → List A
unfolding min max abs clamp round_half_up floor ink_grey grey ones alternate detail_sign row_major cell_at parent child_number index Σ< signed_details figure tabulate
computed_picture g table level = picture_in g table level
