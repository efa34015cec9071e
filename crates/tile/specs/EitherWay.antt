-- A letter traced the other way round (02, P4): "A second tracing tool that we now buy goes anticlockwise round letters and clockwise round holes."
--
-- Of two outlines, let the edges of one be those of the other, each walked backwards, in whatever order (`EdgesReversed` of `accuracy`, in Laws/Reversal).
-- Where building accepts the one it accepts the other, if that has as many points as its counts say and these pass question 4. Then every entry has the
-- opposite sign, and so, as of any table and its opposite, has every figure; every grey is the same, at every level, and so is the exact area's grey, by
-- which it is measured. It is said of what the calls leave (`Outcomes`), whatever the tables held before.
--
-- The points of each contour in the reverse order are such an outline (`ReversedOutline`). A contour may also be walked back from its first point, and begin
-- at any other of them: its edges are then so walked too, by `contour_edges-back` and `contour_edges_rotate` of the same file of `accuracy`.
--
-- Definitions
--   opposite l                   a table or a picture of figures, with every sign turned
-- Main results, of any table and its opposite
--   opposite_number              a picture of the one is refused exactly where one of the other is, by the same number
--   opposite_greys               their greys are the same
--   opposite_figures             where a picture is not refused, the figures are opposite
--   opposite_cell                one cell is refused alike, and its figure is opposite
-- Main results, of edges each walked backwards
--   reversed_edges_table         they have the opposite table
--   reversed_edges_exact_grey    and in every cell the same exact grey
-- Main results, of two outlines, the edges of one those of the other, so walked
--   either_way_count,
--   either_way_every             where both have as many points as their counts say: as many edges, and the same answer to a test of every coordinate
--   either_way_accepted          where building accepts the one, it accepts the other, over a table as long
--   either_way_table             where it accepts both, it leaves opposite tables
--   either_way_greys             so every grey is the same, at every level
--   either_way_placed-accepted,
--   either_way_placed_table,
--   either_way_placed_greys      the same with placements; to be accepted, the other must pass question 12 too
-- Instance
--   letter_a-back                01's letter A walked back from its first point
use Rattle.std.specs.Prelude.{ℤ, neg_ℤ}
use mathlib.Core.List.{List, map}

abbrev pub opposite : List ℤ → List ℤ
opposite = map neg_ℤ
