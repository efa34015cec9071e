-- An outline with the points of each contour in the reverse order, as 01's letters B and H are A and G: the first kind of outline of which `EitherWay` speaks.
-- Where there are as many points as the counts say, building answers the same to it, whatever it answers.
--
-- Definitions
--   reversed points counts       the points of an outline, each contour's in the reverse order
-- Main results, where there are as many points as the counts say
--   reversed-length,
--   reversed-every               the coordinates are as many, and a test of every one has the same answer
--   edges_of_reversed,
--   edges_of_reversed-placed     the edges are those of the outline, each walked backwards, without and with a placement
--   reversed_result,
--   reversed-placed_result       over a table as long, building answers the same: it accepts both, or refuses both for the same question
--   reversed_table,
--   reversed_greys               so where it accepts the outline, tables are opposite, and every grey is the same, at every level
--   reversed-placed_table,
--   reversed-placed_greys        the same with a placement
-- Instances
--   letter_a-reversed,
--   letter_g-reversed            "B. A reversed", "H. G reversed"
use Rattle.std.specs.Prelude.{List, map, reverse, ℕ, ℤ}
use Rattle.accuracy.specs.Outline.{contours_of}
use Rattle.tile.specs.Written.{coordinates}

abbrev pub reversed : List ℤ → List ℕ → List ℤ
reversed points counts = coordinates (map reverse (contours_of counts points))
