-- The points that the code hands on with their placement.
--
-- Definitions
--   coordinates q             the coordinates as placed, x and y in turn
--   point_count q             how many points there are
use Rattle.std.specs.Prelude.{ℕ, ◌/◌, List, length, ℤ}
use Rattle.placement.specs.Placed.{placed}
use Rattle.placement.specs.declared.points.PlacedPoints.{PlacedPoints}

abbrev pub coordinates : PlacedPoints → List ℤ
coordinates q = placed q.placement q.given.now

abbrev pub point_count : PlacedPoints → ℕ
point_count q = length (coordinates q) / 2
