-- Points with their edges' marks, as the code hands them on.
--
-- Definitions
--   is_straight k                 what a mark says
--   side_by b zs q                the straight side, or else the curve, that begins at the first of the coordinates zs and ends at q
--   contour_of c                  the contour that marked points are
--   sides_left s                  the sides that are still to come
use Rattle.std.specs.Prelude.{Bool, true, false, cond, List, ℤ}
use Rattle.accuracy.specs.Outline.{Point, point_at, edge_between}
use Rattle.placement.specs.Coordinates.{coordinates}
use Rattle.chords.specs.declared.Side.{Side}
use Rattle.chords.specs.declared.Side.TheVariants.{Straight, Curved}
use Rattle.chords.specs.declared.marked.Mark.{Mark}
use Rattle.chords.specs.declared.marked.Mark.TheVariants.{Straight as MarkedStraight, Curved as MarkedCurved}
use Rattle.chords.specs.declared.marked.MarkedPoints.{MarkedPoints}
use Rattle.chords.specs.declared.sides.Sides.{Sides}
use Rattle.chords.specs.Sides.{curve_between, sides_from, MarkedContour, marked_contour}

abbrev pub is_straight : Mark → Bool
is_straight MarkedStraight = true
is_straight MarkedCurved = false

abbrev pub side_by : Bool → List ℤ → Point → Side
side_by b zs q = cond b (Straight (edge_between (point_at zs 0) q)) (Curved (curve_between (point_at zs 0) (point_at zs 1) q))

abbrev pub contour_of : MarkedPoints → MarkedContour
contour_of c = marked_contour c.marks.now (coordinates c.points)

-- the last of them ends where the contour begins
abbrev pub sides_left : Sides → List Side
sides_left s = sides_from (point_at (coordinates s.contour) 0) s.left.marks.now (coordinates s.left.points)
