-- What holds of every coordinate of a contour holds of the points of its sides.
--
-- Main results (the laws among them are in proofs/Laws/SidesWithin.antt)
--   numbers-split                the numbers of the first marks and those of the others
--   some-numbers, numbers_even   an edge has at least two, and they come in twos
--   Right P c                    a contour with as many coordinates as its marks say, each of which has the property P
--   SideWithin P s               a side all of whose coordinates have it
--   from_within                  the sides from some on
--   contour_within, sides_within the sides of such a contour, and of an outline
--   contours_right               the contours of an outline with as many marks and coordinates as it should have are such
use Rattle.std.specs.Prelude.{◌≡◌, ℤ, length}
use Rattle.integers.specs.ListSum.{All}
use Rattle.chords.specs.declared.Side.{Side}
use Rattle.chords.specs.declared.Side.TheVariants.{Straight, Curved}
use Rattle.chords.specs.Sides.{numbers, MarkedContour}

module _ (P : ℤ → Type 0) where
  abbrev pub Right : MarkedContour → Type 0
  Right c = (length c.coordinates ≡ numbers c.marks) × All P c.coordinates

  abbrev pub SideWithin : Side → Type 0
  SideWithin (Straight e) = P e.x0 × P e.y0 × P e.x1 × P e.y1
  SideWithin (Curved c) = P c.x0 × P c.cx × P c.x1 × P c.y0 × P c.cy × P c.y1
