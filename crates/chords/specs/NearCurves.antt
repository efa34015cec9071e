-- "It is proved that before this rounding no chord leaves its curve by more than one step in x or y", of every curve of an outline on a sheet.
--
-- Definitions
--   NearChords s                  the chords of a side are near it: nothing is asked of a straight one, which is its own chord
--   outline_sides cs              the sides of an outline
-- Main results (the laws among them are in proofs/Theorems/NearCurves.antt)
--   side_near                     so they are of a side whose coordinates are on a sheet
--   sides_near                    and so they are of every side of an outline whose coordinates, control points' too, are on a sheet
use Rattle.std.specs.Prelude.{List}
use Rattle.integers.specs.ListSum.{joined}
use Rattle.curve.specs.ChordsNear.{ChordsNear}
use Rattle.chords.specs.declared.Side.{Side}
use Rattle.chords.specs.declared.Side.TheVariants.{Straight, Curved}
use Rattle.chords.specs.Sides.{MarkedContour, sides_of}
use Rattle.chords.specs.Chords.{splits_of}

abbrev pub NearChords : Side → Type 0
NearChords (Straight e) = Unit {0}
NearChords (Curved c) = ChordsNear c.x0 c.cx c.x1 (splits_of c) × ChordsNear c.y0 c.cy c.y1 (splits_of c)

abbrev pub outline_sides : List MarkedContour → List Side
outline_sides cs = joined sides_of cs
