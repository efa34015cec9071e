-- The words of a refusal, for a person: what is wrong, in one line.
--
-- Definitions
--   words_of r                   what is printed of a refusal
use Rattle.std.specs.Prelude.{List, ℕ, codes}
use Rattle.tile.specs.declared.refusal.Refusal.{Refusal}
use Rattle.tile.specs.declared.refusal.Refusal.TheVariants.{Side, Table, Points, Count, Sum, Coordinate, Level, Picture, Range, Cell, Frame, Placement, Record, Sheet, Place, Marks}

abbrev pub words_of : Refusal → List ℕ
words_of Side = codes "the side is none of 1, 2, 4, 8, 16, 32 and 64"
words_of Table = codes "the table has not side times side entries"
words_of Points = codes "there are more or fewer coordinates than the counts say"
words_of Count = codes "a contour has fewer than 3 points or more than 1,024"
words_of Sum = codes "there are more than 1,024 edges in all"
words_of Coordinate = codes "a coordinate is off the tile, or off the sheet"
words_of Level = codes "the tile has no such level"
words_of Picture = codes "the picture has more or fewer places than the level has cells"
words_of Range = codes "an entry of the table is out of range"
words_of Cell = codes "the level has no such cell"
words_of Frame = codes "the text is not that of a frame"
words_of Placement = codes "the placement, or a point that it moves, is out of range"
words_of Record = codes "the record counts fewer edges than are taken out"
words_of Sheet = codes "the sides are not those of a sheet and of a tile of it"
words_of Place = codes "the sheet has no tile at this place"
words_of Marks = codes "a mark is neither 0 nor 1, or there are not as many as edges"
