-- The questions of building on a sheet: "A sheet side or tile side not of this kind, or a tile larger than the sheet, gives 14, in place of 1; a tile place off the
-- sheet gives 15, right after it." The others are 01's and 02's, of `tile`; "Question 6 reads the sheet's side", and question 2 the tile's.
--
-- Definitions
--   sheet_sides, tile_sides        the sides of a sheet, and of its tiles
--   question14 sheet side          are the sides those of a sheet and of a tile of it?
--   question15 place               is the tile's place on the sheet?
--   place_questions                what is asked about the place and the table: 14, 15, 2
--   sheet_questions                what building on a sheet asks: 14, 15, 2, 4, 5, 3, 12, 6
use Rattle.std.specs.Prelude.{◌&&◌, List, [], ◌∷◌, ℕ, ◌/◌, leb, ltb, ℤ}
use Rattle.integers.specs.Tests.{one_of}
use Rattle.placement.specs.declared.Placement.{Placement}
use Rattle.placement.specs.Placed.{placed}
use Rattle.tile.specs.Questions.{Question, question2, question3, question4, question5, question6, question12}
use Rattle.sheet.specs.declared.SheetTile.{SheetTile}

-- "a sheet of side up to 128 pixels, a power of two"
abbrev pub sheet_sides : List ℕ
sheet_sides = 1 ∷ 2 ∷ 4 ∷ 8 ∷ 16 ∷ 32 ∷ 64 ∷ 128 ∷ []

-- "one tile of side up to 32": a tile's side, so a power of two too
abbrev pub tile_sides : List ℕ
tile_sides = 1 ∷ 2 ∷ 4 ∷ 8 ∷ 16 ∷ 32 ∷ []

-- "A sheet side or tile side not of this kind, or a tile larger than the sheet, gives 14"
abbrev pub question14 : ℕ → ℕ → Question
question14 sheet side = record { number = 14; answer = one_of sheet sheet_sides && one_of side tile_sides && leb side sheet }

-- "at a given place in whole tiles": the sheet is sheet / side tiles wide and high, and columns and rows count from 0
abbrev pub question15 : SheetTile → Question
question15 place = record { number = 15; answer = ltb place.column (place.sheet / place.side) && ltb place.row (place.sheet / place.side) }

abbrev pub place_questions : SheetTile → List ℤ → List Question
place_questions place table = question14 place.sheet place.side ∷ question15 place ∷ question2 place.side table ∷ []

abbrev pub sheet_questions : SheetTile → List ℤ → List ℕ → Placement → List ℤ → List Question
sheet_questions place points counts placement table =
    question14 place.sheet place.side ∷ question15 place ∷ question2 place.side table ∷ question4 counts ∷ question5 counts ∷ question3 points counts
    ∷ question12 placement points ∷ question6 place.sheet (placed placement points) ∷ []
