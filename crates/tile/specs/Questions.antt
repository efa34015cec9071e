-- The questions. Each call asks its own in the papers' order, and "The first "no" decides."
--
-- Definitions
--   depth_of side                            the depth of a tile
--   Question, Yes q, No q                    a number, and the answer: true for yes
--   DecidedBy before q                       the questions before q are answered yes, and q is answered no
--   question1 .. question10                  01's ten questions
--   question12                               02's question about a placement
--   question5_beside                         question 5 beside edges that are in already
--   first_no qs                              the number of the first question whose answer is no; 0 where all are yes
--   building_questions, drawing_questions,
--   cell_questions                           what building, pictures and greys, and one cell ask
--   placed_questions                         what building with a placement asks
--   table_questions, outline_questions       its two parts: about the tile, and about the outline, beside edges that are in already
--   question8_all, pyramid_questions         question 8 of all levels in one buffer, and what drawing them asks
use Rattle.std.specs.Prelude.{◌≡◌, Bool, true, false, ◌&&◌, cond, List, [], ◌∷◌, ℕ, suc, ◌+◌, ◌*◌, ◌^◌, eqb, leb, ltb, length, ℤ, pos, neg_ℤ}
use Rattle.std.specs.Int.Count.{count_trailing_zeros}
use Rattle.std.specs.Int.Signed.{le_z}
use Rattle.integers.specs.Units.{steps_per_pixel, fewest_points, most_points, most_edges, entry_limit}
use Rattle.integers.specs.Tests.{every, one_of}
use Rattle.haar.specs.Pyramid.{places}
use Rattle.placement.specs.declared.Placement.{Placement}
use Rattle.placement.specs.Placed.{placeable, placed}
use Rattle.accuracy.specs.Outline.{edge_count}

-- "the depth is the number of noughts below that bit", of the side's one bit: trailing zeros of its 32 bits
abbrev pub depth_of : ℕ → ℕ
depth_of side = count_trailing_zeros 32 side

pub record Question : Type 0 where
  pub number : ℕ
  pub answer : Bool

abbrev pub Yes : Question → Type 0
Yes q = q.answer ≡ true

abbrev pub No : Question → Type 0
No q = q.answer ≡ false

abbrev pub DecidedBy : List Question → Question → Type 0
DecidedBy [] q = No q
DecidedBy (b ∷ before) q = Yes b × DecidedBy before q

-- ---- the ten of 01
-- "Is the side 1, 2, 4, 8, 16, 32 or 64?"
abbrev pub question1 : ℕ → Question
question1 side = record { number = 1; answer = one_of side (1 ∷ 2 ∷ 4 ∷ 8 ∷ 16 ∷ 32 ∷ 64 ∷ []) }

-- "Does the table have exactly side × side entries?"
abbrev pub question2 : ℕ → List ℤ → Question
question2 side table = record { number = 2; answer = eqb (length table) (side * side) }

-- "Are the points exactly twice as many numbers as the counts' sum?"
abbrev pub question3 : List ℤ → List ℕ → Question
question3 points counts = record { number = 3; answer = eqb (length points) (2 * edge_count counts) }

-- "Is every count from 3 to 1,024?"
abbrev pub question4 : List ℕ → Question
question4 counts = record { number = 4; answer = every (λ n. leb fewest_points n && leb n most_points) counts }

-- "Is the counts' sum at most 1,024?"
abbrev pub question5 : List ℕ → Question
question5 counts = record { number = 5; answer = leb (edge_count counts) most_edges }

-- "Is every coordinate from 0 to 256 × side?"
abbrev pub question6 : ℕ → List ℤ → Question
question6 side points = record { number = 6; answer = every (λ z. le_z (pos 0) z && le_z z (pos (steps_per_pixel * side))) points }

-- "Is the level at most the depth?"
abbrev pub question7 : ℕ → ℕ → Question
question7 side level = record { number = 7; answer = leb level (depth_of side) }

-- "Has the picture exactly 4^level places?" `size` is how many it has, one for each figure or grey.
abbrev pub question8 : ℕ → ℕ → Question
question8 level size = record { number = 8; answer = eqb size (4 ^ level) }

-- "Is every entry of the table from −2^40 to 2^40?"
abbrev pub question9 : List ℤ → Question
question9 table = record { number = 9; answer = every (λ z. le_z (neg_ℤ (pos entry_limit)) z && le_z z (pos entry_limit)) table }

-- "Are both cell numbers below 2^level?"
abbrev pub question10 : ℕ → ℕ → ℕ → Question
question10 level cx cy = record { number = 10; answer = ltb cx (2 ^ level) && ltb cy (2 ^ level) }

-- ---- of 02
-- "A float or a point to be moved outside these rules, an infinity or a not-a-number gives 12": is every float of the placement a multiple of 1/65,536
-- in its range, and every point that it moves where it may be? With no placement nothing is moved, and nothing is asked.
abbrev pub question12 : Placement → List ℤ → Question
question12 placement points = record { number = 12; answer = placeable placement points }

-- "For putting in, question 5 is whether the record's count plus the contour's is at most 1,024." `already` is that record's count; where it is 0 this is
-- 01's question.
abbrev pub question5_beside : ℕ → List ℕ → Question
question5_beside already counts = record { number = 5; answer = leb (already + edge_count counts) most_edges }

-- ---- "The first "no" decides."
abbrev pub first_no : List Question → ℕ
first_no [] = 0
first_no (q ∷ qs) = cond q.answer (first_no qs) q.number

-- "Building: 1, 2, 4, 5, 3, 6."
abbrev pub building_questions : ℕ → List ℤ → List ℕ → List ℤ → List Question
building_questions side points counts table =
    question1 side ∷ question2 side table ∷ question4 counts ∷ question5 counts ∷ question3 points counts ∷ question6 side points ∷ []

-- "Pictures and greys: 1, 2, 7, 8, 9."
abbrev pub drawing_questions : ℕ → ℕ → List ℤ → ℕ → List Question
drawing_questions side level table size = question1 side ∷ question2 side table ∷ question7 side level ∷ question8 level size ∷ question9 table ∷ []

-- "One cell: 1, 2, 7, 10, 9."
abbrev pub cell_questions : ℕ → ℕ → ℕ → ℕ → List ℤ → List Question
cell_questions side level cx cy table = question1 side ∷ question2 side table ∷ question7 side level ∷ question10 level cx cy ∷ question9 table ∷ []

-- "12, after 3 and before 6, and 6 is decided on the placed points": 1, 2, 4, 5, 3, 12, 6.
abbrev pub placed_questions : ℕ → List ℤ → List ℕ → Placement → List ℤ → List Question
placed_questions side points counts placement table =
    question1 side ∷ question2 side table ∷ question4 counts ∷ question5 counts ∷ question3 points counts ∷ question12 placement points
    ∷ question6 side (placed placement points) ∷ []

-- ---- in two parts, of which the calls of 02 are made too: about the tile, and about an outline. There question 6 reads a side of its own, `reach`, and so many
-- edges are in the table already.
abbrev pub table_questions : ℕ → List ℤ → List Question
table_questions side table = question1 side ∷ question2 side table ∷ []

abbrev pub outline_questions : ℕ → List ℤ → List ℕ → Placement → ℕ → List Question
outline_questions reach points counts placement already =
    question4 counts ∷ question5_beside already counts ∷ question3 points counts ∷ question12 placement points ∷ question6 reach (placed placement points) ∷ []

-- ---- all levels in one buffer: it has exactly 1 + 4 + .. + 4^depth places. There is no level to ask about.
abbrev pub question8_all : ℕ → ℕ → Question
question8_all side size = record { number = 8; answer = eqb size (places (suc (depth_of side))) }

abbrev pub pyramid_questions : ℕ → List ℤ → ℕ → List Question
pyramid_questions side table size = question1 side ∷ question2 side table ∷ question8_all side size ∷ question9 table ∷ []
