-- What the tile program prints of a text, and what its table holds afterwards. What is printed is said by the text alone.
--
-- Definitions
--   outline_questions f            building's questions and then the greys', of a frame, as far as a frame can fail them
--   question11 t                   is the text that of a frame?
--   frame_questions t              those of a text, question 11 before all others
--   frame_refusal t                the number of the first that is answered no; 0 where all are answered yes
--   frame_table f, frame_greys f   the table of a frame's outline, and the greys of its level
--   drawn_text f                   what is printed where nothing is refused
--   output_text t                  what is printed
--   table_after t table            what the table holds afterwards
--   table_length                   how many entries the program's table has
--   zeros n                        n zero bytes
--   answer_length, answer_of t     a text in an array that holds the longest answer
use Rattle.std.specs.Prelude.{List, [], ◌∷◌, ◌++◌, ℕ, ◌+◌, ◌*◌, ◌^◌, length, get_or, replicate, ℤ, pos}
use Rattle.integers.specs.Units.{greatest_side}
use Rattle.haar.specs.Greys.{grey_of}
use Rattle.haar.specs.Plane.{picture_in}
use Rattle.accuracy.specs.Outline.{edge_count}
use Rattle.tile.specs.Questions.{Question, first_no, question1, question4, question5, question6, question7}
use Rattle.tile.specs.Outcomes.{if_done, table_of}
use Rattle.frame_text.specs.Over.{over}
use Rattle.frame_text.specs.Frames.{Frame}
use Rattle.frame_text.specs.Reading.{is_frame, frame_of}
use Rattle.frame_text.specs.OutputLines.{refusal_text, rows_text, summary_text, summary_length, row_length}
use Rattle.frame.specs.declared.Answer.{Answer}

-- ---- refusals
-- "Building: 1, 2, 4, 5, 3, 6. Pictures and greys: 1, 2, 7, 8, 9." "Building comes first, then the greys." Of these 2, 3, 8 and 9 never decide: the
-- program takes as much of its table and of a picture as a side and a level that pass 1 and 7 ask for, points and counts come from the same lines, and
-- the greys are drawn from the table that building left. That the two calls themselves refuse just as this says is a law (`Laws/FrameNumber`).
abbrev pub outline_questions : Frame → List Question
outline_questions f =
    question1 f.side ∷ question4 f.counts ∷ question5 f.counts ∷ question6 f.side f.points ∷ question7 f.side f.level ∷ []

-- "Is the text at most 16,384 bytes and so formed, with at least one point a line? No: 11"
abbrev pub question11 : List ℕ → Question
question11 t = record { number = 11; answer = is_frame t }

-- "No: 11, before all others."
abbrev pub frame_questions : List ℕ → List Question
frame_questions t = question11 t ∷ outline_questions (frame_of t)

abbrev pub frame_refusal : List ℕ → ℕ
frame_refusal t = first_no (frame_questions t)

-- ---- what is printed
abbrev pub frame_table : Frame → List ℤ
frame_table f = table_of f.side f.points f.counts

abbrev pub frame_greys : Frame → List ℕ
frame_greys f = picture_in (grey_of f.side) (frame_table f) f.level

-- edge count and root; then the greys, 2^level rows of as many
abbrev pub drawn_text : Frame → List ℕ
drawn_text f = summary_text (edge_count f.counts) (get_or (frame_table f) 0 (pos 0)) ++ rows_text (2 ^ f.level) (2 ^ f.level) (frame_greys f)

abbrev pub output_text : List ℕ → List ℕ
output_text t = if_done (frame_refusal t) (drawn_text (frame_of t)) (refusal_text (frame_refusal t))

-- ---- the table: the outline's over its start. "A refusal carries its number ...; tables and pictures keep what they held."
abbrev pub table_after : List ℕ → List ℤ → List ℤ
table_after t table = if_done (frame_refusal t) (over (frame_table (frame_of t)) table) table

-- "a table of 4,096 noughts": as many entries as a tile of the greatest side has
abbrev pub table_length : ℕ
table_length = greatest_side * greatest_side

-- ---- an answer: the text over the start of an array of zeros, and its length
abbrev pub zeros : ℕ → List ℕ
zeros n = replicate n 0

-- the longest has as many rows as the greatest side
abbrev pub answer_length : ℕ
answer_length = summary_length + greatest_side * row_length greatest_side

abbrev pub answer_of : List ℕ → Answer
answer_of t = record { bytes = over t (zeros answer_length); len = length t }
