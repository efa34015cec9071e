-- What inner functions answer.
--
-- Definitions
--   picture_size level                                  how many places a level's picture has: none where the level is out of range, and question 7 is asked first
--   draw_number, greys_drawn                            drawing a table that building left: the refusal, and what the picture then holds
--   picture_text, table_text                            what is printed of it
--   used_entries side, used_table                       how many entries building gets: none where the side is out of range, and question 1 is asked first
--   build_number, built_table, edges_built              building: the refusal, the table, the edge count
--   outline_text f table                                what is printed of a frame, by what the two calls answer
--   outline_refusal f, frame_output, frame_table_after  the refusal of a frame, what is printed of it, and what the table then holds
--   is_deeper, level_refusal                            a level that no tile of this side has, and what is then refused
--   blank                                               an answer before anything is put into it
--   answered r a                                        the answer that is printed, of what an inner function answers and leaves: a picture, or a refusal
use Rattle.std.specs.Prelude.{Bool, cond, ◌||◌, List, ◌++◌, ℕ, ◌*◌, ◌^◌, leb, ltb, ℤ, pos, get_or, take, replicate, Result, Ok, Err, ⊤}
use Rattle.integers.specs.Units.{greatest_side, greatest_depth}
use Rattle.tile.specs.declared.refusal.Refusal.{Refusal}
use Rattle.tile.specs.Answers.{number_of}
use Rattle.tile.specs.Questions.{first_no}
use Rattle.tile.specs.Outcomes.{if_done, build_refusal, build_result, build_table, draw_refusal, greys_picture}
use Rattle.frame_text.specs.Frames.{Frame}
use Rattle.frame_text.specs.OutputLines.{refusal_text, rows_text, summary_text}
use Rattle.frame_text.specs.Over.{over}
use Rattle.frame.specs.declared.Answer.{Answer}
use Rattle.frame.specs.Output.{zeros, table_length, outline_questions, frame_table, drawn_text, answer_length, answer_of}

-- ---- the greys
abbrev pub picture_size : ℕ → ℕ
picture_size level = cond (leb level greatest_depth) (4 ^ level) 0

abbrev pub draw_number : ℕ → ℕ → List ℤ → ℕ
draw_number side level table = draw_refusal side level table (picture_size level)

abbrev pub greys_drawn : ℕ → ℕ → List ℤ → List ℕ
greys_drawn side level table = greys_picture side level table (zeros (picture_size level))

abbrev pub picture_text : ℕ → ℕ → ℕ → List ℤ → List ℕ
picture_text side level edges table = summary_text edges (get_or table 0 (pos 0)) ++ rows_text (2 ^ level) (2 ^ level) (greys_drawn side level table)

abbrev pub table_text : ℕ → ℕ → ℕ → List ℤ → List ℕ
table_text side level edges table =
    if_done (draw_number side level table) (picture_text side level edges table) (refusal_text (draw_number side level table))

-- ---- building, and then the greys
abbrev pub used_entries : ℕ → ℕ
used_entries side = cond (leb side greatest_side) (side * side) 0

abbrev pub used_table : Frame → List ℤ → List ℤ
used_table f table = take (used_entries f.side) table

abbrev pub built_table : Frame → List ℤ → List ℤ
built_table f table = build_table f.side f.points f.counts (used_table f table)

abbrev pub build_number : Frame → List ℤ → ℕ
build_number f table = build_refusal f.side f.points f.counts (used_table f table)

abbrev pub edges_built : Frame → List ℤ → ℕ
edges_built f table = (build_result f.side f.points f.counts (used_table f table)).edges

abbrev pub outline_text : Frame → List ℤ → List ℕ
outline_text f table =
    if_done (build_number f table) (table_text f.side f.level (edges_built f table) (built_table f table)) (refusal_text (build_number f table))

-- ---- the same, by the questions alone
abbrev pub outline_refusal : Frame → ℕ
outline_refusal f = first_no (outline_questions f)

abbrev pub frame_output : Frame → List ℕ
frame_output f = if_done (outline_refusal f) (drawn_text f) (refusal_text (outline_refusal f))

abbrev pub frame_table_after : Frame → List ℤ → List ℤ
frame_table_after f table = if_done (outline_refusal f) (over (frame_table f) table) table

-- ---- a level with more cells across than the tile has pixels
abbrev pub is_deeper : ℕ → ℕ → Bool
is_deeper side level = ltb greatest_depth level || ltb side (2 ^ level)

-- building is asked with a table of its own, so that the program's stays as it was
abbrev pub level_refusal : ℕ → List ℤ → List ℕ → ℕ
level_refusal side points counts =
    let number = build_refusal side points counts (take (used_entries side) (replicate table_length (pos 0))) in if_done number 7 number

-- ---- what is printed
abbrev pub blank : Answer
blank = record { bytes = zeros answer_length; len = 0 }

abbrev pub answered : Result ⊤ Refusal → Answer → Answer
answered (Ok _) a = a
answered (Err r) _ = answer_of (refusal_text (number_of r))
