-- What building an outline with marks answers, and what the table holds afterwards, for every input. "Edge counts and closeness are then those of the chords."
--
-- Definitions
--   marked_result                 what the questions about the outline answer: the number, and the edges where it is 0
--   curves_refusal, curves_result,
--   curves_table                  the number; the number and the edge count; the table afterwards
use Rattle.std.specs.Prelude.{List, ℕ, length, ℤ}
use Rattle.placement.specs.declared.Placement.{Placement}
use Rattle.tile.specs.Answers.{Built}
use Rattle.tile.specs.Questions.{first_no}
use Rattle.tile.specs.Outcomes.{if_done}
use Rattle.sheet.specs.declared.Site.{Site}
use Rattle.sheet.specs.Sites.{entries_at}
use Rattle.curves.specs.MarkedQuestions.{edges_marked, marked_questions, curve_questions}

abbrev pub marked_result : ℕ → List ℤ → List ℕ → List ℕ → Placement → ℕ → Built
marked_result reach points counts marks placement already = record {
  number = first_no (marked_questions reach points counts marks placement already);
  edges = if_done (first_no (marked_questions reach points counts marks placement already)) (length (edges_marked points counts marks placement)) 0;
}

abbrev pub curves_refusal : Site → List ℤ → List ℕ → List ℕ → Placement → List ℤ → ℕ
curves_refusal site points counts marks placement table = first_no (curve_questions site points counts marks placement 0 table)

abbrev pub curves_result : Site → List ℤ → List ℕ → List ℕ → Placement → List ℤ → Built
curves_result site points counts marks placement table = record {
  number = curves_refusal site points counts marks placement table;
  edges = if_done (curves_refusal site points counts marks placement table) (length (edges_marked points counts marks placement)) 0;
}

-- `entries_at` is 01's table for a tile alone, and P5's for a tile of a sheet
abbrev pub curves_table : Site → List ℤ → List ℕ → List ℕ → Placement → List ℤ → List ℤ
curves_table site points counts marks placement table =
    if_done (curves_refusal site points counts marks placement table) (entries_at site (edges_marked points counts marks placement)) table
