-- The questions about an outline with marks: 4, 16, 3, 12, 6, 5. "Question 4 counts edges as marked; 3 wants two numbers for a straight edge, its start, and four for
-- a curved one, its start and then its control point; 6 covers control points; 5 counts chords and comes right after 6, before 13. Another mark, or not one mark
-- an edge, gives 16, after 4 and before 3."
--
-- 4, 12 and 6 are `tile`'s, letter by letter: a count is how many edges a contour has as marked, and control points stand among the coordinates.
--
-- Definitions
--   is_mark m                     0 straight, 1 curved
--   question16, question3_marked, question5_chords
--   edges_marked                  the edges that the outline is drawn as
--   marked_questions              what is asked about an outline with marks, beside so many edges that are in already
--   curve_questions               and before it about the site: 1 or 14 and 15, and 2
use Rattle.std.specs.Prelude.{Bool, ◌&&◌, List, [], ◌∷◌, ◌++◌, ℕ, ◌+◌, eqb, leb, length, ℤ}
use Rattle.integers.specs.Units.{most_edges}
use Rattle.integers.specs.Tests.{every}
use Rattle.edge.specs.declared.Edge.{Edge}
use Rattle.placement.specs.declared.Placement.{Placement}
use Rattle.placement.specs.Placed.{placed}
use Rattle.accuracy.specs.Outline.{edge_count}
use Rattle.chords.specs.Sides.{numbers, marked_contours}
use Rattle.chords.specs.Chords.{outline_chords}
use Rattle.tile.specs.Questions.{Question, question4, question6, question12}
use Rattle.sheet.specs.declared.Site.{Site}
use Rattle.sheet.specs.Sites.{reach, site_questions}

-- "a mark, 0 straight or 1 curved, for each edge"
abbrev pub is_mark : ℕ → Bool
is_mark m = leb m 1

abbrev pub question16 : List ℕ → List ℕ → Question
question16 counts marks = record { number = 16; answer = every is_mark marks && eqb (length marks) (edge_count counts) }

abbrev pub question3_marked : List ℤ → List ℕ → Question
question3_marked points marks = record { number = 3; answer = eqb (length points) (numbers marks) }

-- for putting in with the record's, `already`; for building and taking out beside none
abbrev pub question5_chords : ℕ → List Edge → Question
question5_chords already es = record { number = 5; answer = leb (already + length es) most_edges }

-- "A placement moves control points like the other points, before the chords are made."
abbrev pub edges_marked : List ℤ → List ℕ → List ℕ → Placement → List Edge
edges_marked points counts marks placement = outline_chords (marked_contours counts marks (placed placement points))

abbrev pub marked_questions : ℕ → List ℤ → List ℕ → List ℕ → Placement → ℕ → List Question
marked_questions reach points counts marks placement already =
    question4 counts ∷ question16 counts marks ∷ question3_marked points marks ∷ question12 placement points ∷ question6 reach (placed placement points)
    ∷ question5_chords already (edges_marked points counts marks placement) ∷ []

abbrev pub curve_questions : Site → List ℤ → List ℕ → List ℕ → Placement → ℕ → List ℤ → List Question
curve_questions site points counts marks placement already table =
    site_questions site table ++ marked_questions (reach site) points counts marks placement already
