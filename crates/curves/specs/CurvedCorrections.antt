-- Putting a contour with curved edges in, taking it out (02, P3 and P6), at either kind of site: what each call answers and leaves, for every input. What is done
-- once the questions about the contour are answered is `corrections`' (`Amending`), of its edges.
--
-- Definitions
--   CurveCall                      a call, but for the tile that it is made on
--   contour_in k, edges_in k       its contour, and the edges that this is drawn as
--   curve_call_questions           what a call asks about its contour: 1 or 14 and 15, and 2, 4, 16, 3, 12, 6, 5; for putting in 5 counts the record's edges too
--   correct_curve_refusal          the number that it answers: after these 13 and 9
--   corrected_curve                the tile afterwards
--   curve_call_of, putting_curve,
--   taking_curve                   a call from what the code is given
use Rattle.std.specs.Prelude.{List, [], ◌∷◌, ◌++◌, ℕ, length, ℤ}
use Rattle.edge.specs.declared.Edge.{Edge}
use Rattle.placement.specs.declared.Placement.{Placement}
use Rattle.placement.specs.Placed.{placed}
use Rattle.chords.specs.Sides.{MarkedContour, marked_contour}
use Rattle.chords.specs.Chords.{contour_chords}
use Rattle.tile.specs.Questions.{Question, first_no}
use Rattle.tile.specs.Outcomes.{if_done}
use Rattle.sheet.specs.declared.Site.{Site}
use Rattle.corrections.specs.declared.Change.{Change}
use Rattle.corrections.specs.declared.Change.TheVariants.{Put, Take}
use Rattle.corrections.specs.Corrections.{Tile, tile_of, already_in, edges_after}
use Rattle.corrections.specs.Amending.{left_by, amend_questions}
use Rattle.curves.specs.MarkedQuestions.{curve_questions}

pub record CurveCall : Type 0 where
  pub change : Change
  pub site : Site
  pub points : List ℤ
  pub count : ℕ
  pub marks : List ℕ
  pub placement : Placement

-- "the contour is the points as placed", control points too
abbrev pub contour_in : CurveCall → MarkedContour
contour_in k = marked_contour k.marks (placed k.placement k.points)

abbrev pub edges_in : CurveCall → List Edge
edges_in k = contour_chords (contour_in k)

abbrev pub curve_call_questions : CurveCall → Tile → List Question
curve_call_questions k t = curve_questions k.site k.points (k.count ∷ []) k.marks k.placement (already_in k.change t.edges) t.table

-- "5 counts chords and comes right after 6, before 13"
abbrev pub correct_curve_refusal : CurveCall → Tile → ℕ
correct_curve_refusal k t = first_no (curve_call_questions k t ++ amend_questions k.site k.change (edges_in k) (length (edges_in k)) t)

-- "A refused call changes nothing."
abbrev pub corrected_curve : CurveCall → Tile → Tile
corrected_curve k t =
    if_done (correct_curve_refusal k t) (tile_of (left_by k.site k.change (edges_in k) t.table) (edges_after k.change (length (edges_in k)) t.edges)) t

-- ---- as the code is given them
abbrev pub curve_call_of : Change → Site → List ℤ → ℕ → List ℕ → Placement → CurveCall
curve_call_of change site points count marks placement =
    record { change = change; site = site; points = points; count = count; marks = marks; placement = placement }

abbrev pub putting_curve : Site → List ℤ → ℕ → List ℕ → Placement → CurveCall
putting_curve = curve_call_of Put

abbrev pub taking_curve : Site → List ℤ → ℕ → List ℕ → Placement → CurveCall
taking_curve = curve_call_of Take
