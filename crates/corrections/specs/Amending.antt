-- What is done with a contour once the questions about it are answered, whatever kind of contour it is: all that is known of it are its edges. Questions 13 and 9 are
-- left, and then its values are added to the table or taken from it, and its edges to the record or from it.
--
-- Definitions
--   left_by site change es table  the table that is left
--   amend_questions               13, 9
--   amend_refusal, amended        the number, and the tile afterwards
--   Amendable                     what the questions about the contour have answered, of a contour with marks: that its placement may be used on its points, and that
--                                 there are as many of these as its marks say, its type says
-- Main results (the laws among them are in proofs/Theorems/Amending.antt)
--   same_questions                what a call on a contour of points asks last are these
use Rattle.std.specs.Prelude.{◌≡◌, List, [], ◌∷◌, ℕ, ◌+◌, ◌≤◌, length, get_or, ℤ, pos, ◌*ℤ◌}
use Rattle.integers.specs.Units.{most_edges}
use Rattle.edge.specs.declared.Edge.{Edge}
use Rattle.rasterize.specs.Added.{added}
use Rattle.chords.specs.Sides.{MarkedContour}
use Rattle.chords.specs.Chords.{contour_chords}
use Rattle.tile.specs.Questions.{Question, Yes, first_no, question2, question6}
use Rattle.tile.specs.Outcomes.{if_done}
use Rattle.sheet.specs.declared.Site.{Site}
use Rattle.sheet.specs.Sites.{tile_side, reach, SiteYes, entries_at}
use Rattle.corrections.specs.declared.Change.{Change}
use Rattle.corrections.specs.Corrections.{Tile, tile_of, sign_of, question13, question9_twice, already_in, taken_out, edges_after}

abbrev pub left_by : Site → Change → List Edge → List ℤ → List ℤ
left_by site change es table = added table (λ i. sign_of change *ℤ get_or (entries_at site es) i (pos 0))

-- n is how many edges they are
abbrev pub amend_questions : Site → Change → List Edge → ℕ → Tile → List Question
amend_questions site change es n t = question13 (taken_out change n) t.edges ∷ question9_twice t.table (left_by site change es t.table) ∷ []

abbrev pub amend_refusal : Site → Change → List Edge → ℕ → Tile → ℕ
amend_refusal site change es n t = first_no (amend_questions site change es n t)

abbrev pub amended : Site → Change → List Edge → ℕ → Tile → Tile
amended site change es n t =
    if_done (amend_refusal site change es n t) (tile_of (left_by site change es t.table) (edges_after change n t.edges)) t

pub record Amendable (site : Site) (change : Change) (contour : MarkedContour) (n : ℕ) (t : Tile) : Type 0 where
  pub site_yes : SiteYes site
  pub yes2 : Yes (question2 (tile_side site) t.table)
  pub yes6 : Yes (question6 (reach site) contour.coordinates)
  pub counted : n ≡ length (contour_chords contour)
  pub few : already_in change t.edges + n ≤ most_edges
