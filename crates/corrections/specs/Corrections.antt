-- Putting a contour in, taking it out (02, P3), of a tile alone and of a tile of a sheet (P5): what each call answers and leaves, for every input. What is asked
-- and added goes by the site (`Sites` of `sheet`): at `Alone side` it is what it is without sheets.
--
-- Definitions
--   Tile                           a table, and the record of its edge count
--   Call                           a call, but for the tile that it is made on: `Change`, putting in or taking out, is the code's
--   contour_of k                   the contour of a call
--   part site c i                  what a contour adds to entry i of a tile's table
--   sign_of                        what its values are multiplied by
--   would_leave k t                the table that a call would leave
--   question13, question9_twice    02's questions about the record and the range
--   already_in, taken_out          what questions 5 and 13 read of the record and of the count
--   contour_questions              what a call asks first, about its contour: 1, 2, 4, 5, 3, 12, 6, or on a sheet 14, 15, 2, 4, 5, 3, 12, 6
--   tile_questions                 and then, about the tile: 13, 9
--   correcting_questions           all of them
--   correct_refusal                the number that it answers
--   edges_after, corrected         the record and the tile afterwards
--   tile_of, call_of, putting,
--   taking, putting_on, taking_on  a tile and a call from what the code is given
use Rattle.std.specs.Prelude.{◌&&◌, List, [], ◌∷◌, ◌++◌, ℕ, ◌+◌, ◌-◌, leb, get_or, ℤ, pos, negsuc, ◌*ℤ◌}
use Rattle.placement.specs.declared.Placement.{Placement}
use Rattle.placement.specs.Placed.{placed}
use Rattle.accuracy.specs.Outline.{points_of, contour_edges}
use Rattle.rasterize.specs.Added.{added}
use Rattle.tile.specs.Questions.{Question, first_no, question9}
use Rattle.tile.specs.Outcomes.{if_done}
use Rattle.tile.specs.Written.{Contour}
use Rattle.sheet.specs.declared.SheetTile.{SheetTile}
use Rattle.sheet.specs.declared.Site.{Site}
use Rattle.sheet.specs.declared.Site.TheVariants.{Alone, OnSheet}
use Rattle.sheet.specs.Sites.{site_outline_questions, entries_at}
use Rattle.corrections.specs.declared.Change.{Change}
use Rattle.corrections.specs.declared.Change.TheVariants.{Put, Take}

-- "A tile is now a table with a record of its edge count."
pub record Tile : Type 0 where
  pub table : List ℤ
  pub edges : ℕ

-- "Each takes one count, its points and a placement"
pub record Call : Type 0 where
  pub change : Change
  pub site : Site
  pub points : List ℤ
  pub count : ℕ
  pub placement : Placement

-- ---- the contour
-- "the contour is the points as placed"
abbrev pub contour_of : Call → Contour
contour_of k = points_of (placed k.placement k.points)

-- "a contour's rounded values": the entries of the table of that contour alone
abbrev pub part : Site → Contour → ℕ → ℤ
part site c i = get_or (entries_at site (contour_edges c)) i (pos 0)

-- "Putting in adds a contour's rounded values to the table; taking out is its inverse."
abbrev pub sign_of : Change → ℤ
sign_of Put = pos 1
sign_of Take = negsuc 0

-- (`added` of `rasterize`: every entry with its own added)
abbrev pub would_leave : Call → Tile → List ℤ
would_leave k t = added t.table (λ i. sign_of k.change *ℤ part k.site (contour_of k) i)

-- ---- the questions
-- "Taking out more edges than the record counts gives 13": does the record count as many as are taken out?
abbrev pub question13 : ℕ → ℕ → Question
question13 out edges = record { number = 13; answer = leb out edges }

-- "Question 9 is decided on the table before the call and on the one it would leave." It is one question, and has one number.
abbrev pub question9_twice : List ℤ → List ℤ → Question
question9_twice before left = record { number = 9; answer = (question9 before).answer && (question9 left).answer }

-- how many edges question 5 counts beside the contour's: for taking out it is 01's question, of the contour alone
abbrev pub already_in : Change → ℕ → ℕ
already_in Put edges = edges
already_in Take edges = 0

-- how many edges question 13 is about: putting in takes out none, so its answer there is yes
abbrev pub taken_out : Change → ℕ → ℕ
taken_out Put count = 0
taken_out Take count = count

abbrev pub contour_questions : Call → Tile → List Question
contour_questions k t = site_outline_questions k.site k.points (k.count ∷ []) k.placement (already_in k.change t.edges) t.table

-- "13, after 6 and before 9"
abbrev pub tile_questions : Call → Tile → List Question
tile_questions k t = question13 (taken_out k.change k.count) t.edges ∷ question9_twice t.table (would_leave k t) ∷ []

abbrev pub correcting_questions : Call → Tile → List Question
correcting_questions k t = contour_questions k t ++ tile_questions k t

-- ---- the outcome
abbrev pub correct_refusal : Call → Tile → ℕ
correct_refusal k t = first_no (correcting_questions k t)

abbrev pub edges_after : Change → ℕ → ℕ → ℕ
edges_after Put count edges = edges + count
edges_after Take count edges = edges - count

-- "A refused call changes nothing."
abbrev pub corrected : Call → Tile → Tile
corrected k t = if_done (correct_refusal k t) (record { table = would_leave k t; edges = edges_after k.change k.count t.edges }) t

-- ---- as the code is given them
abbrev pub tile_of : List ℤ → ℕ → Tile
tile_of table edges = record { table = table; edges = edges }

abbrev pub call_of : Change → Site → List ℤ → ℕ → Placement → Call
call_of change site points count placement = record { change = change; site = site; points = points; count = count; placement = placement }

abbrev pub putting : ℕ → List ℤ → ℕ → Placement → Call
putting side = call_of Put (Alone side)

abbrev pub taking : ℕ → List ℤ → ℕ → Placement → Call
taking side = call_of Take (Alone side)

abbrev pub putting_on : SheetTile → List ℤ → ℕ → Placement → Call
putting_on place = call_of Put (OnSheet place)

abbrev pub taking_on : SheetTile → List ℤ → ℕ → Placement → Call
taking_on place = call_of Take (OnSheet place)
