-- Demand 1 of putting in and taking out: when each number is answered, for every input and in both directions, of a tile alone and of a tile of a sheet; what a
-- refused call leaves; and the three questions that are new or asked otherwise, in the papers' words.
--
-- Main results (the laws among them are in proofs/Theorems/CorrectingRefusals.antt)
--   CorrectingRefusals, correcting_refusals    when a call on a tile alone answers each number: 1, 2, 4, 5, 3, 12, 6, 13, 9
--   OnSheetRefusals, on_sheet_refusals         and one on a tile of a sheet: 14, 15, 2, 4, 5, 3, 12, 6, 13, 9
--   NumbersAfter                               the numbers that both have
--   put_never_13, take_never_5                 putting in is never answered 13, taking out never 5
--   refused_tile                               "A refused call changes nothing."
--   question5_beside_means, question13_means,
--   question9_twice_means                      what "yes" says
use Rattle.std.specs.Prelude.{◌≡◌, ◌↔◌, List, [], ◌∷◌, ◌++◌, ℕ, ℤ}
use Rattle.integers.specs.ListSum.{All}
use Rattle.integers.specs.Tests.{OneOf}
use Rattle.placement.specs.declared.Placement.{Placement}
use Rattle.placement.specs.Placed.{placed}
use Rattle.tile.specs.Questions.{Question, Yes, No, DecidedBy, question1, question2, question3, question4, question5_beside, question6, question12}
use Rattle.sheet.specs.declared.SheetTile.{SheetTile}
use Rattle.sheet.specs.declared.Site.TheVariants.{Alone, OnSheet}
use Rattle.sheet.specs.SheetQuestions.{question14, question15}
use Rattle.sheet.specs.Sites.{tile_side, reach}
use Rattle.corrections.specs.declared.Change.{Change}
use Rattle.corrections.specs.Corrections.{Tile, Call, call_of, question13, question9_twice, already_in, taken_out, would_leave, contour_questions, correcting_questions, correct_refusal}

-- ---- what each asks of a call k and a tile t
abbrev q2 : Call → Tile → Question
q2 k t = question2 (tile_side k.site) t.table

abbrev pub q4 : Call → Question
q4 k = question4 (k.count ∷ [])

abbrev pub q5 : Call → Tile → Question
q5 k t = question5_beside (already_in k.change t.edges) (k.count ∷ [])

abbrev q3 : Call → Question
q3 k = question3 k.points (k.count ∷ [])

abbrev q12 : Call → Question
q12 k = question12 k.placement k.points

abbrev q6 : Call → Question
q6 k = question6 (reach k.site) (placed k.placement k.points)

abbrev pub q13 : Call → Tile → Question
q13 k t = question13 (taken_out k.change k.count) t.edges

abbrev pub q9 : Call → Tile → Question
q9 k t = question9_twice t.table (would_leave k t)

-- when each of the numbers is answered that both kinds of site have; `first` are the questions about the site
pub record NumbersAfter (first : List Question) (k : Call) (t : Tile) : Type 0 where
  pub accepted : (correct_refusal k t ≡ 0) ↔ All Yes (correcting_questions k t)
  pub refused2 : (correct_refusal k t ≡ 2) ↔ DecidedBy first (q2 k t)
  pub refused4 : (correct_refusal k t ≡ 4) ↔ DecidedBy (first ++ (q2 k t ∷ [])) (q4 k)
  pub refused5 : (correct_refusal k t ≡ 5) ↔ DecidedBy (first ++ (q2 k t ∷ q4 k ∷ [])) (q5 k t)
  pub refused3 : (correct_refusal k t ≡ 3) ↔ DecidedBy (first ++ (q2 k t ∷ q4 k ∷ q5 k t ∷ [])) (q3 k)
  pub refused12 : (correct_refusal k t ≡ 12) ↔ DecidedBy (first ++ (q2 k t ∷ q4 k ∷ q5 k t ∷ q3 k ∷ [])) (q12 k)
  pub refused6 : (correct_refusal k t ≡ 6) ↔ DecidedBy (first ++ (q2 k t ∷ q4 k ∷ q5 k t ∷ q3 k ∷ q12 k ∷ [])) (q6 k)
  pub refused13 : (correct_refusal k t ≡ 13) ↔ DecidedBy (contour_questions k t) (q13 k t)
  pub refused9 : (correct_refusal k t ≡ 9) ↔ DecidedBy (contour_questions k t ++ (q13 k t ∷ [])) (q9 k t)

-- ---- a tile alone
pub record CorrectingRefusals (change : Change) (side : ℕ) (points : List ℤ) (count : ℕ) (placement : Placement) (t : Tile) : Type 0 where
  pub refused1 : (correct_refusal (call_of change (Alone side) points count placement) t ≡ 1) ↔ No (question1 side)
  pub others : NumbersAfter (question1 side ∷ []) (call_of change (Alone side) points count placement) t
  pub no_other : OneOf (correct_refusal (call_of change (Alone side) points count placement) t) (0 ∷ 1 ∷ 2 ∷ 4 ∷ 5 ∷ 3 ∷ 12 ∷ 6 ∷ 13 ∷ 9 ∷ [])

-- ---- a tile of a sheet
pub record OnSheetRefusals (change : Change) (place : SheetTile) (points : List ℤ) (count : ℕ) (placement : Placement) (t : Tile) : Type 0 where
  pub refused14 : (correct_refusal (call_of change (OnSheet place) points count placement) t ≡ 14) ↔ No (question14 place.sheet place.side)
  pub refused15 : (correct_refusal (call_of change (OnSheet place) points count placement) t ≡ 15)
      ↔ DecidedBy (question14 place.sheet place.side ∷ []) (question15 place)
  pub others : NumbersAfter (question14 place.sheet place.side ∷ question15 place ∷ []) (call_of change (OnSheet place) points count placement) t
  pub no_other : OneOf (correct_refusal (call_of change (OnSheet place) points count placement) t) (0 ∷ 14 ∷ 15 ∷ 2 ∷ 4 ∷ 5 ∷ 3 ∷ 12 ∷ 6 ∷ 13 ∷ 9 ∷ [])
