-- Demand 1 of building on a sheet: when each number is answered, for every input and in both directions; what a refusal carries and leaves; and the two new
-- questions in words.
--
-- Main results (the laws among them are in proofs/Theorems/SheetRefusals.antt)
--   SheetRefusals, sheet_refusals    when each number is answered: 14, 15, 2, 4, 5, 3, 12, 6
--   refused_sheet_edges,
--   refused_sheet_table              a refusal carries the edge count 0, and the table keeps what it held
--   question14_means,
--   question15_means                 what "yes" says
use Rattle.std.specs.Prelude.{◌≡◌, List, [], ◌∷◌, ◌↔◌, ℕ, ℤ}
use Rattle.integers.specs.ListSum.{All}
use Rattle.integers.specs.Tests.{OneOf}
use Rattle.placement.specs.declared.Placement.{Placement}
use Rattle.placement.specs.Placed.{placed}
use Rattle.tile.specs.Questions.{Question, Yes, No, DecidedBy, question2, question3, question4, question5, question6, question12}
use Rattle.sheet.specs.declared.SheetTile.{SheetTile}
use Rattle.sheet.specs.SheetQuestions.{question14, question15, sheet_questions}
use Rattle.sheet.specs.SheetOutcomes.{sheet_refusal}

abbrev q14 : SheetTile → Question
q14 place = question14 place.sheet place.side

abbrev q2 : SheetTile → List ℤ → Question
q2 place table = question2 place.side table

pub record SheetRefusals (place : SheetTile) (points : List ℤ) (counts : List ℕ) (placement : Placement) (table : List ℤ) : Type 0 where
  pub accepted : (sheet_refusal place points counts placement table ≡ 0) ↔ All Yes (sheet_questions place points counts placement table)
  pub refused14 : (sheet_refusal place points counts placement table ≡ 14) ↔ No (q14 place)
  pub refused15 : (sheet_refusal place points counts placement table ≡ 15) ↔ DecidedBy (q14 place ∷ []) (question15 place)
  pub refused2 : (sheet_refusal place points counts placement table ≡ 2) ↔ DecidedBy (q14 place ∷ question15 place ∷ []) (q2 place table)
  pub refused4 : (sheet_refusal place points counts placement table ≡ 4) ↔ DecidedBy (q14 place ∷ question15 place ∷ q2 place table ∷ []) (question4 counts)
  pub refused5 : (sheet_refusal place points counts placement table ≡ 5)
      ↔ DecidedBy (q14 place ∷ question15 place ∷ q2 place table ∷ question4 counts ∷ []) (question5 counts)
  pub refused3 : (sheet_refusal place points counts placement table ≡ 3)
      ↔ DecidedBy (q14 place ∷ question15 place ∷ q2 place table ∷ question4 counts ∷ question5 counts ∷ []) (question3 points counts)
  pub refused12 : (sheet_refusal place points counts placement table ≡ 12)
      ↔ DecidedBy (q14 place ∷ question15 place ∷ q2 place table ∷ question4 counts ∷ question5 counts ∷ question3 points counts ∷ []) (question12 placement points)
  pub refused6 : (sheet_refusal place points counts placement table ≡ 6)
      ↔ DecidedBy
      (q14 place ∷ question15 place ∷ q2 place table ∷ question4 counts ∷ question5 counts ∷ question3 points counts ∷ question12 placement points ∷ [])
      (question6 place.sheet (placed placement points))
  pub no_other : OneOf (sheet_refusal place points counts placement table) (0 ∷ 14 ∷ 15 ∷ 2 ∷ 4 ∷ 5 ∷ 3 ∷ 12 ∷ 6 ∷ [])
