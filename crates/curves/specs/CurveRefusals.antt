-- Demand 1 of building with marks: when each number is answered, for every input and in both directions; what a refusal carries and leaves; and the questions
-- that are new or read otherwise, in words.
--
-- `EachNumber n [] qs` (`tile`'s Laws/FirstNo) says of every question of the list, in order, that its number is answered exactly where those before it are
-- answered yes and it is answered no; and that 0 is answered exactly where all are answered yes.
--
-- Main results (the laws among them are in proofs/Theorems/CurveRefusals.antt)
--   CurveRefusals, curve_refusals            for a tile alone 1, 2, 4, 16, 3, 12, 6, 5; for a tile of a sheet 14, 15, 2, 4, 16, 3, 12, 6, 5
--   refused_curves_edges,
--   refused_curves_table                     a refusal carries the edge count 0, and the table keeps what it held
--   question16_means, question3_marked_means,
--   question5_chords_means                   what "yes" says
use Rattle.std.specs.Prelude.{List, [], ◌∷◌, map, ℕ, ℤ}
use Rattle.integers.specs.Tests.{OneOf}
use Rattle.placement.specs.declared.Placement.{Placement}
use Rattle.tile.proofs.Laws.FirstNo.{EachNumber}
use Rattle.sheet.specs.declared.Site.{Site}
use Rattle.curves.specs.MarkedQuestions.{curve_questions}
use Rattle.curves.specs.CurveOutcomes.{curves_refusal}

pub record CurveRefusals (site : Site) (points : List ℤ) (counts marks : List ℕ) (placement : Placement) (table : List ℤ) : Type 0 where
  pub each : EachNumber (curves_refusal site points counts marks placement table) [] (curve_questions site points counts marks placement 0 table)
  pub no_other : OneOf (curves_refusal site points counts marks placement table) (0 ∷ map (λ q. q.number) (curve_questions site points counts marks placement 0 table))
