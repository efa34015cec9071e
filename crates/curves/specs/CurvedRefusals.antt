-- Demand 1 of putting in and taking out contours with curved edges: when each number is answered, for every input and in both directions; what a refused call
-- leaves. (`EachNumber`: as in `CurveRefusals`.)
--
-- Definitions
--   all_questions k t                  what a call asks, in order
-- Main results (the laws among them are in proofs/Theorems/CurvedRefusals.antt)
--   CurvedRefusals, curved_refusals    for a tile alone 1, 2, 4, 16, 3, 12, 6, 5, 13, 9; for a tile of a sheet 14, 15, 2, 4, 16, 3, 12, 6, 5, 13, 9
--   refused_curve                      "A refused call changes nothing."
use Rattle.std.specs.Prelude.{List, [], ◌∷◌, ◌++◌, map, length}
use Rattle.integers.specs.Tests.{OneOf}
use Rattle.tile.specs.Questions.{Question}
use Rattle.tile.proofs.Laws.FirstNo.{EachNumber}
use Rattle.corrections.specs.Corrections.{Tile}
use Rattle.corrections.specs.Amending.{amend_questions}
use Rattle.curves.specs.CurvedCorrections.{CurveCall, edges_in, curve_call_questions, correct_curve_refusal}

-- all that a call asks, in order
abbrev pub all_questions : CurveCall → Tile → List Question
all_questions k t = curve_call_questions k t ++ amend_questions k.site k.change (edges_in k) (length (edges_in k)) t

pub record CurvedRefusals (k : CurveCall) (t : Tile) : Type 0 where
  pub each : EachNumber (correct_curve_refusal k t) [] (all_questions k t)
  pub no_other : OneOf (correct_curve_refusal k t) (0 ∷ map (λ q. q.number) (all_questions k t))
