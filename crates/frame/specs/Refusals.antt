-- Demand 1 of the program: when it prints each refusal, in both directions.
--
-- Main results (the laws among them are in proofs/Theorems/Refusals.antt)
--   FrameRefusals, frame_refusals     when each number is that of a text, and that no other comes
--   prints_refusal                    a refusal is printed where its number is the text's, and only there
--   refused_keeps                     and the table keeps what it held
use Rattle.std.specs.Prelude.{◌≡◌, List, [], ◌∷◌, ◌↔◌, ℕ}
use Rattle.integers.specs.ListSum.{All}
use Rattle.tile.specs.Questions.{Yes, No, DecidedBy, question1, question4, question5, question6, question7}
use Rattle.integers.specs.Tests.{OneOf}
use Rattle.frame_text.specs.Reading.{frame_of}
use Rattle.frame.specs.Output.{question11, frame_questions, frame_refusal}

pub record FrameRefusals (t : List ℕ) : Type 0 where
  pub accepted : (frame_refusal t ≡ 0) ↔ All Yes (frame_questions t)
  pub refused11 : (frame_refusal t ≡ 11) ↔ No (question11 t)
  pub refused1 : (frame_refusal t ≡ 1) ↔ DecidedBy (question11 t ∷ []) (question1 (frame_of t).side)
  pub refused4 : (frame_refusal t ≡ 4) ↔ DecidedBy (question11 t ∷ question1 (frame_of t).side ∷ []) (question4 (frame_of t).counts)
  pub refused5 : (frame_refusal t ≡ 5)
      ↔ DecidedBy (question11 t ∷ question1 (frame_of t).side ∷ question4 (frame_of t).counts ∷ []) (question5 (frame_of t).counts)
  pub refused6 : (frame_refusal t ≡ 6)
      ↔ DecidedBy (question11 t ∷ question1 (frame_of t).side ∷ question4 (frame_of t).counts ∷ question5 (frame_of t).counts ∷ [])
      (question6 (frame_of t).side (frame_of t).points)
  pub refused7 : (frame_refusal t ≡ 7)
      ↔ DecidedBy
      (question11 t ∷ question1 (frame_of t).side ∷ question4 (frame_of t).counts ∷ question5 (frame_of t).counts ∷ question6 (frame_of t).side (frame_of t).points ∷ [])
      (question7 (frame_of t).side (frame_of t).level)
  pub no_other : OneOf (frame_refusal t) (0 ∷ 11 ∷ 1 ∷ 4 ∷ 5 ∷ 6 ∷ 7 ∷ [])
