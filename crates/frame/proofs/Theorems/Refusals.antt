-- Laws of what specs/Refusals.antt defines. The head of that file lists the main results.
use Rattle.std.specs.Prelude.{◌≡◌, List, ◌↔◌, ℕ, ◌<◌, ℤ}
use Rattle.tile.proofs.Laws.IfDone.{if_refused}
use Rattle.tile.proofs.Laws.FirstNo.{each_number, first_no_among}
use Rattle.frame_text.specs.Over.{over}
use Rattle.frame_text.specs.Reading.{frame_of}
use Rattle.frame_text.specs.OutputLines.{refusal_text}
use Rattle.frame.specs.Output.{frame_questions, frame_refusal, frame_table, output_text, table_after}
use Rattle.frame.proofs.Laws.RefusalLines.{refusal_decides}
use Rattle.frame.specs.Refusals.{FrameRefusals}

pub frame_refusals : (t : List ℕ) → FrameRefusals t
frame_refusals t =
    let each = each_number (frame_questions t) tt in
    record {
      refused11 = each.0;
      refused1 = each.1.0;
      refused4 = each.1.1.0;
      refused5 = each.1.1.1.0;
      refused6 = each.1.1.1.1.0;
      refused7 = each.1.1.1.1.1.0;
      accepted = each.1.1.1.1.1.1;
      no_other = first_no_among (frame_questions t);
    }

-- different numbers have different lines, and no picture begins like one
pub prints_refusal : (t : List ℕ) (number : ℕ) → 0 < number → number < 100 → (output_text t ≡ refusal_text number) ↔ (frame_refusal t ≡ number)
prints_refusal t number h k = refusal_decides t number h k

-- "tables and pictures keep what they held"
pub refused_keeps : (t : List ℕ) (table : List ℤ) → (frame_refusal t ≡ 0 → ⊥) → table_after t table ≡ table
refused_keeps t table n = if_refused (over (frame_table (frame_of t)) table) table n
