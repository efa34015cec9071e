-- A level that the tile does not have is refused before the table is written to; any other is drawn.
use Rattle.std.proofs.Common.{◌≡◌, true, false, refl, sym, ◌∙◌, ap, rules}
use Rattle.tile.proofs.Laws.IfDone.{if_refused}
use Rattle.frame_text.specs.Over.{over}
use Rattle.frame_text.specs.Frames.{frame}
use Rattle.frame_text.specs.OutputLines.{refusal_text}
use Rattle.frame.specs.Output.{frame_table, drawn_text, answer_of}
use Rattle.frame.specs.Inner.{outline_refusal, is_deeper}
use Rattle.frame.proofs.Laws.FrameNumber.{outline_output, outline_table_lem, level_refusal_is, level_refused}
use Rattle.frame.proofs.draw_frame.Goals as goal

pub returns-then-is_deeper : goal.returns-then-is_deeper
returns-then-is_deeper c =
    let a = c.args in
    let f = frame a.side a.level a.points.now a.counts.now in
    let w = c.requires.1 in
    let d : is_deeper a.side a.level ≡ true = sym c.is_deeper.ensures ∙ c.if-is_deeper.true in
    record {
      value =
          ap (λ n. answer_of (refusal_text n)) (c.refused_level.ensures ∙ level_refusal_is f w d)
          ∙ ap answer_of (sym (if_refused (drawn_text f) (refusal_text (outline_refusal f)) (level_refused f w d)));
      table_after = sym (if_refused (over (frame_table f) a.table.now) a.table.now (level_refused f w d));
      kept = λ _. refl;
    }

pub returns : goal.returns
returns c =
    let a = c.args in
    let f = frame a.side a.level a.points.now a.counts.now in
    let w = c.requires.1 in
    let d : is_deeper a.side a.level ≡ false = sym c.is_deeper.ensures ∙ c.if-is_deeper.false in
    record {
      value = c.draw_outline.ensures.value ∙ ap answer_of (outline_output f w a.table.now (search rules));
      table_after = c.draw_outline.ensures.table_after ∙ outline_table_lem f w a.table.now (search rules) d;
      kept = c.draw_outline.ensures.kept;
    }
