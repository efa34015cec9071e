-- The length, the first line, and then the others.
use Rattle.std.proofs.Common.{◌&&◌, sym, ap, ◌∙◌, arith}
use Rattle.frame_text.specs.Inner.{is_body}
use Rattle.frame_text.proofs.Laws.Lines.{frame_line, frame_open}
use Rattle.frame_text.proofs.reading.is_frame.Goals as goal

pub returns-in_default : goal.returns-in_default
returns-in_default c = sym (frame_open c.args.text.now (omega (arith, c.in_default.ensures)))

pub returns-then-is_head : goal.returns-then-is_head
returns-then-is_head c =
    c.are_contours.ensures
    ∙ sym (frame_line (omega arith) c.in-Some.ensures ∙ ap (λ b. b && is_body c.in-Some.body.now) (sym c.is_head.ensures ∙ c.if-is_head.true))

pub returns-else-is_head : goal.returns-else-is_head
returns-else-is_head c =
    c.if-is_head.false
    ∙ sym (frame_line (omega arith) c.in-Some.ensures ∙ ap (λ b. b && is_body c.in-Some.body.now) (sym c.is_head.ensures ∙ c.if-is_head.false))
