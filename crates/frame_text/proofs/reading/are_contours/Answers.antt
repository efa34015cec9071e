-- The next line, and what is after it.
use Rattle.std.proofs.Common.{◌&&◌, sym, ap, ◌∙◌}
use Rattle.frame_text.specs.Inner.{is_body}
use Rattle.frame_text.proofs.Laws.Lines.{body_line, body_end}
use Rattle.frame_text.proofs.reading.are_contours.Goals as goal

pub returns-then-not-is_contour : goal.returns-then-not-is_contour
returns-then-not-is_contour c =
    sym
    (c.loop-line.invariant ∙ body_line c.in-Some.ensures
    ∙ ap (λ b. b && is_body c.in-Some.after.now) (sym c.is_contour.ensures ∙ c.if-not-is_contour.true))

pub loop-line-preserved : goal.loop-line-preserved
loop-line-preserved c =
    c.loop-line.invariant ∙ body_line c.in-Some.ensures
    ∙ ap (λ b. b && is_body c.in-Some.after.now) (sym c.is_contour.ensures ∙ c.if-not-is_contour.false)

pub returns : goal.returns
returns c = c.is_empty.ensures ∙ sym (body_end c.loop-line.rest.now c.in_default.ensures) ∙ sym c.loop-line.invariant
