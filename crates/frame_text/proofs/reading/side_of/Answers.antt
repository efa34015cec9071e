-- The first two digits of the first line.
use Rattle.std.proofs.Common.{take, sym, ap, ◌∙◌, arith, length-take-le, take-take}
use Rattle.frame_text.specs.Digits.{hex_value}
use Rattle.frame_text.specs.Reading.{first_line}
use Rattle.frame_text.proofs.Laws.Reading.{framed}
use Rattle.frame_text.proofs.reading.side_of.Goals as goal

pub slice_bounds-value_of-end : goal.slice_bounds-value_of-end
slice_bounds-value_of-end c = sym (length-take-le 2 c.args.text.now (omega (arith, (framed c.args.text.now c.requires).long)))

pub returns : goal.returns
returns c =
    let t = c.args.text.now in
    c.value_of.ensures ∙ ap hex_value (sym (take-take 2 4 t (omega arith)) ∙ ap (λ ls. take 2 (first_line ls)) (sym (framed t c.requires).lines_are))
