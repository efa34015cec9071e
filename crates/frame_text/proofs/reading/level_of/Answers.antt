-- The last two digits of the first line.
use Rattle.std.proofs.Common.{◌≡◌, ℕ, List, [], ◌∷◌, take, drop, sym, refl, ap, ◌∙◌, arith}
use Rattle.frame_text.specs.Digits.{hex_value}
use Rattle.frame_text.specs.Reading.{first_line}
use Rattle.frame_text.proofs.Laws.Reading.{framed}
use Rattle.frame_text.proofs.reading.level_of.Goals as goal

pub slice_bounds-value_of-end : goal.slice_bounds-value_of-end
slice_bounds-value_of-end c = omega (arith, (framed c.args.text.now c.requires).long)

last-two : (t : List ℕ) → take 2 (drop 2 t) ≡ drop 2 (take 4 t)
last-two [] = refl
last-two (a ∷ []) = refl
last-two (a ∷ b ∷ t) = refl

pub returns : goal.returns
returns c =
    let t = c.args.text.now in
    c.value_of.ensures ∙ ap hex_value (last-two t ∙ ap (λ ls. drop 2 (first_line ls)) (sym (framed t c.requires).lines_are))
