-- The digits of one grey, and the end of the line.
use Rattle.std.proofs.Common.{◌≡◌, ℕ, ◌+◌, ◌*◌, ◌<◌, List, [], ◌∷◌, ◌++◌, length, get_or, drop, sym, ap, ◌∙◌, add-one, arith, drop_of_length-le, drop-cons}
use Rattle.frame_text.specs.Digits.{hex}
use Rattle.frame_text.specs.Lines.{newline, line_text}
use Rattle.frame_text.specs.OutputLines.{grey_width}
use Rattle.frame_text.proofs.Laws.Digits.{hex-length}
use Rattle.frame_text.proofs.Laws.Over.{over_at, written, written_length, set-over}
use Rattle.frame_text.proofs.Laws.Parts.{part_over}
use Rattle.frame_text.proofs.printing.put_row.Goals as goal

-- the digits of the next grey are written
row_next : (row : List ℕ) (i : ℕ) → i < length row → line_text grey_width (drop i row) ≡ hex grey_width (get_or row i 0) ++ line_text grey_width (drop (i + 1) row)
unfolding line_text
row_next row i h = ap (line_text grey_width) (drop-cons row i 0 h) ∙ ap (λ k. hex grey_width (get_or row i 0) ++ line_text grey_width (drop k row)) (sym (add-one i))

pub loop-i-preserved : goal.loop-i-preserved
loop-i-preserved c =
    let l = c.loop-i in
    let row = c.args.row.now in
    let g = get_or row l.i 0 in
    let e = part_over (2 * l.i) l.out (hex grey_width g) c.put_hex.ensures in
    let n : 2 * (l.i + 1) ≡ 2 * l.i + length (hex grey_width g) = omega (arith, hex-length grey_width g) in (
      written_length (2 * l.i) (hex grey_width g) l.out e (omega (arith, hex-length grey_width g)) ∙ l.invariant.0,
      written (2 * l.i) (hex grey_width g) (line_text grey_width (drop (l.i + 1) row)) l.out e (omega arith) n
          ∙ ap (λ t. over_at (2 * l.i) t l.out) (sym (row_next row l.i c.loop-i-test.true))
          ∙ l.invariant.1,
    )

pub returns : goal.returns
unfolding line_text
returns c =
    let l = c.loop-i in
    let row = c.args.row.now in
    let i : 2 * length row ≡ 2 * l.i = omega arith in
    set-over (2 * length row) newline l.out (omega arith)
    ∙ ap (λ k. over_at k (newline ∷ []) l.out) i
    ∙ sym (ap (λ t. over_at (2 * l.i) (line_text grey_width t) l.out) (drop_of_length-le row c.loop-i-test.false))
    ∙ l.invariant.1
