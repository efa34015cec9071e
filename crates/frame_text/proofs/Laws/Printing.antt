-- How long what is printed is, and a picture's lines, row by row.
--
-- Main results
--   line_text_length, row-length, rows_text_length, summary_length_lem  lengths
--   rows_next                                                           a picture's first row, and the others
use Rattle.std.specs.Prelude.{◌≡◌, ℕ, zero, suc, ◌+◌, ◌*◌, ◌≤◌, List, [], ◌∷◌, ◌++◌, length, take, drop, ℤ, refl}
use Rattle.std.proofs.Common.{◌∙◌, suc-mul, arith, length-append, length-drop, length-take-le}
use Rattle.frame_text.specs.Digits.{hex, twos_complement}
use Rattle.frame_text.specs.Lines.{newline, line_text}
use Rattle.frame_text.specs.OutputLines.{grey_width, rows_text, summary_text}
use Rattle.frame_text.proofs.Laws.Digits.{hex-length}

pub line_text_length : (width : ℕ) (ns : List ℕ) → length (line_text width ns) ≡ length ns * width + 1
unfolding line_text
line_text_length width [] = omega (arith, suc-mul 0 width)
line_text_length width (n ∷ ns) =
    length-append (hex width n) (line_text width ns)
    ∙ omega (arith, hex-length width n, line_text_length width ns, suc-mul (length ns) width)

pub rows_next : (across rows : ℕ) (picture : List ℕ)
    → rows_text across (suc rows) picture ≡ line_text grey_width (take across picture) ++ rows_text across rows (drop across picture)
unfolding rows_text
rows_next across rows picture = refl

pub row-length : (across : ℕ) (picture : List ℕ) → across ≤ length picture → length (line_text grey_width (take across picture)) ≡ 2 * across + 1
row-length across picture h = line_text_length grey_width (take across picture) ∙ omega (arith, length-take-le across picture h)

pub rows_text_length : (across rows : ℕ) (picture : List ℕ) → rows * across ≤ length picture → length (rows_text across rows picture) ≡ rows * (2 * across + 1)
unfolding rows_text
rows_text_length across zero picture h = omega (arith)
rows_text_length across (suc rows) picture h =
    let s = suc-mul rows across in
    length-append (line_text grey_width (take across picture)) (rows_text across rows (drop across picture))
    ∙ omega (
      arith,
      row-length across picture (omega arith),
      rows_text_length across rows (drop across picture) (omega (arith, length-drop across picture)),
      suc-mul rows (2 * across + 1),
    )

pub summary_length_lem : (edges : ℕ) (root : ℤ) → length (summary_text edges root) ≡ 21
summary_length_lem edges root =
    length-append (hex 4 edges) (hex 16 (twos_complement root) ++ (newline ∷ []))
    ∙ omega (arith, hex-length 4 edges, hex-length 16 (twos_complement root), length-append (hex 16 (twos_complement root)) (newline ∷ []))
