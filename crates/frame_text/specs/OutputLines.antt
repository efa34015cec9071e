-- The lines that are printed.
--
-- "Output: a line of four digits of edge count and sixteen of the root in two's complement; then one line a row of greys, two digits each. ... A
-- refusal prints only the line `refused`, one space and two decimal digits."
--
-- Definitions
--   refused_word, refusal_text number       the line of a refusal
--   edges_width, root_width, summary_text   the line of edge count and root
--   grey_width, rows_text                   the lines of a picture, one a row
--   summary_length, row_length              how long these lines are
use Rattle.std.specs.Prelude.{ℕ, zero, suc, ◌+◌, ◌*◌, ◌/◌, ◌%◌, List, [], ◌∷◌, ◌++◌, take, drop, ℤ}
use Rattle.frame_text.specs.Digits.{digit_char, hex, twos_complement}
use Rattle.frame_text.specs.Lines.{newline, line_text}

-- `refused` and one space
abbrev pub refused_word : List ℕ
refused_word = 114 ∷ 101 ∷ 102 ∷ 117 ∷ 115 ∷ 101 ∷ 100 ∷ 32 ∷ []

abbrev pub refusal_text : ℕ → List ℕ
refusal_text number = refused_word ++ (digit_char (number / 10) ∷ digit_char (number % 10) ∷ newline ∷ [])

-- "four digits of edge count and sixteen of the root in two's complement"
abbrev pub edges_width : ℕ
edges_width = 4

abbrev pub root_width : ℕ
root_width = 16

abbrev pub summary_text : ℕ → ℤ → List ℕ
summary_text edges root = hex edges_width edges ++ (hex root_width (twos_complement root) ++ (newline ∷ []))

-- "one line a row of greys, two digits each": so many rows, each of the next greys across
abbrev pub grey_width : ℕ
grey_width = 2

unfoldable pub rows_text : ℕ → ℕ → List ℕ → List ℕ
rows_text across zero picture = []
rows_text across (suc rows) picture = line_text grey_width (take across picture) ++ rows_text across rows (drop across picture)

-- with the end of the line
abbrev pub summary_length : ℕ
summary_length = edges_width + root_width + 1

abbrev pub row_length : ℕ → ℕ
row_length across = grey_width * across + 1
