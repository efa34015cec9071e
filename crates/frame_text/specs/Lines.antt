-- Lines: "each line closed by byte 0A".
--
-- Definitions
--   newline                byte 0A
--   into_first_line b ls   the lines with a byte more at the start of the first
--   lines t                what stands before each 0A and after the one before
--   closes t               nothing stands after the last 0A
--   line_text width ns     the line of numbers of so many digits each
use Rattle.std.specs.Prelude.{ℕ, Bool, true, cond, List, [], ◌∷◌, ◌++◌, ◌==◌}
use Rattle.frame_text.specs.Digits.{hex}

abbrev pub newline : ℕ
newline = 10

-- a byte more at the start of the first line; where no line is closed it belongs to none, and `closes` then fails
abbrev pub into_first_line : ℕ → List (List ℕ) → List (List ℕ)
into_first_line b [] = []
into_first_line b (l ∷ ls) = (b ∷ l) ∷ ls

unfoldable pub lines : List ℕ → List (List ℕ)
lines [] = []
lines (b ∷ t) = cond (b == newline) ([] ∷ lines t) (into_first_line b (lines t))

unfoldable pub closes : List ℕ → Bool
closes [] = true
closes (b ∷ []) = b == newline
closes (b ∷ c ∷ t) = closes (c ∷ t)

unfoldable pub line_text : ℕ → List ℕ → List ℕ
line_text width [] = newline ∷ []
line_text width (n ∷ ns) = hex width n ++ line_text width ns
