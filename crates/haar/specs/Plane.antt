-- The tile: two directions, so four children and three details.
--
-- Definitions
--   dimensions                      x and y
--   h_detail, v_detail, d_detail    the numbers of h, v and d
--   quarter_details w a b           ± h ± v ± d, of a cell's details w, with the signs of quarter (a, b)
--   at cx cy                        cell (cx, cy)
--   figure_at t level cx cy         its figure
--   figure_in, picture_in           figures and pictures from a list of entries
use Rattle.std.specs.Prelude.{List, ℕ, ℤ, ◌+ℤ◌, ◌*ℤ◌}
use Rattle.integers.specs.HalfSign.{half_sign}
use Rattle.haar.specs.Cells.{Cell}
use Rattle.haar.specs.Table.{Coefficients, stored}
use Rattle.haar.specs.Figures.{figure}
use Rattle.haar.specs.Pictures.{picture}

abbrev pub dimensions : ℕ
dimensions = 2

-- x has the bit worth 1, y the bit worth 2. "h: area in the left half less area in the right half; v: upper half less lower half; d: upper left and
-- lower right quarters, less the other two": each is turned in the second half of its directions.
abbrev pub h_detail : ℕ
h_detail = 1

abbrev pub v_detail : ℕ
v_detail = 2

abbrev pub d_detail : ℕ
d_detail = 3

-- "h plus on the left, v plus above, d plus in the upper left and lower right": a is 0 on the left and 1 on the right, b is 0 above and 1 below
abbrev pub quarter_details : (ℕ → ℤ) → ℕ → ℕ → ℤ
quarter_details w a b = half_sign a *ℤ w h_detail +ℤ half_sign b *ℤ w v_detail +ℤ half_sign a *ℤ half_sign b *ℤ w d_detail

abbrev pub at : ℕ → ℕ → Cell dimensions
at cx cy = (cx, (cy, tt))

abbrev pub figure_at : Coefficients dimensions → ℕ → ℕ → ℕ → ℤ
figure_at t level cx cy = figure dimensions t level (at cx cy)

-- what is drawn of a table, the list of its entries
abbrev pub figure_in : List ℤ → ℕ → ℕ → ℕ → ℤ
figure_in entries level cx cy = figure_at (stored dimensions entries) level cx cy

abbrev pub picture_in : {A : Type 0} → (ℤ → A) → List ℤ → ℕ → List A
picture_in g entries level = picture dimensions g (stored dimensions entries) level
