-- A level drawn from the figures of the one above, two rows for each row of parents: what the contracts of the functions that draw it cite.
--
-- Definitions
--   put_pair a b i l                          a list with a and b in places i and i + 1
--   HasDrawn g o entries level l              a list begins with g of the figures of a level, row by row; HasFigures, with the figures themselves
--   HasParents entries level l                a list begins with the figures of a level, all of them
--   KeepsParents shade parents                where the place of a picture is as it was, so is the figure that is read there: a law of what draws
--   RowParents entries level y l              the figures of row y of such a level stand in their places in a list
--   RowsBelow g o entries level y before l x  g of the figures of the two rows below row y, but for the children of its first x cells
--   Parents entries depth level room l        the figures of a level above the depth, in a list with room for those of the deepest level that has children
use Rattle.std.specs.Prelude.{◌≡◌, List, ℕ, suc, ◌+◌, ◌*◌, ◌-◌, ◌^◌, ◌<◌, ◌≤◌, length, get_or, set, ℤ, pos}
use Rattle.haar.specs.Cells.{children}
use Rattle.haar.specs.Plane.{dimensions, figure_in}

abbrev pub put_pair : {A : Type 0} → A → A → ℕ → List A → List A
put_pair a b i l = set (set l i a) (i + 1) b

pub record HasDrawn {A : Type 0} (g : ℤ → A) (o : A) (entries : List ℤ) (level : ℕ) (l : List A) : Type 0 where
  pub entry : (x y : ℕ) → x < 2 ^ level → y < 2 ^ level → get_or l (y * 2 ^ level + x) o ≡ g (figure_in entries level x y)

abbrev pub HasFigures : List ℤ → ℕ → List ℤ → Type 0
HasFigures entries level l = HasDrawn (λ z. z) (pos 0) entries level l

pub record HasParents (entries : List ℤ) (level : ℕ) (l : List ℤ) : Type 0 where
  pub enough : children dimensions ^ level ≤ length l
  pub figures : HasFigures entries level l

pub record KeepsParents {D A : Type 0} (shade : D → ℤ → A) (parents : D → List A → List ℤ) : Type 0 where
  pub same_length : (d : D) (l m : List A) → length l ≡ length m → length (parents d l) ≡ length (parents d m)
  pub same_figure : (d : D) (l m : List A) (i : ℕ) → get_or l i (shade d (pos 0)) ≡ get_or m i (shade d (pos 0))
      → get_or (parents d l) i (pos 0) ≡ get_or (parents d m) i (pos 0)

pub record RowParents (entries : List ℤ) (level y : ℕ) (l : List ℤ) : Type 0 where
  pub y_below : y < 2 ^ level
  pub enough : children dimensions ^ level ≤ length l
  pub entry : (x : ℕ) → x < 2 ^ level → get_or l (y * 2 ^ level + x) (pos 0) ≡ figure_in entries level x y

-- the rest of the list is as before
pub record RowsBelow {A : Type 0} (g : ℤ → A) (o : A) (entries : List ℤ) (level y : ℕ) (before l : List A) (x : ℕ) : Type 0 where
  pub same_length : length l ≡ length before
  pub upper : (i : ℕ) → 2 * x ≤ i → i < 2 * 2 ^ level → get_or l (4 * (y * 2 ^ level) + i) o ≡ g (figure_in entries (suc level) i (2 * y))
  pub lower : (i : ℕ) → 2 * x ≤ i → i < 2 * 2 ^ level
      → get_or l (4 * (y * 2 ^ level) + 2 * 2 ^ level + i) o ≡ g (figure_in entries (suc level) i (2 * y + 1))
  pub low : (k : ℕ) → k < 4 * (y * 2 ^ level) + 2 * x → get_or l k o ≡ get_or before k o
  pub high : (k : ℕ) → 4 * (y * 2 ^ level) + 4 * 2 ^ level ≤ k → get_or l k o ≡ get_or before k o

pub record Parents (entries : List ℤ) (depth level room : ℕ) (l : List ℤ) : Type 0 where
  pub same_length : length l ≡ room
  pub enough : children dimensions ^ (depth - 1) ≤ room
  pub figures : level < depth → HasFigures entries level l
