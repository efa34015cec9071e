-- Pictures: each entry is made of one cell's figure, and no other list has those entries.
--
-- Main results
--   tabulate-length, tabulate_entry, tabulate_unique     the one list with m entries f 0, f 1, and so on
--   tabulate-map                                         and what is made of each entry
--   picture-length                                       a level's picture has as many entries as the level has cells
--   picture_entry, picture_at                            an entry is made of its cell's figure; the same on the tile
--   picture_of_cells, picture_of_entries                 a list of such entries is the picture; the same on the tile
--   picture_same                                         tables that are the same below a depth have the same pictures, down to it
use Rattle.std.specs.Prelude.{◌≡◌, List, ◌∷◌, map, length, get_or, ℤ}
use Rattle.std.proofs.Math.Path.{refl, ap, fun_ext}
use Rattle.std.proofs.Common.{sym, ◌∙◌, arith, zero-mul, zero-add, ext_get_or, pow_pos}
use Prim.Native.Nat.{ℕ, zero, suc, ◌+◌, ◌*◌, ◌^◌, ◌<◌, ◌≤◌}
use Rattle.haar.specs.Cells.{children, Cell, Below, row_major, cell_at}
use Rattle.haar.specs.Table.{Coefficients, SameBelow}
use Rattle.haar.specs.Figures.{figure}
use Rattle.haar.specs.Pictures.{tabulate, picture}
use Rattle.haar.specs.Plane.{dimensions, at, figure_at}
use Rattle.haar.proofs.Laws.Cells.{row_major-lt, cell_at-row_major, below-cell_at, row_major-cell_at, level_cells}
use Rattle.haar.proofs.Laws.Figures.{figure_same}

module _ {A : Type 0} where
  -- ---- lists
  pub tabulate-length : (m : ℕ) (f : ℕ → A) → length (tabulate m f) ≡ m
  unfolding tabulate
  tabulate-length zero f = refl
  tabulate-length (suc m) f = ap suc (tabulate-length m (λ i. f (suc i)))

  pub tabulate_entry : (o : A) (m : ℕ) (f : ℕ → A) (i : ℕ) → i < m → get_or (tabulate m f) i o ≡ f i
  unfolding tabulate
  tabulate_entry o zero f i h = absurd (omega arith)
  tabulate_entry o (suc m) f zero h = refl
  tabulate_entry o (suc m) f (suc i) h = tabulate_entry o m (λ i. f (suc i)) i (omega arith)

  pub tabulate_unique : (o : A) (l : List A) (m : ℕ) (f : ℕ → A) → length l ≡ m → ((i : ℕ) → i < m → get_or l i o ≡ f i) → l ≡ tabulate m f
  tabulate_unique o l m f e h =
      ext_get_or o l (tabulate m f) (e ∙ sym (tabulate-length m f))
      (λ i k. let k' : i < m = omega arith in h i k' ∙ sym (tabulate_entry o m f i k'))

  -- ---- pictures
  pub picture-length : (n : ℕ) (g : ℤ → A) (t : Coefficients n) (level : ℕ) → length (picture n g t level) ≡ children n ^ level
  picture-length n g t level = tabulate-length (children n ^ level) (λ i. g (figure n t level (cell_at n (2 ^ level) i)))

  pub picture_entry : (o : A) (n : ℕ) (g : ℤ → A) (t : Coefficients n) (level : ℕ) (cell : Cell n) → Below n (2 ^ level) cell
      → get_or (picture n g t level) (row_major n (2 ^ level) cell) o ≡ g (figure n t level cell)
  picture_entry o n g t level cell b =
      tabulate_entry o (children n ^ level) (λ i. g (figure n t level (cell_at n (2 ^ level) i))) (row_major n (2 ^ level) cell)
      (let h = row_major-lt n (2 ^ level) cell b in omega (arith, level_cells n level))
      ∙ ap (λ q. g (figure n t level q)) (cell_at-row_major n (2 ^ level) cell b)

  pub picture_of_cells : (o : A) (n : ℕ) (g : ℤ → A) (t : Coefficients n) (level : ℕ) (l : List A) → length l ≡ children n ^ level
      → ((cell : Cell n) → Below n (2 ^ level) cell → get_or l (row_major n (2 ^ level) cell) o ≡ g (figure n t level cell)) → l ≡ picture n g t level
  picture_of_cells o n g t level l e h =
      tabulate_unique o l (children n ^ level) (λ i. g (figure n t level (cell_at n (2 ^ level) i))) e
      (λ i k. ap (λ j. get_or l j o) (sym (row_major-cell_at n (2 ^ level) i (pow_pos level) (omega (arith, level_cells n level))))
      ∙ h (cell_at n (2 ^ level) i) (below-cell_at n (2 ^ level) i (pow_pos level)))

  pub picture_same : {n depth : ℕ} {t u : Coefficients n} → SameBelow n depth t u → (g : ℤ → A) (level : ℕ) → level ≤ depth
      → picture n g t level ≡ picture n g u level
  picture_same {n} s g level h =
      ap (tabulate (children n ^ level))
      (fun_ext λ i. ap g (figure_same s level h (cell_at n (2 ^ level) i) (below-cell_at n (2 ^ level) i (pow_pos level))))

pub tabulate-map : {A B : Type 0} (g : A → B) (m : ℕ) (f : ℕ → A) → map g (tabulate m f) ≡ tabulate m (λ i. g (f i))
unfolding tabulate
tabulate-map g zero f = refl
tabulate-map g (suc m) f = ap (λ l. g (f 0) ∷ l) (tabulate-map g m (λ i. f (suc i)))

-- ---- on the tile
row_major_at : (m cx cy : ℕ) → row_major dimensions m (at cx cy) ≡ cy * m + cx
unfolding row_major
row_major_at m cx cy = ap (λ k. k * m + cx) (ap (λ k. k + cy) (zero-mul m) ∙ zero-add cy)

module _ {A : Type 0} where
  pub picture_at : (o : A) (g : ℤ → A) (t : Coefficients dimensions) (level cx cy : ℕ) → cx < 2 ^ level → cy < 2 ^ level
      → get_or (picture dimensions g t level) (cy * 2 ^ level + cx) o ≡ g (figure_at t level cx cy)
  picture_at o g t level cx cy h k =
      ap (λ i. get_or (picture dimensions g t level) i o) (sym (row_major_at (2 ^ level) cx cy))
      ∙ picture_entry o dimensions g t level (at cx cy) (h, (k, tt))

  pub picture_of_entries : (o : A) (g : ℤ → A) (t : Coefficients dimensions) (level : ℕ) (l : List A) → length l ≡ 4 ^ level
      → ((cx cy : ℕ) → cx < 2 ^ level → cy < 2 ^ level → get_or l (cy * 2 ^ level + cx) o ≡ g (figure_at t level cx cy))
      → l ≡ picture dimensions g t level
  picture_of_entries o g t level l e h =
      picture_of_cells o dimensions g t level l e
      (λ cell b. ap (λ i. get_or l i o) (row_major_at (2 ^ level) cell.0 cell.1.0) ∙ h cell.0 cell.1.0 b.0 b.1.0)
