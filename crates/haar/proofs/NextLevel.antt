-- A level from the figures of the one above, the last row of parents first.
--
-- Main results
--   LevelBelow                                what is drawn when y rows of parents are left
--   level_step                                two rows more
--   level_entry                               all: each figure, or what is made of it, is in its place
--   root_figures                              the root is the figure of level 0
--   figures_parents                           the figures of a level, with room below them, are those of parents
--   drawn_picture                             in a list with as many places as the level has cells
use mathlib.Core.Path.{◌≡◌, ◌∙◌, ap, ap₂, subst}
use mathlib.Core.List.{List}
use Prim.Native.Nat.{ℕ, suc, ◌+◌, ◌*◌, ◌-◌, ◌/◌, ◌%◌, ◌^◌, ◌<◌, ◌≤◌}
use native.Mathlib.Omega.{arith}
use native.Mathlib.Decide.{dec_lt}
use native.Mathlib.Nat.{pow-zero, pow-succ', mul-le-mul_right}
use lib.ListN.{length, get_or, set}
use lib.Seq.{get_or-set_same}
use lib.IntN.{ℤ, pos}
use Rattle.haar.specs.Cells.{children}
use Rattle.haar.specs.Table.{stored}
use Rattle.haar.specs.Plane.{dimensions, figure_in, picture_in}
use Rattle.haar.specs.Levels.{HasDrawn, HasFigures, HasParents, RowsBelow}
use Rattle.haar.proofs.Laws.Pictures.{picture_of_entries}

module _ {A : Type 0} (g : ℤ → A) (o : A) (entries : List ℤ) (level : ℕ) (before : List A) where
  pub record LevelBelow (l : List A) (y : ℕ) : Type 0 where
    pub same_length : length l ≡ length before
    pub few : y ≤ 2 ^ level
    pub upper : (j i : ℕ) → y ≤ j → j < 2 ^ level → i < 2 * 2 ^ level → get_or l (4 * (j * 2 ^ level) + i) o ≡ g (figure_in entries (suc level) i (2 * j))
    pub lower : (j i : ℕ) → y ≤ j → j < 2 ^ level → i < 2 * 2 ^ level
        → get_or l (4 * (j * 2 ^ level) + 2 * 2 ^ level + i) o ≡ g (figure_in entries (suc level) i (2 * j + 1))
    pub low : (k : ℕ) → k < 4 * (y * 2 ^ level) → get_or l k o ≡ get_or before k o

-- the row before row y
row_before : (level y : ℕ) → 0 < y → y * 2 ^ level ≡ (y - 1) * 2 ^ level + 2 ^ level
row_before level y h = ap (λ k. k * 2 ^ level) {y = suc (y - 1)} (omega arith) ∙ omega arith

module _ {A : Type 0} {g : ℤ → A} {o : A} {entries : List ℤ} {level : ℕ} {before : List A} where
  pub level_step : {l drawn : List A} {y : ℕ} → 0 < y → LevelBelow g o entries level before l y → RowsBelow g o entries level (y - 1) l drawn 0
      → LevelBelow g o entries level before drawn (y - 1)
  level_step {l} {drawn} {y} h b r = record {
    same_length = r.same_length ∙ b.same_length;
    few = omega (arith, b.few);
    upper = λ j i p q t.
        elim (dec_lt j y) [
          | yes s ↦
              (let e : y - 1 ≡ j = omega arith in
              subst (λ j. get_or drawn (4 * (j * 2 ^ level) + i) o ≡ g (figure_in entries (suc level) i (2 * j))) e (r.upper i (omega arith) t))
          | no s ↦ r.high _ (omega (arith, row_before level y h, mul-le-mul_right (2 ^ level) (later s))) ∙ b.upper j i (later s) q t
        ];
    lower = λ j i p q t.
        elim (dec_lt j y) [
          | yes s ↦
              (let e : y - 1 ≡ j = omega arith in
              subst (λ j. get_or drawn (4 * (j * 2 ^ level) + 2 * 2 ^ level + i) o ≡ g (figure_in entries (suc level) i (2 * j + 1))) e (r.lower i (omega arith) t))
          | no s ↦ r.high _ (omega (arith, row_before level y h, mul-le-mul_right (2 ^ level) (later s))) ∙ b.lower j i (later s) q t
        ];
    low = λ k s. r.low k (omega arith) ∙ b.low k (omega (arith, row_before level y h));
  }
    where
      later : {j : ℕ} → (j < y → ⊥) → y ≤ j
      later s = omega arith

  pub level_entry : {l : List A} {y : ℕ} → LevelBelow g o entries level before l y → y ≡ 0 → (cx cy : ℕ) → cx < 2 ^ suc level → cy < 2 ^ suc level
      → get_or l (cy * 2 ^ suc level + cx) o ≡ g (figure_in entries (suc level) cx cy)
  level_entry {l} b e cx cy h k =
      let p = pow-succ' 2 level in
      elim (dec_lt (cy % 2) 1) [
        | yes s ↦
            (let c : cy ≡ 2 * (cy / 2) = omega arith in
            ap (λ i. get_or l i o) {y = 4 * (cy / 2 * 2 ^ level) + cx} (omega (arith, ap₂ ◌*◌ c p))
            ∙ b.upper (cy / 2) cx (omega arith) (omega arith) (omega arith)
            ∙ ap (λ j. g (figure_in entries (suc level) cx j)) {y = cy} (omega arith))
        | no s ↦
            (let c : cy ≡ 2 * (cy / 2) + 1 = omega arith in
            ap (λ i. get_or l i o) {y = 4 * (cy / 2 * 2 ^ level) + 2 * 2 ^ level + cx} (omega (arith, ap₂ ◌*◌ c p))
            ∙ b.lower (cy / 2) cx (omega arith) (omega arith) (omega arith)
            ∙ ap (λ j. g (figure_in entries (suc level) cx j)) {y = cy} (omega arith))
      ]

-- ---- from the root down
pub root_figures : {entries : List ℤ} {root : ℤ} (l : List ℤ) → 0 < length l → ((cx cy : ℕ) → root ≡ figure_in entries 0 cx cy) → HasFigures entries 0 (set l 0 root)
root_figures {root = root} l h e = record {
  entry = λ x y p q.
      let z = pow-zero 2 in
      let first : y ≡ 0 = omega arith in
      ap (λ i. get_or (set l 0 root) i (pos 0)) {y = 0} (ap₂ (λ (u v : ℕ). u * 2 ^ 0 + v) first (let k : x ≡ 0 = omega arith in k) ∙ omega arith)
      ∙ get_or-set_same l 0 root (pos 0) h ∙ e x y;
}

pub figures_parents : {entries l : List ℤ} {level : ℕ} → children dimensions ^ suc level ≤ length l → HasFigures entries level l → HasParents entries level l
figures_parents {level = level} h f = record { enough = omega (arith, pow-succ' (children dimensions) level); figures = f }

-- a list with a place for each cell, and what is drawn of it in its place, is the picture
pub drawn_picture : {A : Type 0} {g : ℤ → A} {o : A} {entries : List ℤ} {level : ℕ} {l : List A} → HasDrawn g o entries level l
    → length l ≡ children dimensions ^ level → l ≡ picture_in g entries level
drawn_picture {g = g} {o} {entries} {level} {l} d e = picture_of_entries o g (stored dimensions entries) level l e d.entry
