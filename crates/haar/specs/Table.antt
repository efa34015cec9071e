-- The table of coefficients: a root, and the details of every cell that has children; and where each stands in the list of entries.
--
-- Definitions
--   Coefficients n               a root, and detail e of each cell of each level
--   index n j cell e             where detail e of a cell of level j stands in the list
--   stored n entries             the coefficients that a list of entries holds
--   negated t                    the table with every entry of the opposite sign
--   Bounded n depth r b t        r bounds the root of t, either way, and b each cell's details at every level below the depth
--   SameBelow n depth t u        two tables have the same root, and the same details at every level below the depth
use Rattle.std.specs.Prelude.{◌≡◌, List, ℕ, ◌+◌, ◌*◌, ◌-◌, ◌^◌, ◌<◌, ◌≤◌, get_or, ℤ, pos, neg_ℤ}
use Rattle.integers.specs.Within.{Within}
use Rattle.haar.specs.Cells.{children, details, Cell, Below, row_major}

pub record Coefficients (n : ℕ) : Type 0 where
  pub root : ℤ
  -- of a level, a cell of it and a detail's number, from 1 on
  pub detail : ℕ → Cell n → ℕ → ℤ

-- "Cell (cx, cy) of level j below the depth has three entries from 4^j + 3 × (cy × 2^j + cx) on": details 1, 2, 3, one after the other
unfoldable pub index : (n j : ℕ) → Cell n → ℕ → ℕ
index n j cell e = children n ^ j + details n * row_major n (2 ^ j) cell + (e - 1)

-- "Entry 0 is the root"
abbrev pub stored : (n : ℕ) → List ℤ → Coefficients n
stored n entries = record {
  root = get_or entries 0 (pos 0);
  detail = λ j cell e. get_or entries (index n j cell e) (pos 0);
}

abbrev pub negated : {n : ℕ} → Coefficients n → Coefficients n
negated t = record { root = neg_ℤ t.root; detail = λ j cell e. neg_ℤ (t.detail j cell e) }

pub record Bounded (n depth r : ℕ) (b : ℕ → Cell n → ℕ) (t : Coefficients n) : Type 0 where
  pub root_within : Within (pos r) t.root
  pub detail_within : (j : ℕ) → j < depth → (cell : Cell n) → Below n (2 ^ j) cell → (e : ℕ) → 1 ≤ e → e ≤ details n
      → Within (pos (b j cell)) (t.detail j cell e)

pub record SameBelow (n depth : ℕ) (t u : Coefficients n) : Type 0 where
  pub same_root : t.root ≡ u.root
  pub same_detail : (j : ℕ) → j < depth → (cell : Cell n) → Below n (2 ^ j) cell → (e : ℕ) → 1 ≤ e → e ≤ details n
      → t.detail j cell e ≡ u.detail j cell e
