-- The layout of a table, in any number of dimensions: every entry but the root belongs to exactly one detail of one cell.
--
-- Main results
--   IsDetail                       detail e of a cell of level j exists
--   index_low, index-pos           a level's details stand from `children n ^ j` on, and none at 0, the root's index
--   index_high, index_within       they stand before those of the next level, and so within a table of any greater depth
--   cell_of, number_of             the cell and the number of the detail at an index, of a level that is known
--   cell_of-index, number_of-index at a detail's own index they are its own
--   SameDetail, index_injective    details with one index are one and the same
--   DetailAt, index-onto           every index of a table but the root's has a detail
--   index_plane                    the indices on the tile
use Rattle.std.specs.Prelude.{◌≡◌, ℕ, zero, suc, ◌+◌, ◌*◌, ◌-◌, ◌/◌, ◌%◌, ◌^◌, ◌<◌, ◌≤◌}
use Rattle.std.proofs.Common.{sym, ◌∙◌, ap, ap₂, arith, mul-le-mul_right, mod-lt, div-lt_iff_lt-mul, lt_of_not-le, pow_pos}
use Rattle.std.proofs.Math.Decide.{dec_lt}
use Rattle.std.proofs.Math.Nat.{pow-zero, one-le-pow, pow-le-pow_right, div-add-mod}
use Rattle.std.proofs.Math.Arith.{digits_lt, digits_div, digits_mod}
use Rattle.haar.specs.Cells.{children, details, Cell, Below, row_major, cell_at}
use Rattle.haar.specs.Table.{index}
use Rattle.haar.specs.Plane.{dimensions, at}
use Rattle.haar.proofs.Laws.Cells.{row_major-lt, cell_at-row_major, below-cell_at, row_major-cell_at, level_cells, next_level}

pub record IsDetail (n j : ℕ) (cell : Cell n) (e : ℕ) : Type 0 where
  pub inside : Below n (2 ^ j) cell
  pub first : 1 ≤ e
  pub last : e ≤ details n

-- ---- where a level begins and ends
pub index_low : (n j : ℕ) (cell : Cell n) (e : ℕ) → children n ^ j ≤ index n j cell e
unfolding index
index_low n j cell e = omega arith

pub index-pos : (n j : ℕ) (cell : Cell n) (e : ℕ) → 1 ≤ index n j cell e
index-pos n j cell e = omega (arith, one-le-pow j (children n) (pow_pos n), index_low n j cell e)

pub index_high : {n j : ℕ} {cell : Cell n} {e : ℕ} → IsDetail n j cell e → index n j cell e < children n ^ suc j
unfolding index
index_high {n} {j} {cell} {e} d =
    let r : row_major n (2 ^ j) cell < children n ^ j = omega (arith, row_major-lt n (2 ^ j) cell d.inside, level_cells n j) in
    let k : e - 1 < details n = omega arith in
    omega (arith, next_level n j, digits_lt r k)

pub index_within : {n j depth : ℕ} {cell : Cell n} {e : ℕ} → j < depth → IsDetail n j cell e → index n j cell e < children n ^ depth
index_within {n} h d = omega (arith, index_high d, pow-le-pow_right {n = children n} (pow_pos n) h)

-- ---- the cell and the number of the detail at index i, of a level that is known
abbrev pub cell_of : (n j i : ℕ) → Cell n
cell_of n j i = cell_at n (2 ^ j) ((i - children n ^ j) / details n)

abbrev pub number_of : (n j i : ℕ) → ℕ
number_of n j i = suc ((i - children n ^ j) % details n)

offset : (n j : ℕ) (cell : Cell n) (e : ℕ) → index n j cell e - children n ^ j ≡ row_major n (2 ^ j) cell * details n + (e - 1)
unfolding index
offset n j cell e = omega arith

pub cell_of-index : {n j : ℕ} {cell : Cell n} {e : ℕ} → IsDetail n j cell e → cell_of n j (index n j cell e) ≡ cell
cell_of-index {n} {j} {cell} {e} d =
    ap (λ o. cell_at n (2 ^ j) (o / details n)) (offset n j cell e) ∙ ap (cell_at n (2 ^ j)) (digits_div _ (omega arith))
    ∙ cell_at-row_major n (2 ^ j) cell d.inside

pub number_of-index : {n j : ℕ} {cell : Cell n} {e : ℕ} → IsDetail n j cell e → number_of n j (index n j cell e) ≡ e
number_of-index {n} {j} {cell} {e} d = ap (λ o. suc (o % details n)) (offset n j cell e) ∙ ap suc (digits_mod _ (omega arith)) ∙ omega arith

-- ---- one to one
pub record SameDetail (n j : ℕ) (cell : Cell n) (e j' : ℕ) (cell' : Cell n) (e' : ℕ) : Type 0 where
  pub same_level : j ≡ j'
  pub same_cell : cell ≡ cell'
  pub same_number : e ≡ e'

-- a level ends where the next begins, so details with one index are of one level
not_deeper : {n j : ℕ} {cell : Cell n} {e : ℕ} (j' : ℕ) (cell' : Cell n) (e' : ℕ)
    → IsDetail n j cell e → index n j cell e ≡ index n j' cell' e' → ¬ (j < j')
not_deeper {n} j' cell' e' d q h = omega (arith, index_within h d, index_low n j' cell' e')

pub index_injective : {n j j' : ℕ} {cell cell' : Cell n} {e e' : ℕ} → IsDetail n j cell e → IsDetail n j' cell' e'
    → index n j cell e ≡ index n j' cell' e' → SameDetail n j cell e j' cell' e'
index_injective {n} {j} {j'} {cell} {cell'} {e} {e'} d d' q =
    let l : j ≡ j' = omega (arith, not_deeper j' cell' e' d q, not_deeper j cell e d' (sym q)) in
    record {
      same_level = l;
      same_cell = sym (cell_of-index d) ∙ ap₂ (cell_of n) l q ∙ cell_of-index d';
      same_number = sym (number_of-index d) ∙ ap₂ (number_of n) l q ∙ number_of-index d';
    }

-- ---- onto
pub record DetailAt (n depth i : ℕ) : Type 0 where
  pub level : ℕ
  pub cell : Cell n
  pub number : ℕ
  pub below : level < depth
  pub is_detail : IsDetail n level cell number
  pub at : i ≡ index n level cell number

on_level : {n j depth i : ℕ} → j < depth → children n ^ j ≤ i → i < children n ^ suc j → DetailAt n depth i
unfolding index
on_level {n} {j} {depth} {i} b low high =
    let d = details n in
    let o = i - children n ^ j in
    let d0 : 0 < d = lt_of_not-le (λ z. omega (arith, mul-le-mul_right (children n ^ j) z, next_level n j)) in
    let q : o / d < children n ^ j = (div-lt_iff_lt-mul d0).1 (omega (arith, next_level n j)) in
    let r = row_major-cell_at n (2 ^ j) (o / d) (pow_pos j) (omega (arith, level_cells n j)) in
    record {
      level = j;
      cell = cell_of n j i;
      number = number_of n j i;
      below = b;
      is_detail = record { inside = below-cell_at n (2 ^ j) (o / d) (pow_pos j); first = omega arith; last = mod-lt o d0 };
      at = omega (arith, ap (λ k. d * k) r, div-add-mod o d);
    }

-- down from the table's depth to the level whose entries begin at i or before it
pub index-onto : (n depth i : ℕ) → 1 ≤ i → i < children n ^ depth → DetailAt n depth i
index-onto n depth i g h = go depth (omega arith) h
  where
    go : (k : ℕ) → k ≤ depth → i < children n ^ k → DetailAt n depth i
    go zero b high = absurd (omega (arith, pow-zero (children n)))
    go (suc k) b high = elim (dec_lt i (children n ^ k)) [ yes l ↦ go k (omega arith) l | no l ↦ on_level b (omega arith) high ]

-- ---- two directions: "from 4^j + 3 × (cy × 2^j + cx) on"
pub index_plane : (j cx cy e : ℕ) → index dimensions j (at cx cy) e ≡ 4 ^ j + 3 * (cy * 2 ^ j + cx) + (e - 1)
unfolding index row_major
index_plane j cx cy e = omega arith
