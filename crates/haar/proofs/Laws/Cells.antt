-- Cells: parents and children, and their places row by row.
--
-- Main results
--   parent-child, child_number-child, child-parent        a child's parent and number are those it was made from, and every cell is a child
--   child_number-lt, below-parent                         a cell of a level is one of `children n` children of a cell one level up
--   row_major-lt, below-cell_at                           a cell's place is one of the level's, and a place's cell one of its cells
--   cell_at-row_major, row_major-cell_at                  each cell has one place, and each place one cell
--   level_cells, level_square                             how many cells a level has: 2^level in each direction
--   next_level                                            the next level has as many cells as this one has cells and details
use Rattle.std.specs.Prelude.{◌≡◌, refl, ℕ, zero, suc, ◌+◌, ◌*◌, ◌/◌, ◌%◌, ◌^◌, ◌<◌}
use Rattle.std.proofs.Common.{sym, ◌∙◌, ap, ap₂, arith, mod-eq_of_lt, mod-lt, add-zero, div-add-mod', div-lt_iff_lt-mul, mul-le-mul_right, pow-suc}
use Rattle.std.proofs.Math.Nat.{pow-succ', mul-add-div_right, mul-add-mod_self_right, div-eq_of_lt, pow-zero, mul-mul-mul_comm}
use Rattle.std.proofs.Math.Pow.{suc_ones}
use Rattle.haar.specs.Cells.{children, details, Cell, Below, row_major, cell_at, parent, child_number, child}

-- a cell from its first number and the rest
pair : {A : Type 0} {x y : ℕ} {r s : A} → x ≡ y → r ≡ s → ◌≡◌ {A = ℕ × A} (x, r) (y, s)
pair {A} e f = ap₂ (λ (u : ℕ) (v : A). (u, v)) e f

-- ---- parents and children
pub parent-child : (n : ℕ) (cell : Cell n) (c : ℕ) → parent n (child n cell c) ≡ cell
unfolding parent child
parent-child zero cell c = refl
parent-child (suc n) (x, rest) c = let e : (2 * x + c % 2) / 2 ≡ x = omega arith in pair e (parent-child n rest (c / 2))

pub child_number-child : (n : ℕ) (cell : Cell n) (c : ℕ) → c < children n → child_number n (child n cell c) ≡ c
unfolding child_number child
child_number-child zero cell c h = omega arith
child_number-child (suc n) (x, rest) c h =
    let e = child_number-child n rest (c / 2) (omega (arith, pow-succ' 2 n)) in
    omega arith

pub child-parent : (n : ℕ) (cell : Cell n) → child n (parent n cell) (child_number n cell) ≡ cell
unfolding parent child_number child
child-parent zero cell = refl
child-parent (suc n) (x, rest) =
    let e : 2 * (x / 2) + (x % 2 + 2 * child_number n rest) % 2 ≡ x = omega arith in
    let f : (x % 2 + 2 * child_number n rest) / 2 ≡ child_number n rest = omega arith in
    pair e (ap (child n (parent n rest)) f ∙ child-parent n rest)

pub child_number-lt : (n : ℕ) (cell : Cell n) → child_number n cell < children n
unfolding child_number
child_number-lt zero cell = omega arith
child_number-lt (suc n) (x, rest) = omega (arith, pow-succ' 2 n, child_number-lt n rest)

pub below-parent : (n m : ℕ) (cell : Cell n) → Below n (2 * m) cell → Below n m (parent n cell)
unfolding parent
below-parent zero m cell b = tt
below-parent (suc n) m (x, rest) b = (let h = b.0 in omega arith, below-parent n m rest b.1)

-- ---- places
pub row_major-lt : (n m : ℕ) (cell : Cell n) → Below n m cell → row_major n m cell < m ^ n
unfolding row_major
row_major-lt zero m cell b = omega (arith, pow-zero m)
row_major-lt (suc n) m (x, rest) b =
    let h = b.0 in
    omega (arith, mul-le-mul_right m (row_major-lt n m rest b.1), pow-suc m n)

pub cell_at-row_major : (n m : ℕ) (cell : Cell n) → Below n m cell → cell_at n m (row_major n m cell) ≡ cell
unfolding row_major cell_at
cell_at-row_major zero m cell b = refl
cell_at-row_major (suc n) m (x, rest) b =
    let h = b.0 in
    let r = row_major n m rest in
    pair (mul-add-mod_self_right r m x ∙ mod-eq_of_lt h)
    (ap (cell_at n m) (mul-add-div_right (omega arith) r x ∙ ap (λ k. r + k) (div-eq_of_lt h) ∙ add-zero r) ∙ cell_at-row_major n m rest b.1)

pub below-cell_at : (n m i : ℕ) → 0 < m → Below n m (cell_at n m i)
unfolding cell_at
below-cell_at zero m i h = tt
below-cell_at (suc n) m i h = (mod-lt i h, below-cell_at n m (i / m) h)

pub row_major-cell_at : (n m i : ℕ) → 0 < m → i < m ^ n → row_major n m (cell_at n m i) ≡ i
unfolding row_major cell_at
row_major-cell_at zero m i h k = omega (arith, pow-zero m)
row_major-cell_at (suc n) m i h k =
    ap (λ r. r * m + i % m) (row_major-cell_at n m (i / m) h ((div-lt_iff_lt-mul h).1 (omega (arith, pow-suc m n)))) ∙ div-add-mod' i m

-- ---- how many cells a level has
mul_pow : (a b j : ℕ) → (a * b) ^ j ≡ a ^ j * b ^ j
mul_pow a b zero = pow-zero (a * b) ∙ sym (ap₂ ◌*◌ (pow-zero a) (pow-zero b))
mul_pow a b (suc j) =
    pow-suc (a * b) j ∙ ap (λ x. x * (a * b)) (mul_pow a b j) ∙ mul-mul-mul_comm (a ^ j) (b ^ j) a b ∙ sym (ap₂ ◌*◌ (pow-suc a j) (pow-suc b j))

one_pow : (j : ℕ) → 1 ^ j ≡ 1
one_pow zero = refl
one_pow (suc j) = pow-suc 1 j ∙ (let e = one_pow j in omega arith)

pub level_cells : (n j : ℕ) → (2 ^ j) ^ n ≡ children n ^ j
level_cells zero j = pow-zero (2 ^ j) ∙ sym (one_pow j)
level_cells (suc n) j = pow-suc (2 ^ j) n ∙ ap (λ x. x * 2 ^ j) (level_cells n j) ∙ sym (ap (λ x. x ^ j) (pow-suc 2 n) ∙ mul_pow (2 ^ n) 2 j)

pub level_square : (j : ℕ) → 2 ^ j * 2 ^ j ≡ children 2 ^ j
level_square j = sym (mul_pow 2 2 j)

-- a level and the details of its cells are as many as the cells of the next
pub next_level : (n j : ℕ) → children n ^ suc j ≡ children n ^ j + details n * children n ^ j
next_level n j = pow-succ' (children n) j ∙ ap (λ c. c * children n ^ j) (sym (suc_ones n)) ∙ omega arith
