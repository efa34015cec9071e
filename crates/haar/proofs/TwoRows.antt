-- Two rows of a level from the row of their parents, the last cell first.
--
-- Main results
--   RowPlaces, row-places                     where the rows stand
--   NextCell, next_cell                       which cell is next
--   parent_inside, parent_is, parent_refinable  its figure
--   rows_step                                 one cell's children more are drawn
use mathlib.Core.Path.{◌≡◌, sym, ◌∙◌, ap, ap₂, subst⁻¹, subst₂}
use mathlib.Core.List.{List}
use mathlib.Core.Logic.{◌≢◌}
use Prim.Native.Nat.{ℕ, suc, ◌+◌, ◌*◌, ◌-◌, ◌/◌, ◌^◌, ◌<◌, ◌≤◌}
use native.Mathlib.Omega.{arith}
use native.Mathlib.Decide.{dec_lt}
use native.Mathlib.Nat.{pow-succ', mul-le-mul, mul-le-mul_right}
use lib.ListN.{length, get_or, set, length-set}
use lib.Seq.{get_or-set_same, get_or-set_other}
use lib.Pow.{pow_mono}
use lib.IntN.{ℤ, pos}
use Rattle.integers.specs.Units.{greatest_depth, greatest_side}
use Rattle.haar.specs.Cells.{children}
use Rattle.haar.specs.Plane.{dimensions, figure_in}
use Rattle.haar.specs.Pairs.{Refinable, IsPair}
use Rattle.haar.specs.Levels.{put_pair, KeepsParents, RowParents, RowsBelow}
use Rattle.haar.proofs.Laws.Cells.{level_square}
use Rattle.haar.specs.declared.Pair.{Pair}

-- ---- a pair in a list
module _ {A : Type 0} (o a b : A) (k : ℕ) (l : List A) where
  pair-length : length (put_pair a b k l) ≡ length l
  pair-length = length-set (set l k a) (k + 1) b ∙ length-set l k a

  pair-elsewhere : (i : ℕ) → i ≢ k → i ≢ k + 1 → get_or (put_pair a b k l) i o ≡ get_or l i o
  pair-elsewhere i p q = get_or-set_other (set l k a) (k + 1) i b o q ∙ get_or-set_other l k i a o p

  pair_first : k < length l → get_or (put_pair a b k l) k o ≡ a
  pair_first h = get_or-set_other (set l k a) (k + 1) k b o (omega arith) ∙ get_or-set_same l k a o h

  pair_second : k + 1 < length l → get_or (put_pair a b k l) (k + 1) o ≡ b
  pair_second h = get_or-set_same (set l k a) (k + 1) b o (omega (arith, length-set l k a))

-- ---- where things stand, for the machine's sums
-- n cells across, y × n the first of row y
pub record RowPlaces (n y room : ℕ) : Type 0 where
  pub across : 2 * n ≤ greatest_side
  pub row : y < n
  pub inside : 4 * (y * n) + 4 * n ≤ room
  pub parents : y * n + n ≤ n * n
  pub few : 4 * (y * n) + 4 * n ≤ greatest_side * greatest_side

pub row-places : {level room n y : ℕ} → level < greatest_depth → children dimensions ^ suc level ≤ room → n ≡ 2 ^ level → y < 2 ^ level → RowPlaces n y room
row-places {level} {room} {n} {y} d r e h =
    let m : 2 * n ≤ greatest_side = omega (arith, pow-succ' 2 level, pow_mono d) in
    let q : y * n + n ≤ n * n = omega (arith, mul-le-mul_right n (let k : suc y ≤ n = omega arith in k)) in
    let s : 4 * (n * n) ≡ children dimensions ^ suc level = ap (λ m. 4 * (m * m)) e ∙ ap (λ k. 4 * k) (level_square level) ∙ omega (arith, pow-succ' 4 level) in
    let t = mul-le-mul m m in
    record { across = m; row = omega arith; parents = q; inside = omega arith; few = omega arith }

-- the cell before cell x of the row is the next
pub record NextCell (n y x room : ℕ) : Type 0 where
  pub places : RowPlaces n y room
  pub left : 0 < x
  pub within : x ≤ n

pub next_cell : {A : Type 0} {g : ℤ → A} {o : A} {entries : List ℤ} {level n y x : ℕ} {before l : List A} → level < greatest_depth
    → children dimensions ^ suc level ≤ length before → n ≡ 2 ^ level → y < 2 ^ level → RowsBelow g o entries level y before l x → 0 < x → x ≤ n → NextCell n y x (length l)
next_cell {n = n} {y} d m e b r h k = record { places = subst⁻¹ (RowPlaces n y) r.same_length (row-places d m e b); left = h; within = k }

-- its figure is still where it was
module _ {D A : Type 0} {shade : D → ℤ → A} {parents : D → List A → List ℤ} (keeps : KeepsParents shade parents) (d : D)
    {entries : List ℤ} {level n y x room : ℕ} {before l : List A} (p : RowParents entries level y (parents d before))
    (r : RowsBelow (shade d) (shade d (pos 0)) entries level y before l x) (e : n ≡ 2 ^ level) (next : NextCell n y x room) where
  pub parent_inside : y * n + (x - 1) < length (parents d l)
  parent_inside =
      omega (arith, next.left, next.within, next.places.parents, p.enough, ap₂ ◌*◌ e e ∙ level_square level, keeps.same_length d l before r.same_length)

  pub parent_is : {f : ℤ} → f ≡ get_or (parents d l) (y * n + (x - 1)) (pos 0) → f ≡ figure_in entries level (x - 1) y
  parent_is h =
      let here : y * n + (x - 1) ≡ y * 2 ^ level + (x - 1) = ap (λ m. y * m + (x - 1)) e in
      h ∙ ap (λ i. get_or (parents d l) i (pos 0)) here
      ∙ keeps.same_figure d l before (y * 2 ^ level + (x - 1)) (r.low _ (omega (arith, next.left)))
      ∙ p.entry (x - 1) (omega (arith, next.left, next.within))

  pub parent_refinable : {f : ℤ} (cy : ℕ) → cy / 2 ≡ y → f ≡ figure_in entries level (x - 1) y
      → Refinable entries level (x - 1) cy f
  parent_refinable cy h k = record {
    x_below = omega (arith, next.left, next.within);
    y_below = omega (arith, p.y_below, pow-succ' 2 level);
    is_figure = k ∙ ap (figure_in entries level (x - 1)) (sym h);
  }

module _ {A : Type 0} {g : ℤ → A} {o : A} {entries : List ℤ} {level y : ℕ} {before : List A} where
  -- one cell's children: a and b in the upper row, at k, and c and d below them, at m
  rows_put : {l : List A} {x k m : ℕ} {a b c d : A} → RowPlaces (2 ^ level) y (length before) → 0 < x → x ≤ 2 ^ level
      → RowsBelow g o entries level y before l x → k ≡ 4 * (y * 2 ^ level) + 2 * (x - 1) → m ≡ k + 2 * 2 ^ level
      → a ≡ g (figure_in entries (suc level) (2 * (x - 1)) (2 * y)) → b ≡ g (figure_in entries (suc level) (2 * (x - 1) + 1) (2 * y))
      → c ≡ g (figure_in entries (suc level) (2 * (x - 1)) (2 * y + 1)) → d ≡ g (figure_in entries (suc level) (2 * (x - 1) + 1) (2 * y + 1))
      → RowsBelow g o entries level y before (put_pair c d m (put_pair a b k l)) (x - 1)
  rows_put {l} {x} {k} {m} {a} {b} {c} {d} p h few r ek em ea eb ec ed = record {
    same_length = pair-length o c d m (put_pair a b k l) ∙ pair-length o a b k l ∙ r.same_length;
    upper = λ i s t. row (4 * (y * 2 ^ level)) (2 * y) i s t (omega arith)
        (pair-elsewhere o c d m (put_pair a b k l) k (omega arith) (omega arith) ∙ pair_first o a b k l (omega (arith, room)) ∙ ea)
        (pair-elsewhere o c d m (put_pair a b k l) (k + 1) (omega arith) (omega arith) ∙ pair_second o a b k l (omega (arith, room)) ∙ eb)
        (λ q. elsewhere (4 * (y * 2 ^ level) + i) (omega arith) (omega arith) (omega arith) (omega arith) ∙ r.upper i (omega arith) t);
    lower = λ i s t. row (4 * (y * 2 ^ level) + 2 * 2 ^ level) (2 * y + 1) i s t (omega arith)
        (pair_first o c d m (put_pair a b k l) (omega (arith, room, pair-length o a b k l)) ∙ ec)
        (pair_second o c d m (put_pair a b k l) (omega (arith, room, pair-length o a b k l)) ∙ ed)
        (λ q. elsewhere (4 * (y * 2 ^ level) + 2 * 2 ^ level + i) (omega arith) (omega arith) (omega arith) (omega arith) ∙ r.lower i (omega arith) t);
    low = λ i s. elsewhere i (omega arith) (omega arith) (omega arith) (omega arith) ∙ r.low i (omega arith);
    high = λ i s. elsewhere i (omega arith) (omega arith) (omega arith) (omega arith) ∙ r.high i s;
  }
    where
      drawn : List A
      drawn = put_pair c d m (put_pair a b k l)

      room : m + 1 < length l
      room = omega (arith, p.inside, r.same_length)

      elsewhere : (i : ℕ) → i ≢ k → i ≢ k + 1 → i ≢ m → i ≢ m + 1 → get_or drawn i o ≡ get_or l i o
      elsewhere i s t u v = pair-elsewhere o c d m (put_pair a b k l) i u v ∙ pair-elsewhere o a b k l i s t

      -- a row that begins at place s: the two at j, and those behind them
      row : (s cy i : ℕ) → 2 * (x - 1) ≤ i → i < 2 * 2 ^ level → {j : ℕ} → j ≡ s + 2 * (x - 1)
          → get_or drawn j o ≡ g (figure_in entries (suc level) (2 * (x - 1)) cy) → get_or drawn (j + 1) o ≡ g (figure_in entries (suc level) (2 * (x - 1) + 1) cy)
          → (2 * x ≤ i → get_or drawn (s + i) o ≡ g (figure_in entries (suc level) i cy)) → get_or drawn (s + i) o ≡ g (figure_in entries (suc level) i cy)
      row s cy i u v {j} e first second behind =
          elim (dec_lt i (2 * (x - 1) + 1)) [
            | yes q ↦ ap (λ z. get_or drawn z o) {y = j} (omega arith) ∙ first ∙ ap (λ z. g (figure_in entries (suc level) z cy)) {y = i} (omega arith)
            | no q ↦
                elim (dec_lt i (2 * x)) [
                  | yes r ↦ ap (λ z. get_or drawn z o) {y = j + 1} (omega arith) ∙ second ∙ ap (λ z. g (figure_in entries (suc level) z cy)) {y = i} (omega arith)
                  | no r ↦ behind (omega arith)
                ]
          ]

  pub rows_step : {l first second : List A} {n x k m : ℕ} {p q : Pair} → n ≡ 2 ^ level → NextCell n y x (length l) → RowsBelow g o entries level y before l x
      → k ≡ 4 * (y * n) + 2 * (x - 1) → m ≡ k + 2 * n
      → IsPair entries level (x - 1) (2 * y) p → IsPair entries level (x - 1) (2 * y + 1) q
      → first ≡ put_pair (g p.left) (g p.right) k l → second ≡ put_pair (g q.left) (g q.right) m first
      → RowsBelow g o entries level y before second (x - 1)
  rows_step {x = x} {m = m} {q = q} e c r ek em up down first second =
      let row = ap (λ n. y * n) e in
      subst⁻¹ (λ l. RowsBelow g o entries level y before l (x - 1)) (second ∙ ap (put_pair (g q.left) (g q.right) m) first)
      (rows_put (subst₂ (λ n room. RowPlaces n y room) e r.same_length c.places) c.left (omega (arith, c.within)) r (omega arith) (omega arith)
      (ap g up.left_is) (ap g up.right_is) (ap g down.left_is) (ap g down.right_is))
