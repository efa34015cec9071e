-- What can be drawn of a table: each level down to its depth, and each cell of such a level; that noughts are a table of any depth; and that what has room
-- for the deepest level has room for each.
use Rattle.std.specs.Prelude.{◌≡◌, refl, List, ℕ, ◌^◌, ◌<◌, ◌≤◌, length, ℤ, pos}
use Rattle.std.proofs.Common.{subst, sym, replicate, take, arith}
use Rattle.std.proofs.lemmas.List.{length-replicate, length-take-le, get_or-replicate, get_or_past}
use native.Mathlib.Nat.{pow-le-pow_right}
use native.Mathlib.Decide.{dec_lt}
use Rattle.integers.specs.Units.{greatest_depth, entry_limit}
use Rattle.integers.proofs.Theorems.Within.{within_is, within_zero}
use Rattle.haar.specs.Cells.{children}
use Rattle.haar.specs.Plane.{dimensions}
use Rattle.haar.specs.Drawable.{InRange, Drawable, DrawableCell, DrawablePicture}
use Rattle.haar.proofs.Above.{shallower}

pub level_picture : {entries : List ℤ} {depth level room : ℕ} → Drawable entries depth → level ≤ depth → room ≡ children dimensions ^ level
    → DrawablePicture entries level room
level_picture d h e = record { drawable = shallower d h; exact = e }

pub level_cell : {entries : List ℤ} {depth level n x y : ℕ} → Drawable entries depth → level ≤ depth → n ≡ 2 ^ level → x < n → y < n
    → DrawableCell entries level x y
level_cell {x = x} {y} d h e i j = record { drawable = shallower d h; x_below = subst (λ n. x < n) e i; y_below = subst (λ n. y < n) e j }

blank_in_range : (n : ℕ) → InRange (replicate n (pos 0))
blank_in_range n = record {
  each = λ k. elim (dec_lt k n) [
    | yes h ↦ within_is refl (sym (get_or-replicate n k (pos 0) (pos 0) h)) (within_zero entry_limit)
    | no h ↦ within_is refl (sym (get_or_past (replicate n (pos 0)) k (pos 0) (omega (arith, length-replicate n (pos 0))))) (within_zero entry_limit)
  ];
}

pub blank_drawable : {depth : ℕ} → (n : ℕ) → n ≡ children dimensions ^ greatest_depth → depth ≤ greatest_depth → Drawable (replicate n (pos 0)) depth
blank_drawable n e h = record {
  shallow = h;
  long = omega (arith, e, length-replicate n (pos 0), pow-le-pow_right {n = children dimensions} (omega arith) h);
  in_range_lem = blank_in_range n;
}

-- the first n places of noughts are n
pub first_places : {A : Type 0} {n : ℕ} (m : ℕ) (a : A) → n ≤ m → length (take n (replicate m a)) ≡ n
first_places {n = n} m a h = length-take-le n (replicate m a) (omega (arith, h, length-replicate m a))

-- the deepest level has room for the cells of each
pub level_fits : {entries : List ℤ} {depth level n : ℕ} → Drawable entries depth → level ≤ depth → n ≡ children dimensions ^ level
    → n ≤ children dimensions ^ greatest_depth
level_fits d h e = omega (arith, e, pow-le-pow_right {n = children dimensions} (omega arith) (shallower d h).shallow)
