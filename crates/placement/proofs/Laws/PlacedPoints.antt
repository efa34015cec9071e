-- The placed coordinates, point by point and part by part; question 12 of a point and of a part.
--
-- Main results
--   placed_none                  with no placement nothing moves, whatever the list
--   placed-length                as many coordinates as before
--   as_many                      the same of points that the code hands on
--   placed_x, placed_y           point k of the placed coordinates is point k, moved
--   placed-take, placed-drop     the first points, placed, are the first of the placed coordinates; the others are the others
--   placed_part                  a part between two points, placed, is that part of the placed coordinates
--   placeable_at                 where question 12 is answered yes, it is of any two coordinates alone
--   placeable_part               and of a part
use Rattle.std.specs.Prelude.{◌≡◌, ℕ, zero, suc, ◌+◌, ◌*◌, ◌<◌, Bool, true, ◌&&◌, List, [], ◌∷◌, length, get_or, take, drop, ℤ, pos, slice_index_or, refl}
use Rattle.std.proofs.Math.Path.{sym, ap}
use Rattle.std.proofs.Common.{◌∙◌, ap₂, arith, drop-cons}
use Rattle.integers.proofs.Theorems.Below.{both}
use Rattle.integers.specs.Tests.{every}
use Rattle.integers.proofs.Theorems.Every.{every_entry, every_part}
use Rattle.placement.specs.Placed.{across_of, down_of, placed, floats_usable, is_movable, placeable}
use Rattle.placement.specs.Coordinates.{coordinates}
use Rattle.placement.specs.declared.points.PlacedPoints.{PlacedPoints}
use Rattle.placement.specs.declared.Placement.{Placement}
use Rattle.placement.specs.declared.Placement.TheVariants.{None, Shift, Scale, Turn}

pub placed_none : (l : List ℤ) → placed None l ≡ l
unfolding placed
placed_none [] = refl
placed_none (x ∷ []) = refl
placed_none (x ∷ y ∷ rest) = ap (λ l. x ∷ y ∷ l) (placed_none rest)

pub placed-length : (p : Placement) (l : List ℤ) → length (placed p l) ≡ length l
unfolding placed
placed-length p [] = refl
placed-length p (x ∷ []) = refl
placed-length p (x ∷ y ∷ rest) = ap (λ n. suc (suc n)) (placed-length p rest)

pub as_many : (q : PlacedPoints) → length (coordinates q) ≡ length q.given.now
as_many q = placed-length q.placement q.given.now

-- two coordinates on for each point
pair : (k : ℕ) → 2 * suc k ≡ suc (suc (2 * k))
pair k = omega arith

-- ---- a part that begins and ends between two points
pub placed-take : (p : Placement) (n : ℕ) (l : List ℤ) → placed p (take (2 * n) l) ≡ take (2 * n) (placed p l)
unfolding placed
placed-take p zero l = refl
placed-take p (suc n) [] = ap (λ m. placed p (take m [])) (pair n) ∙ sym (ap (λ m. take m (placed p [])) (pair n))
placed-take p (suc n) (x ∷ []) = ap (λ m. placed p (take m (x ∷ []))) (pair n) ∙ sym (ap (λ m. take m (placed p (x ∷ []))) (pair n))
placed-take p (suc n) (x ∷ y ∷ l) =
    ap (λ m. placed p (take m (x ∷ y ∷ l))) (pair n)
    ∙ ap (λ r. across_of p x y ∷ down_of p x y ∷ r) (placed-take p n l)
    ∙ sym (ap (λ m. take m (placed p (x ∷ y ∷ l))) (pair n))

pub placed-drop : (p : Placement) (n : ℕ) (l : List ℤ) → placed p (drop (2 * n) l) ≡ drop (2 * n) (placed p l)
unfolding placed
placed-drop p zero l = refl
placed-drop p (suc n) [] = ap (λ m. placed p (drop m [])) (pair n) ∙ sym (ap (λ m. drop m (placed p [])) (pair n))
placed-drop p (suc n) (x ∷ []) = ap (λ m. placed p (drop m (x ∷ []))) (pair n) ∙ sym (ap (λ m. drop m (placed p (x ∷ []))) (pair n))
placed-drop p (suc n) (x ∷ y ∷ l) =
    ap (λ m. placed p (drop m (x ∷ y ∷ l))) (pair n) ∙ placed-drop p n l ∙ sym (ap (λ m. drop m (placed p (x ∷ y ∷ l))) (pair n))

pub placed_part : (p : Placement) (i n : ℕ) (l : List ℤ) → placed p (take (2 * n) (drop (2 * i) l)) ≡ take (2 * n) (drop (2 * i) (placed p l))
placed_part p i n l = placed-take p n (drop (2 * i) l) ∙ ap (take (2 * n)) (placed-drop p i l)

-- ---- point k: the first two coordinates that are left after those of the points before it
two : (l : List ℤ) (i : ℕ) → i + 1 < length l → drop i l ≡ slice_index_or l i (pos 0) ∷ slice_index_or l (i + 1) (pos 0) ∷ drop (i + 2) l
two l i h =
    let next : suc i ≡ i + 1 = omega arith in
    let past : suc (i + 1) ≡ i + 2 = omega arith in
    drop-cons l i (pos 0) (omega arith)
    ∙ ap (λ r. slice_index_or l i (pos 0) ∷ r) (ap (λ n. drop n l) next ∙ drop-cons l (i + 1) (pos 0) h ∙ ap (λ n. slice_index_or l (i + 1) (pos 0) ∷ drop n l) past)

module _ (p : Placement) (l : List ℤ) (k : ℕ) (h : 2 * k + 1 < length l) where
  abbrev x : ℤ
  x = slice_index_or l (2 * k) (pos 0)

  abbrev y : ℤ
  y = slice_index_or l (2 * k + 1) (pos 0)

  from_k : get_or (placed p l) (2 * k) (pos 0) ∷ slice_index_or (placed p l) (2 * k + 1) (pos 0) ∷ drop (2 * k + 2) (placed p l)
      ≡ across_of p x y ∷ down_of p x y ∷ placed p (drop (2 * k + 2) l)
  unfolding placed
  from_k =
      let inside : 2 * k + 1 < length (placed p l) = omega (arith, h, placed-length p l) in
      sym (two (placed p l) (2 * k) inside) ∙ sym (placed-drop p k l) ∙ ap (placed p) (two l (2 * k) h)

  pub placed_x : get_or (placed p l) (2 * k) (pos 0) ≡ across_of p x y
  placed_x = ap (λ r. get_or r 0 (pos 0)) from_k

  pub placed_y : get_or (placed p l) (2 * k + 1) (pos 0) ≡ down_of p x y
  placed_y = ap (λ r. get_or r 1 (pos 0)) from_k

-- ---- question 12. It asks the same of the floats whatever the points, so an answer is carried over where that about the points is.
asked_of : (floats : Bool) (k l : List ℤ) → (every is_movable k ≡ true → every is_movable l ≡ true) → (floats && every is_movable k) ≡ true → (floats && every is_movable l) ≡ true
asked_of floats k l f e = let said = both floats (every is_movable k) e in ap₂ ◌&&◌ said.0 (f said.1)

carried : (p : Placement) (k l : List ℤ) → (every is_movable k ≡ true → every is_movable l ≡ true) → placeable p k ≡ true → placeable p l ≡ true
carried None k l f e = refl
carried (Shift u v) k l f e = asked_of (floats_usable (Shift u v)) k l f e
carried (Scale s) k l f e = asked_of (floats_usable (Scale s)) k l f e
carried (Turn m) k l f e = asked_of (floats_usable (Turn m)) k l f e

pub placeable_at : (p : Placement) (l : List ℤ) (i j : ℕ) → placeable p l ≡ true → i < length l → j < length l
    → placeable p (slice_index_or l i (pos 0) ∷ slice_index_or l j (pos 0) ∷ []) ≡ true
placeable_at p l i j e h k =
    carried p l (slice_index_or l i (pos 0) ∷ slice_index_or l j (pos 0) ∷ [])
    (λ r. ap₂ (λ a b. a && (b && true)) (every_entry is_movable (pos 0) l r i h) (every_entry is_movable (pos 0) l r j k)) e

pub placeable_part : (p : Placement) (i n : ℕ) (l : List ℤ) → placeable p l ≡ true → placeable p (take n (drop i l)) ≡ true
placeable_part p i n l = carried p l (take n (drop i l)) (every_part is_movable i n l)
