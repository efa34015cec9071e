-- Laws of what specs/Magnitude.antt defines. The head of that file lists the main results.
use Rattle.std.specs.Prelude.{◌≡◌, refl, [], ◌∷◌, ℕ, zero, suc, ◌+◌, ◌*◌, ◌≤◌, ℤ, pos, negsuc, neg_ℤ, nat_abs, ◌+ℤ◌, ◌-ℤ◌, ◌*ℤ◌, ◌≤ℤ◌}
use Rattle.std.proofs.Common.{ap, subst, leb→le}
use Rattle.std.specs.Int.Signed.{le_z_yes}
use Rattle.integers.proofs.Theorems.Ring.{read, ring}
use Rattle.integers.proofs.Theorems.Order.{nonneg}
use Rattle.integers.proofs.Theorems.Linear.{le, eq, ◌&◌, linear, lin≤}
use Rattle.integers.specs.Magnitude.{AbsView, abs, nonnegative, nonpositive}

pub abs_view : (z : ℤ) → AbsView z (abs z)
unfolding abs
abs_view (pos n) = nonnegative (nonneg n) refl
abs_view (negsuc n) = nonpositive (le_z_yes tt) refl

pub abs-nonneg : (z : ℤ) → pos 0 ≤ℤ abs z
unfolding abs
abs-nonneg z = nonneg (nat_abs z)

pub abs-pos : (n : ℕ) → abs (pos n) ≡ pos n
unfolding abs
abs-pos n = refl

pub abs_neg : (z : ℤ) → abs (neg_ℤ z) ≡ abs z
unfolding abs
abs_neg (pos zero) = refl
abs_neg (pos (suc n)) = refl
abs_neg (negsuc n) = refl

pub abs-mul : (x y : ℤ) → abs (x *ℤ y) ≡ abs x *ℤ abs y
unfolding abs
abs-mul (pos a) (pos b) = refl
abs-mul (pos a) (negsuc b) = abs_neg (pos (a * suc b))
abs-mul (negsuc a) (pos b) = abs_neg (pos (suc a * b))
abs-mul (negsuc a) (negsuc b) = refl

pub nat_abs_mul : (x y : ℤ) → nat_abs (x *ℤ y) ≡ nat_abs x * nat_abs y
unfolding abs
nat_abs_mul x y = ap nat_abs (abs-mul x y)

-- ---- |z| ≤ b, by two inequalities
pub le-abs : (z : ℤ) → z ≤ℤ abs z
le-abs z = go (abs_view z)
  where
    go : AbsView z (abs z) → z ≤ℤ abs z
    go (nonnegative h e) = lin≤ (z ∷ abs z ∷ []) (eq e) (search linear depth 40) tt
    go (nonpositive h e) = lin≤ (z ∷ abs z ∷ []) (le h & eq e) (search linear depth 40) tt

pub neg-le-abs : (z : ℤ) → neg_ℤ z ≤ℤ abs z
neg-le-abs z = subst (λ x. neg_ℤ z ≤ℤ x) (abs_neg z) (le-abs (neg_ℤ z))

pub abs-le : {z b : ℤ} → z ≤ℤ b → neg_ℤ z ≤ℤ b → abs z ≤ℤ b
abs-le {z} {b} h k = go (abs_view z)
  where
    go : AbsView z (abs z) → abs z ≤ℤ b
    go (nonnegative i e) = lin≤ (z ∷ abs z ∷ b ∷ []) (eq e & le h) (search linear depth 40) tt
    go (nonpositive i e) = lin≤ (z ∷ abs z ∷ b ∷ []) (eq e & le k) (search linear depth 40) tt

pub abs-triangle : (x y : ℤ) → abs (x +ℤ y) ≤ℤ (abs x +ℤ abs y)
abs-triangle x y =
    abs-le (lin≤ (x ∷ y ∷ abs x ∷ abs y ∷ []) (le (le-abs x) & le (le-abs y)) (search linear depth 40) tt)
    (lin≤ (x ∷ y ∷ abs x ∷ abs y ∷ []) (le (neg-le-abs x) & le (neg-le-abs y)) (search linear depth 40) tt)

-- magnitudes are no further apart than the numbers
pub abs-difference : (x y : ℤ) → (abs x -ℤ abs y) ≤ℤ abs (x -ℤ y)
abs-difference x y =
    let e : abs (x -ℤ y +ℤ y) ≡ abs x = ap abs (ring (x ∷ y ∷ []) (search read depth 40) tt) in
    lin≤ (abs x ∷ abs y ∷ abs (x -ℤ y) ∷ abs (x -ℤ y +ℤ y) ∷ []) (le (abs-triangle (x -ℤ y) y) & eq e) (search linear depth 40) tt

pub nat_abs-triangle : (x y : ℤ) → nat_abs (x +ℤ y) ≤ nat_abs x + nat_abs y
unfolding abs
nat_abs-triangle x y = leb→le (nat_abs (x +ℤ y)) (nat_abs x + nat_abs y) (abs-triangle x y).le
