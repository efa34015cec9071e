-- Laws of what specs/Within.antt defines. The head of that file lists the main results.
use Rattle.std.specs.Prelude.{◌≡◌, refl, [], ◌∷◌, ◌⊎◌, ℕ, ◌≤◌, ℤ, pos, negsuc, neg_ℤ, nat_abs, ◌+ℤ◌, ◌-ℤ◌, ◌*ℤ◌, ◌≤ℤ◌}
use Rattle.std.proofs.Common.{sym, subst, subst₂, inl, inr}
use Rattle.integers.proofs.Theorems.Ring.{read, ring, comb, ◌⊗◌}
use Rattle.integers.proofs.Theorems.Order.{≤ℤ-mul, nonneg, pos-≤ℤ, ≤_of_pos}
use Rattle.integers.specs.Linear.{end, more, Facts}
use Rattle.integers.proofs.Theorems.Linear.{le, ◌&◌, linear, lin≤, lin≡}
use Rattle.integers.specs.Magnitude.{abs}
use Rattle.integers.proofs.Theorems.Magnitude.{abs-mul, abs-le, le-abs, neg-le-abs, abs-difference}
use Rattle.integers.specs.Within.{Within}

pub bounds : {b x : ℤ} → Within b x → Facts (more (neg_ℤ b) x (more x b end))
bounds w = le w.low & le w.high

pub within_is : {a b x y : ℤ} → a ≡ b → x ≡ y → Within a x → Within b y
within_is e f w = subst₂ Within e f w

pub within_le : {a b x : ℤ} → a ≤ℤ b → Within a x → Within b x
within_le {a} {b} {x} h w = record {
  low = lin≤ (a ∷ b ∷ x ∷ []) (bounds w & le h) (search linear depth 40) tt;
  high = lin≤ (a ∷ b ∷ x ∷ []) (bounds w & le h) (search linear depth 40) tt;
}

pub within_add : {a b x y : ℤ} → Within a x → Within b y → Within (a +ℤ b) (x +ℤ y)
within_add {a} {b} {x} {y} p q = record {
  low = lin≤ (a ∷ b ∷ x ∷ y ∷ []) (bounds p & bounds q) (search linear depth 40) tt;
  high = lin≤ (a ∷ b ∷ x ∷ y ∷ []) (bounds p & bounds q) (search linear depth 40) tt;
}

pub within_neg : {a x : ℤ} → Within a x → Within a (neg_ℤ x)
within_neg {a} {x} w = record {
  low = lin≤ (a ∷ x ∷ []) (bounds w) (search linear depth 40) tt;
  high = lin≤ (a ∷ x ∷ []) (bounds w) (search linear depth 40) tt;
}

pub within_sub : {a b x y : ℤ} → Within a x → Within b y → Within (a +ℤ b) (x -ℤ y)
within_sub p q = within_add p (within_neg q)

-- of the four products of distances to the bounds, two give each side
pub within_mul : {a b x y : ℤ} → Within a x → Within b y → Within (a *ℤ b) (x *ℤ y)
within_mul {a} {b} {x} {y} p q = record {
  low = lin≤ (a ∷ b ∷ x ∷ y ∷ []) (le (≤ℤ-mul p.low q.low) & le (≤ℤ-mul p.high q.high)) (search linear depth 40) tt;
  high = lin≤ (a ∷ b ∷ x ∷ y ∷ []) (le (≤ℤ-mul p.low q.high) & le (≤ℤ-mul p.high q.low)) (search linear depth 40) tt;
}

pub within_self : {k : ℤ} → pos 0 ≤ℤ k → Within k k
within_self {k} h = record {
  low = lin≤ (k ∷ []) (le h) (search linear depth 40) tt;
  high = lin≤ (k ∷ []) (le h) (search linear depth 40) tt;
}

-- 0 is within every bound
pub within_zero : (b : ℕ) → Within (pos b) (pos 0)
within_zero b = within_le (nonneg b) (within_self (nonneg 0))

pub within_scale : {b x : ℤ} (k : ℕ) → Within b x → Within (pos k *ℤ b) (pos k *ℤ x)
within_scale k w = within_mul (within_self (nonneg k)) w

pub within_sign : {b x s : ℤ} → (s ≡ pos 1) ⊎ (s ≡ negsuc 0) → Within b x → Within b (s *ℤ x)
within_sign {b} {x} {s} (inl e) w = within_is refl (comb (s ∷ x ∷ []) (x ⊗ sym e) (search read depth 40) tt) w
within_sign {b} {x} {s} (inr e) w = within_is refl (comb (s ∷ x ∷ []) (x ⊗ sym e) (search read depth 40) tt) (within_neg w)

-- ---- magnitudes
pub within_of_abs : {b x : ℤ} → abs x ≤ℤ b → Within b x
within_of_abs {b} {x} h = record {
  low = lin≤ (b ∷ x ∷ abs x ∷ []) (le h & le (neg-le-abs x)) (search linear depth 40) tt;
  high = lin≤ (b ∷ x ∷ abs x ∷ []) (le h & le (le-abs x)) (search linear depth 40) tt;
}

pub abs_of_within : {b x : ℤ} → Within b x → abs x ≤ℤ b
abs_of_within {b} {x} w = abs-le w.high (lin≤ (b ∷ x ∷ []) (le w.low) (search linear depth 40) tt)

pub within_of_nat_abs : {b : ℕ} {x : ℤ} → nat_abs x ≤ b → Within (pos b) x
unfolding abs
within_of_nat_abs h = within_of_abs (pos-≤ℤ h)

pub nat_abs_of_within : {b : ℕ} {x : ℤ} → Within (pos b) x → nat_abs x ≤ b
unfolding abs
nat_abs_of_within w = ≤_of_pos (abs_of_within w)

pub scaled-abs_of_within : {b : ℤ} (k : ℕ) (x : ℤ) → Within b (pos k *ℤ x) → (pos k *ℤ abs x) ≤ℤ b
unfolding abs
scaled-abs_of_within {b} k x w = subst (λ z. z ≤ℤ b) (abs-mul (pos k) x) (abs_of_within w)

pub within_abs : {b : ℤ} (x y : ℤ) → Within b (x -ℤ y) → Within b (abs x -ℤ abs y)
within_abs {b} x y w =
    let back : neg_ℤ (x -ℤ y) ≡ y -ℤ x = ring (x ∷ y ∷ []) (search read depth 40) tt in
    let above = abs_of_within w in
    let below = abs_of_within (within_is refl back (within_neg w)) in
    record {
      low = lin≤ (abs x ∷ abs y ∷ abs (y -ℤ x) ∷ b ∷ []) (le (abs-difference y x) & le below) (search linear depth 40) tt;
      high = lin≤ (abs x ∷ abs y ∷ abs (x -ℤ y) ∷ b ∷ []) (le (abs-difference x y) & le above) (search linear depth 40) tt;
    }

pub zero_of_within : {x : ℤ} → Within (pos 0) x → x ≡ pos 0
zero_of_within {x} w = lin≡ (x ∷ []) (bounds w) (search linear depth 40) (tt, tt)
