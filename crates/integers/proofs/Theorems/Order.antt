-- Laws of what specs/Order.antt defines. The head of that file lists the main results.
use Rattle.std.specs.Prelude.{◌≡◌, refl, [], ◌∷◌, ◌⊎◌, Bool, true, false, cond, not, ℕ, zero, suc, ◌+◌, ◌*◌, ◌-◌, ◌<◌, ◌≤◌, T, leb, ltb, ℤ, pos, negsuc, neg_ℤ, ◌+ℤ◌, ◌-ℤ◌, ◌*ℤ◌, ◌≤ℤ◌, ◌<ℤ◌}
use Rattle.std.proofs.Common.{sym, ◌∙◌, ap, ap₂, subst, inl, inr, arith, leb→le, le→leb, ltb→lt, lt→ltb}
use Rattle.std.proofs.Math.Path.{subst⁻¹}
use Rattle.std.proofs.Math.Dec.{nleb→lt}
use Rattle.std.proofs.Math.IntN.{suc_ℤ, +ℤ_one}
use Rattle.std.specs.Int.Signed.{le_z, lt_z, le_z_yes, lt_z_yes, lt_z_no, ≤ℤ_refl}
use Rattle.integers.proofs.Theorems.Ring.{read, ring, comb, ◌⊕◌, ◌⊗◌}
use Rattle.integers.specs.Order.{Gap}

from-negative : (a b : ℤ) → b ≡ neg_ℤ a +ℤ (a +ℤ b)
from-negative a b = ring (a ∷ b ∷ []) (search read depth 40) tt

between_negatives : (a k : ℤ) → neg_ℤ a ≡ neg_ℤ (a +ℤ k) +ℤ k
between_negatives a k = ring (a ∷ k ∷ []) (search read depth 40) tt

gap : (a b : ℤ) → T (le_z a b) → Gap a b
gap (pos a) (pos b) h = (b - a, ap pos (let k : a ≤ b = leb→le a b h in omega arith))
gap (pos a) (negsuc b) h = absurd h
gap (negsuc a) (pos b) h = (suc a + b, from-negative (pos (suc a)) (pos b))
gap (negsuc a) (negsuc b) h =
    (a - b, between_negatives (pos (suc b)) (pos (a - b)) ∙ ap (λ (x : ℕ). neg_ℤ (pos x) +ℤ pos (a - b)) (back a b (leb→le b a h)))
  where
    back : (a b : ℕ) → b ≤ a → suc b + (a - b) ≡ suc a
    back a b h = omega arith

pub ≤ℤ-gap : {a b : ℤ} → a ≤ℤ b → Gap a b
≤ℤ-gap {a} {b} h = gap a b h.le

le_up : (a : ℤ) (n : ℕ) → T (le_z a (a +ℤ pos n))
le_up (pos a) n = le→leb a (a + n) (omega arith)
le_up (negsuc a) n = go (ltb n (suc a)) (le→leb (suc a - suc n) a (omega arith))
  where
    go : (c : Bool) → T (leb (suc a - suc n) a) → T (le_z (negsuc a) (cond c (negsuc (suc a - suc n)) (pos (n - suc a))))
    go true t = t
    go false t = tt

pub gap-≤ℤ : {a b : ℤ} (n : ℕ) → b ≡ a +ℤ pos n → a ≤ℤ b
gap-≤ℤ {a} {b} n e = subst (λ x. a ≤ℤ x) (sym e) (le_z_yes (le_up a n))

-- ---- a < b is a + 1 ≤ b
lt-suc : (a b : ℤ) → T (lt_z a b) → T (le_z (suc_ℤ a) b)
lt-suc (pos a) (pos b) h = h
lt-suc (pos a) (negsuc b) h = absurd h
lt-suc (negsuc zero) (pos b) h = le→leb 0 b (omega arith)
lt-suc (negsuc zero) (negsuc b) h = absurd (let k : b < 0 = ltb→lt b 0 h in (omega arith))
lt-suc (negsuc (suc a)) (pos b) h = tt
lt-suc (negsuc (suc a)) (negsuc b) h = le→leb b a (let k : b < suc a = ltb→lt b (suc a) h in omega arith)

suc-lt : (a b : ℤ) → T (le_z (suc_ℤ a) b) → T (lt_z a b)
suc-lt (pos a) (pos b) h = h
suc-lt (pos a) (negsuc b) h = absurd h
suc-lt (negsuc zero) (pos b) h = tt
suc-lt (negsuc zero) (negsuc b) h = absurd h
suc-lt (negsuc (suc a)) (pos b) h = tt
suc-lt (negsuc (suc a)) (negsuc b) h = lt→ltb b (suc a) (let k : b ≤ a = leb→le b a h in omega arith)

pub add_one_≤ℤ : {a b : ℤ} → a <ℤ b → (a +ℤ pos 1) ≤ℤ b
add_one_≤ℤ {a} {b} h = subst⁻¹ (λ x. x ≤ℤ b) (+ℤ_one a) (le_z_yes (lt-suc a b h.lt))

pub <ℤ_of_add_one_≤ℤ : {a b : ℤ} → (a +ℤ pos 1) ≤ℤ b → a <ℤ b
<ℤ_of_add_one_≤ℤ {a} {b} h = lt_z_yes (suc-lt a b (subst (λ x. x ≤ℤ b) (+ℤ_one a) h).le)

-- ---- a linear order
pub ≤ℤ_or_<ℤ : (a b : ℤ) → (a ≤ℤ b) ⊎ (b <ℤ a)
≤ℤ_or_<ℤ a b = go (lt_z b a) (λ t. lt_z_yes t) (λ t. lt_z_no t)
  where
    go : (c : Bool) → (T c → b <ℤ a) → (T (not c) → a ≤ℤ b) → (a ≤ℤ b) ⊎ (b <ℤ a)
    go true f g = inr (f tt)
    go false f g = inl (g tt)

pub ≤ℤ_of_≡ : {a b : ℤ} → a ≡ b → a ≤ℤ b
≤ℤ_of_≡ {a} {b} e = subst (λ x. a ≤ℤ x) e (≤ℤ_refl a)

pub ≤ℤ_trans : {a b c : ℤ} → a ≤ℤ b → b ≤ℤ c → a ≤ℤ c
≤ℤ_trans {a} {b} {c} h k = go (≤ℤ-gap h) (≤ℤ-gap k)
  where
    go : Gap a b → Gap b c → a ≤ℤ c
    go p q = gap-≤ℤ (p.0 + q.0) (comb (a ∷ b ∷ c ∷ pos p.0 ∷ pos q.0 ∷ []) (p.1 ⊕ q.1) (search read depth 40) tt)

pub ≤ℤ_of_<ℤ : {a b : ℤ} → a <ℤ b → a ≤ℤ b
≤ℤ_of_<ℤ h = ≤ℤ_trans (gap-≤ℤ 1 refl) (add_one_≤ℤ h)

pub ≤ℤ_antisym : {a b : ℤ} → a ≤ℤ b → b ≤ℤ a → a ≡ b
≤ℤ_antisym {a} {b} h k = anti a b h.le k.le
  where
    both : (a b : ℕ) → a ≤ b → b ≤ a → a ≡ b
    both a b h k = omega arith

    anti : (a b : ℤ) → T (le_z a b) → T (le_z b a) → a ≡ b
    anti (pos a) (pos b) h k = ap pos (both a b (leb→le a b h) (leb→le b a k))
    anti (pos a) (negsuc b) h k = absurd h
    anti (negsuc a) (pos b) h k = absurd k
    anti (negsuc a) (negsuc b) h k = ap negsuc (both a b (leb→le a b k) (leb→le b a h))

-- ---- sums, negation, multiples
pub ≤ℤ-add : {a b c d : ℤ} → a ≤ℤ b → c ≤ℤ d → (a +ℤ c) ≤ℤ (b +ℤ d)
≤ℤ-add {a} {b} {c} {d} h k = go (≤ℤ-gap h) (≤ℤ-gap k)
  where
    go : Gap a b → Gap c d → (a +ℤ c) ≤ℤ (b +ℤ d)
    go p q = gap-≤ℤ (p.0 + q.0) (comb (a ∷ b ∷ c ∷ d ∷ pos p.0 ∷ pos q.0 ∷ []) (p.1 ⊕ q.1) (search read depth 40) tt)

pub ≤ℤ-neg : {a b : ℤ} → a ≤ℤ b → neg_ℤ b ≤ℤ neg_ℤ a
≤ℤ-neg {a} {b} h = go (≤ℤ-gap h)
  where
    go : Gap a b → neg_ℤ b ≤ℤ neg_ℤ a
    go p = gap-≤ℤ p.0 (comb (a ∷ b ∷ pos p.0 ∷ []) p.1 (search read depth 40) tt)

pub ≤ℤ_scale : {a b : ℤ} (k : ℕ) → a ≤ℤ b → (pos k *ℤ a) ≤ℤ (pos k *ℤ b)
≤ℤ_scale {a} {b} k h = go (≤ℤ-gap h)
  where
    go : Gap a b → (pos k *ℤ a) ≤ℤ (pos k *ℤ b)
    go p = gap-≤ℤ (k * p.0) (comb (a ∷ b ∷ pos k ∷ pos p.0 ∷ []) (pos k ⊗ p.1) (search read depth 40) tt)

-- ---- with the order of ℕ
pub pos-≤ℤ : {m n : ℕ} → m ≤ n → pos m ≤ℤ pos n
pos-≤ℤ {m} {n} h = le_z_yes (le→leb m n h)

pub ≤_of_pos : {m n : ℕ} → pos m ≤ℤ pos n → m ≤ n
≤_of_pos {m} {n} h = leb→le m n h.le

pub nonneg : (n : ℕ) → pos 0 ≤ℤ pos n
nonneg n = pos-≤ℤ (omega arith)

pub positive : {n : ℕ} → 0 < n → pos 0 <ℤ pos n
positive h = <ℤ_of_add_one_≤ℤ (pos-≤ℤ h)

-- ---- products of what is not negative
pub ≤ℤ-mul : {a b c d : ℤ} → a ≤ℤ b → c ≤ℤ d → pos 0 ≤ℤ ((b -ℤ a) *ℤ (d -ℤ c))
≤ℤ-mul {a} {b} {c} {d} h k = go (≤ℤ-gap h) (≤ℤ-gap k)
  where
    go : Gap a b → Gap c d → pos 0 ≤ℤ ((b -ℤ a) *ℤ (d -ℤ c))
    go p q = gap-≤ℤ (p.0 * q.0)
        (ap₂ ◌*ℤ◌ (ap (λ x. x -ℤ a) p.1) (ap (λ x. x -ℤ c) q.1) ∙ ring (a ∷ c ∷ pos p.0 ∷ pos q.0 ∷ []) (search read depth 40) tt)

pub ≤ℤ-mul-nonneg : {a b : ℤ} → pos 0 ≤ℤ a → pos 0 ≤ℤ b → pos 0 ≤ℤ (a *ℤ b)
≤ℤ-mul-nonneg {a} {b} h k = subst (λ x. pos 0 ≤ℤ x) (ring (a ∷ b ∷ []) (search read depth 40) tt) (≤ℤ-mul h k)

square-nonneg : (a : ℤ) → T (le_z (pos 0) (a *ℤ a))
square-nonneg (pos n) = le→leb 0 (n * n) (omega arith)
square-nonneg (negsuc n) = le→leb 0 (suc n * suc n) (omega arith)

pub ≤ℤ-square : (a : ℤ) → pos 0 ≤ℤ (a *ℤ a)
≤ℤ-square a = le_z_yes (square-nonneg a)

-- ---- tests
not-le : (a b : ℤ) → le_z a b ≡ false → T (lt_z b a)
not-le (pos a) (pos b) e = lt→ltb b a (nleb→lt a b (subst⁻¹ (λ x. T (not x)) e tt))
not-le (pos a) (negsuc b) e = tt
not-le (negsuc a) (pos b) e = subst T e tt
not-le (negsuc a) (negsuc b) e = lt→ltb a b (nleb→lt b a (subst⁻¹ (λ x. T (not x)) e tt))

pub le_z-true : {a b : ℤ} → le_z a b ≡ true → a ≤ℤ b
le_z-true e = le_z_yes (subst⁻¹ T e tt)

pub le_z-false : {a b : ℤ} → le_z a b ≡ false → b <ℤ a
le_z-false {a} {b} e = lt_z_yes (not-le a b e)

pub lt_z-true : {a b : ℤ} → lt_z a b ≡ true → a <ℤ b
lt_z-true e = lt_z_yes (subst⁻¹ T e tt)

pub lt_z-false : {a b : ℤ} → lt_z a b ≡ false → b ≤ℤ a
lt_z-false {a} {b} e = lt_z_no (subst⁻¹ (λ x. T (not x)) e tt)
