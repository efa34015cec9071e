-- An integral along a walk, run by run: a run of steps that add nothing leaves it as it is, and a run on which f and g are linear adds one piece.
--
-- Main results
--   piece, three                  what a linear run adds; three of them
--   LinearOn, LinearThrice        a function is linear on a run, on three
--   Idle                          steps that add nothing
--   Ordered, cuts_ordered         steps in order; so are the cuts of a run from p to q
--   upto, upto_zero, upto_all     the integral of f dg up to step z, a whole number that is not negative
--   idle_run, idle_zero           nothing is added from a to b, or at all
--   linear_run                    the piece law: (f(a) + f(b)) × (g(b) − g(a)) is added from a to b
--   three_pieces                  nothing up to p and from q on, and three linear runs between
use Rattle.std.specs.Prelude.{◌≡◌, refl, [], ◌∷◌, ℕ, zero, suc, ◌+◌, ℤ, pos, nat_abs, ◌+ℤ◌, ◌-ℤ◌, ◌*ℤ◌, ◌≤ℤ◌}
use Rattle.std.proofs.Common.{sym, ◌∙◌, ap, add-suc, add-zero, add-one, arith}
use Rattle.std.proofs.Math.Path.{subst⁻¹}
use Rattle.integers.proofs.Theorems.Ring.{read, ring, comb, ◌⊕◌}
use Rattle.integers.proofs.Theorems.Order.{≤ℤ-gap, pos-≤ℤ, nonneg, ≤ℤ_trans}
use Rattle.integers.proofs.Theorems.Linear.{le, linear, lin≤}
use Rattle.integers.specs.MinMax.{min, max}
use Rattle.integers.proofs.Theorems.MinMax.{min-≤ˡ, min-greatest, max-≥ˡ, max_least}
use Rattle.integers.specs.Clamp.{clamp}
use Rattle.integers.proofs.Theorems.Clamp.{clamp_low, clamp_high}
use Rattle.integers.proofs.Theorems.Trapezoid.{S-zero, S-suc, S-piece}
use Rattle.integers.specs.Trapezoid.{Affine}
use Rattle.edge.specs.Integrals.{along}

-- what a run from a to b adds where f and g are linear on it
abbrev pub piece : (ℤ → ℤ) → (ℤ → ℤ) → ℤ → ℤ → ℤ
piece f g a b = (f a +ℤ f b) *ℤ (g b -ℤ g a)

pub record LinearOn (f : ℤ → ℤ) (a b : ℤ) : Type 0 where
  pub offset : ℤ
  pub slope : ℤ
  pub line : (t : ℤ) → a ≤ℤ t → t ≤ℤ b → f t ≡ offset +ℤ slope *ℤ t

pub record Idle (f g : ℤ → ℤ) (a b : ℤ) : Type 0 where
  pub none : (t : ℤ) → a ≤ℤ t → (t +ℤ pos 1) ≤ℤ b → piece f g t (t +ℤ pos 1) ≡ pos 0

unfoldable pub upto : (ℤ → ℤ) → (ℤ → ℤ) → ℤ → ℤ
upto f g z = along f g (nat_abs z)

pub upto_zero : (f g : ℤ → ℤ) → upto f g (pos 0) ≡ pos 0
unfolding upto
upto_zero f g = S-zero (λ t. f (pos t)) (λ t. g (pos t))

pub upto_all : (f g : ℤ → ℤ) (n : ℕ) → upto f g (pos n) ≡ along f g n
unfolding upto
upto_all f g n = refl

-- ---- what holds of the natural numbers m and m + n holds of 0 ≤ a ≤ b
by_naturals : (P : ℤ → ℤ → Type 0) → ((m n : ℕ) → P (pos m) (pos (m + n))) → {a b : ℤ} → pos 0 ≤ℤ a → a ≤ℤ b → P a b
by_naturals P p {a} {b} h k =
    let m = (≤ℤ-gap h).0 in
    let n = (≤ℤ-gap k).0 in
    let e : a ≡ pos m = (≤ℤ-gap h).1 ∙ ring (pos m ∷ []) (search read depth 40) tt in
    let f : b ≡ pos (m + n) = (≤ℤ-gap k).1 ∙ ap (λ z. z +ℤ pos n) e in
    subst⁻¹ (λ z. P z b) e (subst⁻¹ (P (pos m)) f (p m n))

idle_ℕ : (f g : ℤ → ℤ) (m n : ℕ) → Idle f g (pos m) (pos (m + n)) → along f g (m + n) ≡ along f g m
idle_ℕ f g m zero i = ap (along f g) (add-zero m)
idle_ℕ f g m (suc n) i =
    ap (along f g) (add-suc m n)
    ∙ S-suc (λ t. f (pos t)) (λ t. g (pos t)) (m + n)
    ∙ comb (along f g (m + n) ∷ along f g m ∷ f (pos (m + n)) ∷ f (pos (suc (m + n))) ∷ g (pos (m + n)) ∷ g (pos (suc (m + n))) ∷ [])
    (idle_ℕ f g m n (record { none = λ t h k. i.none t h (lin≤ (t ∷ pos m ∷ pos n ∷ []) (le k) (search linear depth 40) tt) })
    ⊕ rw add-one at (i.none (pos (m + n)) (pos-≤ℤ (omega arith)) (pos-≤ℤ (omega arith))))
    (search read depth 40) tt

pub idle_run : (f g : ℤ → ℤ) {a b : ℤ} → pos 0 ≤ℤ a → a ≤ℤ b → Idle f g a b → upto f g b ≡ upto f g a
unfolding upto
idle_run f g = by_naturals (λ a b. Idle f g a b → along f g (nat_abs b) ≡ along f g (nat_abs a)) (idle_ℕ f g)

pub idle_zero : (f g : ℤ → ℤ) (n : ℕ) → Idle f g (pos 0) (pos n) → along f g n ≡ pos 0
idle_zero f g n i = sym (upto_all f g n) ∙ idle_run f g (nonneg 0) (nonneg n) i ∙ upto_zero f g

affine : {f : ℤ → ℤ} (m n : ℕ) (l : LinearOn f (pos m) (pos (m + n))) → Affine (λ t. f (pos (m + t))) (l.offset +ℤ l.slope *ℤ pos m) l.slope n
affine {f} m n l = record {
  at = λ t h. l.line (pos (m + t)) (pos-≤ℤ (omega arith)) (pos-≤ℤ (omega arith)) ∙ ring (l.offset ∷ l.slope ∷ pos m ∷ pos t ∷ []) (search read depth 40) tt;
}

pub linear_run : (f g : ℤ → ℤ) {a b : ℤ} → pos 0 ≤ℤ a → a ≤ℤ b → LinearOn f a b → LinearOn g a b → upto f g b ≡ upto f g a +ℤ piece f g a b
unfolding upto
linear_run f g =
    by_naturals (λ a b. LinearOn f a b → LinearOn g a b → along f g (nat_abs b) ≡ along f g (nat_abs a) +ℤ piece f g a b)
    (λ m n k l. S-piece (λ t. f (pos t)) (λ t. g (pos t)) m (affine m n k) (affine m n l))

-- ---- all of a walk
-- from p to q in three runs
abbrev pub three : (ℤ → ℤ) → (ℤ → ℤ) → ℤ → ℤ → ℤ → ℤ → ℤ
three f g p a b q = piece f g p a +ℤ piece f g a b +ℤ piece f g b q

pub record Ordered (p a b q n : ℤ) : Type 0 where
  pub p≥0 : pos 0 ≤ℤ p
  pub a≥p : p ≤ℤ a
  pub b≥a : a ≤ℤ b
  pub q≥b : b ≤ℤ q
  pub n≥q : q ≤ℤ n

pub cuts_ordered : (x y : ℤ) {p q n : ℤ} → pos 0 ≤ℤ p → p ≤ℤ q → q ≤ℤ n
    → Ordered p (min (clamp x p q) (clamp y p q)) (max (clamp x p q) (clamp y p q)) q n
cuts_ordered x y {p} {q} h k j = record {
  p≥0 = h;
  a≥p = min-greatest (clamp_low x p q) (clamp_low y p q);
  b≥a = ≤ℤ_trans (min-≤ˡ (clamp x p q) (clamp y p q)) (max-≥ˡ (clamp x p q) (clamp y p q));
  q≥b = max_least (clamp_high k x) (clamp_high k y);
  n≥q = j;
}

pub record LinearThrice (f : ℤ → ℤ) (p a b q : ℤ) : Type 0 where
  pub first : LinearOn f p a
  pub second : LinearOn f a b
  pub third : LinearOn f b q

pub three_pieces : (f g : ℤ → ℤ) {p a b q n : ℤ} → Ordered p a b q n → Idle f g (pos 0) p → LinearThrice f p a b q → LinearThrice g p a b q → Idle f g q n
    → upto f g n ≡ three f g p a b q
three_pieces f g {p} {a} {b} {q} {n} o i k l j =
    let a≥0 = ≤ℤ_trans o.p≥0 o.a≥p in
    let b≥0 = ≤ℤ_trans a≥0 o.b≥a in
    let q≥0 = ≤ℤ_trans b≥0 o.q≥b in
    comb (upto f g n ∷ upto f g q ∷ upto f g b ∷ upto f g a ∷ upto f g p ∷ upto f g (pos 0) ∷ f p ∷ f a ∷ f b ∷ f q ∷ g p ∷ g a ∷ g b ∷ g q ∷ [])
    (idle_run f g q≥0 o.n≥q j ⊕ linear_run f g b≥0 o.q≥b k.third l.third ⊕ linear_run f g a≥0 o.b≥a k.second l.second
    ⊕ linear_run f g o.p≥0 o.a≥p k.first l.first ⊕ idle_run f g (nonneg 0) o.p≥0 i ⊕ upto_zero f g)
    (search read depth 40) tt
