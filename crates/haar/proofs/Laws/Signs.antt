-- The signs of details at children. Row e holds the signs of detail e at all the children; row 0, which no detail has, is the plain one: all 1.
--
-- Main results
--   sign-step                    the first direction's sign, times that of the others
--   sign-plain                   the plain row is 1 at every child
--   sign_cases                   a sign is 1 or −1
--   signs_orthogonal             two different rows are orthogonal: their products add up to 0
--   sign-row-sum                 each row but the plain one adds up to 0
--   signs_self                   the squares of a row add up to the number of children
--   sign_comm                    rows and columns are alike
use Rattle.std.specs.Prelude.{◌≡◌, refl, [], ◌∷◌, ◌⊎◌, ◌≢◌, ℕ, zero, suc, ◌+◌, ◌*◌, ◌/◌, ◌%◌, ◌<◌, min, ℤ, pos, negsuc, neg_ℤ, ◌+ℤ◌, ◌*ℤ◌}
use Rattle.std.proofs.Common.{◌∙◌, ap, ap₂, inl, inr, arith, zero-add, pow-suc, one-add}
use Rattle.std.proofs.Math.Path.{fun_ext}
use Rattle.std.proofs.Math.Decide.{ℕ_discrete}
use Rattle.std.proofs.Math.IntN.{zero-*ℤ, *ℤ-zero}
use Rattle.std.specs.Int.Bits.{bit_and, and_step}
use Rattle.std.proofs.lemmas.Nat.{and_comm}
use Rattle.std.specs.Int.Count.{ones, ones_step}
use Rattle.integers.proofs.Theorems.Ring.{read, ring, comb, ◌⊗◌}
use Rattle.integers.specs.HalfSign.{half_sign}
use Rattle.integers.specs.RangeSum.{Σ<}
use Rattle.integers.proofs.Theorems.RangeSum.{Σ_cong, Σ_scale, Σ_const, Σ_power}
use Rattle.haar.specs.Cells.{children}
use Rattle.haar.specs.Signs.{alternate, sign}

-- ---- one direction at a time
min-eq-mul : (a b : ℕ) → a < 2 → b < 2 → min a b ≡ a * b
min-eq-mul zero b h k = omega arith
min-eq-mul (suc zero) b h k = omega arith
min-eq-mul (suc (suc a)) b h k = absurd (omega arith)

alternate-add : (b m : ℕ) → b < 2 → alternate (b + m) ≡ half_sign b *ℤ alternate m
unfolding alternate
alternate-add zero m h = ap alternate (zero-add m) ∙ ring (alternate m ∷ []) (search read depth 40) tt
alternate-add (suc zero) m h = ap alternate (one-add m) ∙ ring (alternate m ∷ []) (search read depth 40) tt
alternate-add (suc (suc b)) m h = absurd (omega arith)

pub sign-step : (e c : ℕ) → sign e c ≡ half_sign (e % 2 * (c % 2)) *ℤ sign (e / 2) (c / 2)
unfolding sign
sign-step e c =
    let first : bit_and e c % 2 ≡ e % 2 * (c % 2) = omega (arith, and_step e c, min-eq-mul (e % 2) (c % 2) (omega arith) (omega arith)) in
    let others : bit_and e c / 2 ≡ bit_and (e / 2) (c / 2) = omega (arith, and_step e c) in
    ap alternate (ones_step (bit_and e c) ∙ ap₂ (λ b x. b + ones x) first others)
    ∙ alternate-add (e % 2 * (c % 2)) (ones (bit_and (e / 2) (c / 2))) (omega arith)

-- child 2 i + b lies in half b of the first direction
sign_half : (e i b : ℕ) → b < 2 → sign e (i * 2 + b) ≡ half_sign (e % 2 * b) *ℤ sign (e / 2) i
sign_half e i b h =
    let first : (i * 2 + b) % 2 ≡ b = omega arith in
    let others : (i * 2 + b) / 2 ≡ i = omega arith in
    sign-step e (i * 2 + b) ∙ ap₂ (λ a c. half_sign (e % 2 * a) *ℤ sign (e / 2) c) first others

-- ---- values
pub sign-plain : (c : ℕ) → sign 0 c ≡ pos 1
unfolding sign alternate ones
sign-plain c = refl

alternate_cases : (n : ℕ) → (alternate n ≡ pos 1) ⊎ (alternate n ≡ negsuc 0)
unfolding alternate
alternate_cases zero = inl refl
alternate_cases (suc n) = turn (alternate_cases n)
  where
    turn : {z : ℤ} → (z ≡ pos 1) ⊎ (z ≡ negsuc 0) → (neg_ℤ z ≡ pos 1) ⊎ (neg_ℤ z ≡ negsuc 0)
    turn (inl p) = inr (ap neg_ℤ p)
    turn (inr p) = inl (ap neg_ℤ p)

pub sign_cases : (e c : ℕ) → (sign e c ≡ pos 1) ⊎ (sign e c ≡ negsuc 0)
unfolding sign
sign_cases e c = alternate_cases (ones (bit_and e c))

pub sign_comm : (e c : ℕ) → sign e c ≡ sign c e
unfolding sign
sign_comm e c = ap (λ k. alternate (ones k)) (and_comm e c)

-- ---- rows
-- Two rows' product in the first half of a direction and that in the second, added: a and b are 1 where the row turns in the second half, else 0.
abbrev halves : ℕ → ℕ → ℤ
halves a b = pos 1 +ℤ half_sign a *ℤ half_sign b

halves-opposite : (a b : ℕ) → a + b ≡ 1 → halves a b ≡ pos 0
halves-opposite zero b h = let q : b ≡ 1 = omega arith in ap (halves 0) q
halves-opposite (suc a) b h =
    let p : suc a ≡ 1 = omega arith in
    let q : b ≡ 0 = omega arith in
    ap₂ halves p q

-- the products of two rows, added up
abbrev product : ℕ → ℕ → ℕ → ℤ
product n e f = Σ< (children n) (λ c. sign e c *ℤ sign f c)

product-step : (n e f : ℕ) → product (suc n) e f ≡ halves (e % 2) (f % 2) *ℤ product n (e / 2) (f / 2)
unfolding Σ<
product-step n e f =
    Σ_power 2 n (λ c. sign e c *ℤ sign f c) ∙ ap (Σ< (children n)) (fun_ext pair)
    ∙ Σ_scale (children n) (halves (e % 2) (f % 2)) (λ i. sign (e / 2) i *ℤ sign (f / 2) i)
  where
    pair : (i : ℕ) → Σ< 2 (λ b. sign e (i * 2 + b) *ℤ sign f (i * 2 + b)) ≡ halves (e % 2) (f % 2) *ℤ (sign (e / 2) i *ℤ sign (f / 2) i)
    pair i =
        Σ_cong 2 _ (λ b. half_sign (e % 2 * b) *ℤ sign (e / 2) i *ℤ (half_sign (f % 2 * b) *ℤ sign (f / 2) i))
        (λ b h. ap₂ ◌*ℤ◌ (sign_half e i b h) (sign_half f i b h))
        ∙ ring (pos (e % 2) ∷ pos (f % 2) ∷ sign (e / 2) i ∷ sign (f / 2) i ∷ []) (search read depth 40) tt

-- They differ in some direction: in the first, where the two halves cancel, or in one of the others.
pub signs_orthogonal : (n e f : ℕ) → e < children n → f < children n → e ≢ f → Σ< (children n) (λ c. sign e c *ℤ sign f c) ≡ pos 0
signs_orthogonal zero e f h k d = absurd (omega arith)
signs_orthogonal (suc n) e f h k d =
    product-step n e f
    ∙ go (signs_orthogonal n (e / 2) (f / 2) (omega (arith, pow-suc 2 n)) (omega (arith, pow-suc 2 n))) (ℕ_discrete (e % 2) (f % 2))
  where
    go : (e / 2 ≢ f / 2 → product n (e / 2) (f / 2) ≡ pos 0) → Dec (e % 2 ≡ f % 2) → halves (e % 2) (f % 2) *ℤ product n (e / 2) (f / 2) ≡ pos 0
    go others (yes p) = ap (λ z. halves (e % 2) (f % 2) *ℤ z) (others (λ q. d (omega arith))) ∙ *ℤ-zero (halves (e % 2) (f % 2))
    go others (no p) = ap (λ z. z *ℤ product n (e / 2) (f / 2)) (halves-opposite (e % 2) (f % 2) (omega arith)) ∙ zero-*ℤ (product n (e / 2) (f / 2))

pub sign-row-sum : (n e : ℕ) → e < children n → e ≢ 0 → Σ< (children n) (sign e) ≡ pos 0
sign-row-sum n e h d = ap (Σ< (children n)) (fun_ext by_plain) ∙ signs_orthogonal n e 0 h (omega arith) d
  where
    by_plain : (c : ℕ) → sign e c ≡ sign e c *ℤ sign 0 c
    by_plain c = comb (sign e c ∷ sign 0 c ∷ []) ((negsuc 0 *ℤ sign e c) ⊗ sign-plain c) (search read depth 40) tt

pub signs_self : (n e : ℕ) → Σ< (children n) (λ c. sign e c *ℤ sign e c) ≡ pos (children n)
signs_self n e =
    ap (Σ< (children n)) (fun_ext (λ c. square (sign_cases e c))) ∙ Σ_const (children n) (pos 1)
    ∙ ring (pos (children n) ∷ []) (search read depth 40) tt
  where
    square : {z : ℤ} → (z ≡ pos 1) ⊎ (z ≡ negsuc 0) → z *ℤ z ≡ pos 1
    square (inl p) = ap₂ ◌*ℤ◌ p p
    square (inr p) = ap₂ ◌*ℤ◌ p p
