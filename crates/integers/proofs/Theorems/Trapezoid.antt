-- Laws of what specs/Trapezoid.antt defines. The head of that file lists the main results.
use Rattle.std.specs.Prelude.{◌≡◌, refl, [], ◌∷◌, ℕ, zero, suc, ◌+◌, ◌<◌, ◌≤◌, ℤ, pos, negsuc, ◌+ℤ◌, ◌-ℤ◌, ◌*ℤ◌}
use Rattle.std.proofs.Common.{sym, ◌∙◌, ap, ap₂, add-suc, add-zero, arith}
use Rattle.integers.proofs.Theorems.Ring.{read, ring, comb, ◌⊕◌, ◌⊗◌}
use Rattle.integers.specs.RangeSum.{Σ<}
use Rattle.integers.proofs.Theorems.RangeSum.{Σ-suc, Σ_cong, Σ-split}
use Rattle.integers.specs.Trapezoid.{Affine, S, trapezoid}

pub S-zero : (f g : ℕ → ℤ) → S f g 0 ≡ pos 0
unfolding S Σ<
S-zero f g = refl

pub S-suc : (f g : ℕ → ℤ) (n : ℕ) → S f g (suc n) ≡ S f g n +ℤ trapezoid f g n
unfolding S
S-suc f g n = Σ-suc n (trapezoid f g)

pub S_cong : (f f' g g' : ℕ → ℤ) (n : ℕ) → ((t : ℕ) → t ≤ n → f t ≡ f' t) → ((t : ℕ) → t ≤ n → g t ≡ g' t) → S f g n ≡ S f' g' n
unfolding S
S_cong f f' g g' n p q =
    Σ_cong n (trapezoid f g) (trapezoid f' g')
    (λ t h. ap₂ ◌*ℤ◌ (ap₂ ◌+ℤ◌ (p t (omega arith)) (p (suc t) (omega arith))) (ap₂ ◌-ℤ◌ (q (suc t) (omega arith)) (q t (omega arith))))

-- ---- the product rule
pub S-product : (f g : ℕ → ℤ) (n : ℕ) → S f g n +ℤ S g f n ≡ pos 2 *ℤ (f n *ℤ g n -ℤ f 0 *ℤ g 0)
unfolding S Σ<
S-product f g zero = ring (f 0 ∷ g 0 ∷ []) (search read depth 40) tt
S-product f g (suc n) =
    comb (Σ< n (trapezoid f g) ∷ Σ< n (trapezoid g f) ∷ f n ∷ f (suc n) ∷ g n ∷ g (suc n) ∷ f 0 ∷ g 0 ∷ []) (S-product f g n) (search read depth 40) tt

-- ---- bilinearity
pub S_addˡ : (f f' g : ℕ → ℤ) (n : ℕ) → S (λ t. f t +ℤ f' t) g n ≡ S f g n +ℤ S f' g n
unfolding S Σ<
S_addˡ f f' g zero = refl
S_addˡ f f' g (suc n) =
    comb (Σ< n (trapezoid (λ t. f t +ℤ f' t) g) ∷ Σ< n (trapezoid f g) ∷ Σ< n (trapezoid f' g) ∷ f n ∷ f (suc n) ∷ f' n ∷ f' (suc n) ∷ g n ∷ g (suc n) ∷ [])
    (S_addˡ f f' g n) (search read depth 40) tt

pub S_scaleˡ : (k : ℤ) (f g : ℕ → ℤ) (n : ℕ) → S (λ t. k *ℤ f t) g n ≡ k *ℤ S f g n
unfolding S Σ<
S_scaleˡ k f g zero = ring (k ∷ []) (search read depth 40) tt
S_scaleˡ k f g (suc n) =
    comb (Σ< n (trapezoid (λ t. k *ℤ f t) g) ∷ Σ< n (trapezoid f g) ∷ f n ∷ f (suc n) ∷ g n ∷ g (suc n) ∷ k ∷ []) (S_scaleˡ k f g n) (search read depth 40) tt

-- in g by the product rule, which exchanges f and g
pub S_addʳ : (f g g' : ℕ → ℤ) (n : ℕ) → S f (λ t. g t +ℤ g' t) n ≡ S f g n +ℤ S f g' n
S_addʳ f g g' n =
    let h : ℕ → ℤ = λ t. g t +ℤ g' t in
    comb (S f h n ∷ S h f n ∷ S f g n ∷ S g f n ∷ S f g' n ∷ S g' f n ∷ f n ∷ f 0 ∷ g n ∷ g 0 ∷ g' n ∷ g' 0 ∷ [])
    (S-product f h n ⊕ negsuc 0 ⊗ S-product f g n ⊕ negsuc 0 ⊗ S-product f g' n ⊕ negsuc 0 ⊗ S_addˡ g g' f n) (search read depth 40) tt

pub S_scaleʳ : (k : ℤ) (f g : ℕ → ℤ) (n : ℕ) → S f (λ t. k *ℤ g t) n ≡ k *ℤ S f g n
S_scaleʳ k f g n =
    let h : ℕ → ℤ = λ t. k *ℤ g t in
    comb (S f h n ∷ S h f n ∷ S f g n ∷ S g f n ∷ f n ∷ f 0 ∷ g n ∷ g 0 ∷ k ∷ [])
    (S-product f h n ⊕ (negsuc 0 *ℤ k) ⊗ S-product f g n ⊕ negsuc 0 ⊗ S_scaleˡ k g f n) (search read depth 40) tt

pub S_zeroˡ : (g : ℕ → ℤ) (n : ℕ) → S (λ t. pos 0) g n ≡ pos 0
unfolding S Σ<
S_zeroˡ g zero = refl
S_zeroˡ g (suc n) = comb (Σ< n (trapezoid (λ t. pos 0) g) ∷ g n ∷ g (suc n) ∷ []) (S_zeroˡ g n) (search read depth 40) tt

pub S_constʳ : (f : ℕ → ℤ) (c : ℤ) (n : ℕ) → S f (λ t. c) n ≡ pos 0
unfolding S Σ<
S_constʳ f c zero = refl
S_constʳ f c (suc n) = comb (Σ< n (trapezoid f (λ t. c)) ∷ f n ∷ f (suc n) ∷ c ∷ []) (S_constʳ f c n) (search read depth 40) tt

pub S_sumˡ : (m : ℕ) (f : ℕ → ℕ → ℤ) (g : ℕ → ℤ) (n : ℕ) → S (λ t. Σ< m (λ i. f i t)) g n ≡ Σ< m (λ i. S (f i) g n)
unfolding Σ<
S_sumˡ zero f g n = S_zeroˡ g n
S_sumˡ (suc m) f g n = S_addˡ (λ t. Σ< m (λ i. f i t)) (f m) g n ∙ ap (λ z. z +ℤ S (f m) g n) (S_sumˡ m f g n)

pub S_sumʳ : (m : ℕ) (f : ℕ → ℤ) (g : ℕ → ℕ → ℤ) (n : ℕ) → S f (λ t. Σ< m (λ i. g i t)) n ≡ Σ< m (λ i. S f (g i) n)
unfolding Σ<
S_sumʳ zero f g n = S_constʳ f (pos 0) n
S_sumʳ (suc m) f g n = S_addʳ f (λ t. Σ< m (λ i. g i t)) (g m) n ∙ ap (λ z. z +ℤ S f (g m) n) (S_sumʳ m f g n)

-- ---- ranges
pub S-split : (f g : ℕ → ℤ) (p n : ℕ) → S f g (p + n) ≡ S f g p +ℤ S (λ t. f (p + t)) (λ t. g (p + t)) n
unfolding S
S-split f g p n =
    Σ-split p n (trapezoid f g)
    ∙ ap (λ x. Σ< p (trapezoid f g) +ℤ x)
    (Σ_cong n (λ t. trapezoid f g (p + t)) (trapezoid (λ t. f (p + t)) (λ t. g (p + t))) (λ t h. rw add-suc))

pub affine_of_step : (f : ℕ → ℤ) (a : ℤ) (n : ℕ) → ((t : ℕ) → t < n → f (suc t) ≡ f t +ℤ a) → Affine f (f 0) a n
affine_of_step f a n h = record { at = go }
  where
    go : (t : ℕ) → t ≤ n → f t ≡ f 0 +ℤ pos t *ℤ a
    go zero k = ring (f 0 ∷ a ∷ []) (search read depth 40) tt
    go (suc t) k = comb (f (suc t) ∷ f t ∷ f 0 ∷ a ∷ pos t ∷ []) (h t (omega arith) ⊕ go t (omega arith)) (search read depth 40) tt

affine_shorter : {f : ℕ → ℤ} {x a : ℤ} {n : ℕ} → Affine f x a (suc n) → Affine f x a n
affine_shorter p = record { at = λ t h. p.at t (omega arith) }

S_of_affine : {f g : ℕ → ℤ} {x a y b : ℤ} (n : ℕ) → Affine f x a n → Affine g y b n → S f g n ≡ (pos 2 *ℤ x +ℤ pos n *ℤ a) *ℤ (pos n *ℤ b)
unfolding S Σ<
S_of_affine {x = x} {a} {y} {b} zero p q = ring (a ∷ b ∷ x ∷ []) (search read depth 40) tt
S_of_affine {x = x} {a} {y} {b} (suc n) p q =
    ap₂ ◌+ℤ◌ (S_of_affine n (affine_shorter p) (affine_shorter q))
    (ap₂ ◌*ℤ◌ (ap₂ ◌+ℤ◌ (p.at n (omega arith)) (p.at (suc n) (omega arith))) (ap₂ ◌-ℤ◌ (q.at (suc n) (omega arith)) (q.at n (omega arith))))
    ∙ ring (a ∷ b ∷ x ∷ y ∷ pos n ∷ []) (search read depth 40) tt

-- on a range where f and g are affine, the sum is one step from end to end
pub S-affine : {f g : ℕ → ℤ} {x a y b : ℤ} {n : ℕ} → Affine f x a n → Affine g y b n → S f g n ≡ (f 0 +ℤ f n) *ℤ (g n -ℤ g 0)
S-affine {f} {g} {x} {a} {y} {b} {n} p q =
    S_of_affine n p q
    ∙ ring (a ∷ b ∷ x ∷ y ∷ pos n ∷ []) (search read depth 40) tt
    ∙ sym (ap₂ ◌*ℤ◌ (ap₂ ◌+ℤ◌ (p.at 0 (omega arith)) (p.at n (omega arith))) (ap₂ ◌-ℤ◌ (q.at n (omega arith)) (q.at 0 (omega arith))))

-- the sum up to p + n, past such a range
pub S-piece : (f g : ℕ → ℤ) {x a y b : ℤ} (p : ℕ) {n : ℕ} → Affine (λ t. f (p + t)) x a n → Affine (λ t. g (p + t)) y b n
    → S f g (p + n) ≡ S f g p +ℤ (f p +ℤ f (p + n)) *ℤ (g (p + n) -ℤ g p)
S-piece f g p {n} k l =
    S-split f g p n
    ∙ ap (λ x. S f g p +ℤ x) (S-affine k l ∙ ap₂ (λ u v. (u +ℤ f (p + n)) *ℤ (g (p + n) -ℤ v)) (ap f (add-zero p)) (ap g (add-zero p)))
