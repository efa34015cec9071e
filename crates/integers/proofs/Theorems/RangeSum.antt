-- Laws of what specs/RangeSum.antt defines. The head of that file lists the main results.
use Rattle.std.specs.Prelude.{◌≡◌, refl, [], ◌∷◌, ◌≢◌, ℕ, zero, suc, ◌+◌, ◌*◌, ◌^◌, ◌<◌, ℤ, pos, neg_ℤ, ◌+ℤ◌, ◌-ℤ◌, ◌*ℤ◌}
use Rattle.std.proofs.Common.{sym, ◌∙◌, ap, ap₂, add-suc, add-zero, zero-mul, suc-mul, pow-suc, arith}
use Rattle.std.proofs.Math.Decide.{ℕ_discrete}
use Rattle.std.proofs.Math.IntN.{*ℤ-zero, +ℤ_idl, +ℤ_idr}
use Rattle.std.specs.Int.Signed.{≤ℤ_refl}
use Rattle.integers.proofs.Theorems.Ring.{read, ring, comb}
use Rattle.integers.specs.Within.{Within}
use Rattle.integers.proofs.Theorems.Within.{within_is, within_add, within_self}
use Rattle.integers.specs.RangeSum.{Σ<}

pub Σ-zero : (f : ℕ → ℤ) → Σ< 0 f ≡ pos 0
unfolding Σ<
Σ-zero f = refl

pub Σ-suc : (n : ℕ) (f : ℕ → ℤ) → Σ< (suc n) f ≡ Σ< n f +ℤ f n
unfolding Σ<
Σ-suc n f = refl

pub Σ_cong : (n : ℕ) (f g : ℕ → ℤ) → ((t : ℕ) → t < n → f t ≡ g t) → Σ< n f ≡ Σ< n g
unfolding Σ<
Σ_cong zero f g h = refl
Σ_cong (suc n) f g h = ap₂ ◌+ℤ◌ (Σ_cong n f g (λ t k. h t (omega arith))) (h n (omega arith))

pub Σ-add : (n : ℕ) (f g : ℕ → ℤ) → Σ< n (λ t. f t +ℤ g t) ≡ Σ< n f +ℤ Σ< n g
unfolding Σ<
Σ-add zero f g = refl
Σ-add (suc n) f g = comb (Σ< n (λ t. f t +ℤ g t) ∷ Σ< n f ∷ Σ< n g ∷ f n ∷ g n ∷ []) (Σ-add n f g) (search read depth 40) tt

pub Σ_scale : (n : ℕ) (k : ℤ) (f : ℕ → ℤ) → Σ< n (λ t. k *ℤ f t) ≡ k *ℤ Σ< n f
unfolding Σ<
Σ_scale zero k f = ring (k ∷ []) (search read depth 40) tt
Σ_scale (suc n) k f = comb (Σ< n (λ t. k *ℤ f t) ∷ Σ< n f ∷ f n ∷ k ∷ []) (Σ_scale n k f) (search read depth 40) tt

pub Σ-neg : (n : ℕ) (f : ℕ → ℤ) → Σ< n (λ t. neg_ℤ (f t)) ≡ neg_ℤ (Σ< n f)
unfolding Σ<
Σ-neg zero f = refl
Σ-neg (suc n) f = comb (Σ< n (λ t. neg_ℤ (f t)) ∷ Σ< n f ∷ f n ∷ []) (Σ-neg n f) (search read depth 40) tt

pub Σ_const : (n : ℕ) (z : ℤ) → Σ< n (λ t. z) ≡ pos n *ℤ z
unfolding Σ<
Σ_const zero z = ring (z ∷ []) (search read depth 40) tt
Σ_const (suc n) z = comb (Σ< n (λ t. z) ∷ pos n ∷ z ∷ []) (Σ_const n z) (search read depth 40) tt

pub Σ_telescope : (n : ℕ) (f : ℕ → ℤ) → Σ< n (λ t. f (suc t) -ℤ f t) ≡ f n -ℤ f 0
unfolding Σ<
Σ_telescope zero f = ring (f 0 ∷ []) (search read depth 40) tt
Σ_telescope (suc n) f = comb (Σ< n (λ t. f (suc t) -ℤ f t) ∷ f (suc n) ∷ f n ∷ f 0 ∷ []) (Σ_telescope n f) (search read depth 40) tt

pub Σ-split : (p n : ℕ) (f : ℕ → ℤ) → Σ< (p + n) f ≡ Σ< p f +ℤ Σ< n (λ t. f (p + t))
unfolding Σ<
Σ-split p zero f = ap (λ k. Σ< k f) (add-zero p) ∙ ring (Σ< p f ∷ []) (search read depth 40) tt
Σ-split p (suc n) f =
    ap (λ k. Σ< k f) (add-suc p n)
    ∙ comb (Σ< (p + n) f ∷ Σ< p f ∷ Σ< n (λ t. f (p + t)) ∷ f (p + n) ∷ []) (Σ-split p n f) (search read depth 40) tt

pub Σ_first : (n : ℕ) (f : ℕ → ℤ) → Σ< (suc n) f ≡ f 0 +ℤ Σ< n (λ t. f (suc t))
unfolding Σ<
Σ_first zero f = ring (f 0 ∷ []) (search read depth 40) tt
Σ_first (suc n) f = comb (Σ< (suc n) f ∷ f 0 ∷ Σ< n (λ t. f (suc t)) ∷ f (suc n) ∷ []) (Σ_first n f) (search read depth 40) tt

pub Σ-rows : (m n : ℕ) (f : ℕ → ℤ) → Σ< (m * n) f ≡ Σ< m (λ y. Σ< n (λ x. f (y * n + x)))
unfolding Σ<
Σ-rows zero n f = ap (λ k. Σ< k f) (zero-mul n)
Σ-rows (suc m) n f = ap (λ k. Σ< k f) (suc-mul m n) ∙ Σ-split (m * n) n f ∙ ap (λ z. z +ℤ Σ< n (λ x. f (m * n + x))) (Σ-rows m n f)

pub Σ_power : (m n : ℕ) (f : ℕ → ℤ) → Σ< (m ^ suc n) f ≡ Σ< (m ^ n) (λ y. Σ< m (λ x. f (y * m + x)))
Σ_power m n f = ap (λ k. Σ< k f) (pow-suc m n) ∙ Σ-rows (m ^ n) m f

pub Σ-swap : (m n : ℕ) (f : ℕ → ℕ → ℤ) → Σ< m (λ s. Σ< n (f s)) ≡ Σ< n (λ t. Σ< m (λ s. f s t))
unfolding Σ<
Σ-swap zero n f = sym (Σ_const n (pos 0) ∙ *ℤ-zero (pos n))
Σ-swap (suc m) n f = ap (λ z. z +ℤ Σ< n (f m)) (Σ-swap m n f) ∙ sym (Σ-add n (λ t. Σ< m (λ s. f s t)) (f m))

pub Σ_one : (n : ℕ) (f : ℕ → ℤ) (k : ℕ) → k < n → ((i : ℕ) → i < n → i ≢ k → f i ≡ pos 0) → Σ< n f ≡ f k
unfolding Σ<
Σ_one zero f k h z = absurd (omega arith)
Σ_one (suc n) f k h z = go (λ l. Σ_one n f k l (λ i g. z i (omega arith))) (ℕ_discrete n k)
  where
    none : n ≡ k → Σ< n f ≡ pos 0
    none e = Σ_cong n f (λ i. pos 0) (λ i l. z i (omega arith) (omega arith)) ∙ Σ_const n (pos 0) ∙ *ℤ-zero (pos n)

    go : (k < n → Σ< n f ≡ f k) → Dec (n ≡ k) → Σ< n f +ℤ f n ≡ f k
    go others (yes e) = ap₂ ◌+ℤ◌ (none e) (ap f e) ∙ +ℤ_idl (f k)
    go others (no e) = ap₂ ◌+ℤ◌ (others (omega arith)) (z n (omega arith) e) ∙ +ℤ_idr (f k)

pub Σ_within : {b : ℤ} (n : ℕ) (f : ℕ → ℤ) → ((k : ℕ) → k < n → Within b (f k)) → Within (pos n *ℤ b) (Σ< n f)
unfolding Σ<
Σ_within {b} zero f h = within_is (ring (b ∷ []) (search read depth 40) tt) refl (within_self (≤ℤ_refl (pos 0)))
Σ_within {b} (suc n) f h = within_is (ring (b ∷ pos n ∷ []) (search read depth 40) tt) refl (within_add (Σ_within n f (λ k i. h k (omega arith))) (h n (omega arith)))
