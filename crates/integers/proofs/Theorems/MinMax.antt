-- Laws of what specs/MinMax.antt defines. The head of that file lists the main results.
use Rattle.std.specs.Prelude.{◌≡◌, refl, [], ◌∷◌, Bool, true, false, cond, ℤ, pos, negsuc, neg_ℤ, ◌-ℤ◌, ◌*ℤ◌, ◌≤ℤ◌}
use Rattle.std.proofs.Common.{sym, ◌∙◌, ap}
use Rattle.std.proofs.Math.Path.{subst⁻¹}
use Rattle.std.proofs.Math.IntN.{neg_ℤ-neg_ℤ}
use Rattle.std.specs.Int.Signed.{le_z}
use Rattle.integers.proofs.Theorems.Ring.{read, ring, comb, ◌⊕◌, ◌⊗◌}
use Rattle.integers.proofs.Theorems.Order.{≤ℤ-neg, ≤ℤ_antisym, ≤ℤ_of_<ℤ, ≤ℤ_of_≡, ≤ℤ-mul, le_z-true, le_z-false}
use Rattle.integers.proofs.Theorems.Linear.{le, eq, ◌&◌, linear, lin≤}
use Rattle.integers.specs.Within.{Within}
use Rattle.integers.proofs.Theorems.Within.{bounds, within_is, within_neg}
use Rattle.integers.specs.MinMax.{Chosen, first, max, min, second}

chosen : (c d a b : ℤ) → Chosen (c ≤ℤ d) (d ≤ℤ c) a b (cond (le_z c d) a b)
chosen c d a b = go (le_z c d) (λ e. le_z-true e) (λ e. ≤ℤ_of_<ℤ (le_z-false e))
  where
    go : (t : Bool) → (t ≡ true → c ≤ℤ d) → (t ≡ false → d ≤ℤ c) → Chosen (c ≤ℤ d) (d ≤ℤ c) a b (cond t a b)
    go true f g = first (f refl) refl
    go false f g = second (g refl) refl

pub min_view : (a b : ℤ) → Chosen (a ≤ℤ b) (b ≤ℤ a) a b (min a b)
unfolding min
min_view a b = chosen a b a b

pub max_view : (a b : ℤ) → Chosen (b ≤ℤ a) (a ≤ℤ b) a b (max a b)
unfolding max
max_view a b = chosen b a a b

-- ---- the minimum
pub min-≤ˡ : (a b : ℤ) → min a b ≤ℤ a
min-≤ˡ a b = go (min_view a b)
  where
    go : Chosen (a ≤ℤ b) (b ≤ℤ a) a b (min a b) → min a b ≤ℤ a
    go (first h e) = ≤ℤ_of_≡ e
    go (second h e) = subst⁻¹ (λ x. x ≤ℤ a) e h

pub min-≤ʳ : (a b : ℤ) → min a b ≤ℤ b
min-≤ʳ a b = go (min_view a b)
  where
    go : Chosen (a ≤ℤ b) (b ≤ℤ a) a b (min a b) → min a b ≤ℤ b
    go (first h e) = subst⁻¹ (λ x. x ≤ℤ b) e h
    go (second h e) = ≤ℤ_of_≡ e

pub min-greatest : {a b c : ℤ} → c ≤ℤ a → c ≤ℤ b → c ≤ℤ min a b
min-greatest {a} {b} {c} h k = go (min_view a b)
  where
    go : Chosen (a ≤ℤ b) (b ≤ℤ a) a b (min a b) → c ≤ℤ min a b
    go (first i e) = subst⁻¹ (λ x. c ≤ℤ x) e h
    go (second i e) = subst⁻¹ (λ x. c ≤ℤ x) e k

pub min_eqˡ : {a b : ℤ} → a ≤ℤ b → min a b ≡ a
min_eqˡ {a} {b} h = ≤ℤ_antisym (min-≤ˡ a b) (min-greatest (≤ℤ_of_≡ refl) h)

pub min_eqʳ : {a b : ℤ} → b ≤ℤ a → min a b ≡ b
min_eqʳ {a} {b} h = ≤ℤ_antisym (min-≤ʳ a b) (min-greatest h (≤ℤ_of_≡ refl))

-- ---- the maximum is a minimum, turned about zero, and so are its laws
max_is_min : (a b : ℤ) → max a b ≡ neg_ℤ (min (neg_ℤ a) (neg_ℤ b))
max_is_min a b = go (max_view a b)
  where
    go : Chosen (b ≤ℤ a) (a ≤ℤ b) a b (max a b) → max a b ≡ neg_ℤ (min (neg_ℤ a) (neg_ℤ b))
    go (first h e) = e ∙ sym (ap neg_ℤ (min_eqˡ (≤ℤ-neg h)) ∙ neg_ℤ-neg_ℤ a)
    go (second h e) = e ∙ sym (ap neg_ℤ (min_eqʳ (≤ℤ-neg h)) ∙ neg_ℤ-neg_ℤ b)

pub max-≥ˡ : (a b : ℤ) → a ≤ℤ max a b
max-≥ˡ a b = let m = min (neg_ℤ a) (neg_ℤ b) in lin≤ (a ∷ max a b ∷ m ∷ []) (eq (max_is_min a b) & le (min-≤ˡ (neg_ℤ a) (neg_ℤ b))) (search linear depth 40) tt

pub max-≥ʳ : (a b : ℤ) → b ≤ℤ max a b
max-≥ʳ a b = let m = min (neg_ℤ a) (neg_ℤ b) in lin≤ (b ∷ max a b ∷ m ∷ []) (eq (max_is_min a b) & le (min-≤ʳ (neg_ℤ a) (neg_ℤ b))) (search linear depth 40) tt

pub max_least : {a b c : ℤ} → a ≤ℤ c → b ≤ℤ c → max a b ≤ℤ c
max_least {a} {b} {c} h k =
    let m = min (neg_ℤ a) (neg_ℤ b) in
    lin≤ (c ∷ max a b ∷ m ∷ []) (eq (max_is_min a b) & le (min-greatest (≤ℤ-neg h) (≤ℤ-neg k))) (search linear depth 40) tt

pub max_eqˡ : {a b : ℤ} → b ≤ℤ a → max a b ≡ a
max_eqˡ {a} {b} h = ≤ℤ_antisym (max_least (≤ℤ_of_≡ refl) h) (max-≥ˡ a b)

pub max_eqʳ : {a b : ℤ} → a ≤ℤ b → max a b ≡ b
max_eqʳ {a} {b} h = ≤ℤ_antisym (max_least h (≤ℤ_of_≡ refl)) (max-≥ʳ a b)

-- ---- a factor
pub min_scale : {k : ℤ} → pos 0 ≤ℤ k → (a b : ℤ) → min (k *ℤ a) (k *ℤ b) ≡ k *ℤ min a b
min_scale {k} g a b = go (min_view a b)
  where
    up : {x y : ℤ} → x ≤ℤ y → (k *ℤ x) ≤ℤ (k *ℤ y)
    up {x} {y} h = lin≤ (k ∷ x ∷ y ∷ []) (le (≤ℤ-mul g h)) (search linear depth 40) tt

    go : Chosen (a ≤ℤ b) (b ≤ℤ a) a b (min a b) → min (k *ℤ a) (k *ℤ b) ≡ k *ℤ min a b
    go (first h e) = min_eqˡ (up h) ∙ sym (ap (λ x. k *ℤ x) e)
    go (second h e) = min_eqʳ (up h) ∙ sym (ap (λ x. k *ℤ x) e)

-- ---- two numbers that move by at most b
pub min_moves : {b : ℤ} (x y x' y' : ℤ) → Within b (x' -ℤ x) → Within b (y' -ℤ y) → Within b (min x' y' -ℤ min x y)
min_moves {b} x y x' y' p q =
    let m = min x y in
    let m' = min x' y' in
    let down : (m -ℤ b) ≤ℤ m' =
    min-greatest (lin≤ (x ∷ x' ∷ b ∷ m ∷ []) (bounds p & le (min-≤ˡ x y)) (search linear depth 40) tt)
    (lin≤ (y ∷ y' ∷ b ∷ m ∷ []) (bounds q & le (min-≤ʳ x y)) (search linear depth 40) tt) in
    let up : (m' -ℤ b) ≤ℤ m =
    min-greatest (lin≤ (x ∷ x' ∷ b ∷ m' ∷ []) (bounds p & le (min-≤ˡ x' y')) (search linear depth 40) tt)
    (lin≤ (y ∷ y' ∷ b ∷ m' ∷ []) (bounds q & le (min-≤ʳ x' y')) (search linear depth 40) tt) in
    record {
      low = lin≤ (m ∷ m' ∷ b ∷ []) (le down) (search linear depth 40) tt;
      high = lin≤ (m ∷ m' ∷ b ∷ []) (le up) (search linear depth 40) tt;
    }

pub max_moves : {b : ℤ} (x y x' y' : ℤ) → Within b (x' -ℤ x) → Within b (y' -ℤ y) → Within b (max x' y' -ℤ max x y)
max_moves x y x' y' p q =
    let m = min (neg_ℤ x) (neg_ℤ y) in
    let m' = min (neg_ℤ x') (neg_ℤ y') in
    within_is refl (comb (max x y ∷ max x' y' ∷ m ∷ m' ∷ []) (max_is_min x y ⊕ negsuc 0 ⊗ max_is_min x' y') (search read depth 40) tt)
    (within_neg (min_moves (neg_ℤ x) (neg_ℤ y) (neg_ℤ x') (neg_ℤ y') (turned x x' p) (turned y y' q)))
  where
    turned : (v v' : ℤ) {b : ℤ} → Within b (v' -ℤ v) → Within b (neg_ℤ v' -ℤ neg_ℤ v)
    turned v v' w = within_is refl (ring (v ∷ v' ∷ []) (search read depth 40) tt) (within_neg w)
