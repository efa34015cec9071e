-- Laws of what specs/Tent.antt defines. The head of that file lists the main results.
use Rattle.std.specs.Prelude.{◌≡◌, refl, [], ◌∷◌, ◌⊎◌, ℕ, zero, suc, ◌<◌, ℤ, pos, negsuc, ◌+ℤ◌, ◌-ℤ◌, ◌*ℤ◌, ◌≤ℤ◌, ◌<ℤ◌}
use Rattle.std.proofs.Common.{sym, ◌∙◌, ap, inl, inr, arith}
use Rattle.std.proofs.Math.IntN.{+ℤ_idr}
use Rattle.integers.proofs.Theorems.Ring.{read, ring, comb, ◌⊕◌, ◌⊗◌}
use Rattle.integers.proofs.Theorems.Order.{≤ℤ_or_<ℤ, ≤ℤ_of_<ℤ}
use Rattle.integers.proofs.Theorems.Linear.{le, lt, eq, ◌&◌, linear, lin≤, lin<, lin≡}
use Rattle.integers.specs.Within.{Within}
use Rattle.integers.proofs.Theorems.Within.{within_is, within_neg}
use Rattle.integers.specs.MinMax.{min}
use Rattle.integers.proofs.Theorems.MinMax.{min-≤ˡ, min-≤ʳ, min_eqˡ, min_eqʳ, min-greatest, min_scale, min_moves}
use Rattle.integers.specs.Clamp.{clamp}
use Rattle.integers.proofs.Theorems.Clamp.{clamp_moves, clamp_low, clamp_high, clamp-below, clamp-inside, clamp-above, clamp-halves, clamp_scale, clamp-step-inside, clamp-step_outside}
use Rattle.integers.specs.Tent.{tent}

-- ---- cases and bounds
pub tent-inside : {m v : ℤ} → pos 0 ≤ℤ v → v ≤ℤ m → tent m v ≡ min v (m -ℤ v)
unfolding tent
tent-inside {m} h k = ap (λ c. min c (m -ℤ c)) (clamp-inside h k)

pub tent_outside : {m v : ℤ} → pos 0 ≤ℤ m → (v ≤ℤ pos 0) ⊎ (m ≤ℤ v) → tent m v ≡ pos 0
unfolding tent
tent_outside {m} g (inl h) = ap (λ c. min c (m -ℤ c)) (clamp-below m h) ∙ min_eqˡ (lin≤ (m ∷ []) (le g) (search linear depth 40) tt)
tent_outside {m} g (inr h) =
    ap (λ c. min c (m -ℤ c)) (clamp-above g h) ∙ min_eqʳ (lin≤ (m ∷ []) (le g) (search linear depth 40) tt) ∙ ring (m ∷ []) (search read depth 40) tt

pub tent-nonneg : {m : ℤ} → pos 0 ≤ℤ m → (v : ℤ) → pos 0 ≤ℤ tent m v
unfolding tent
tent-nonneg {m} g v = min-greatest (clamp_low v (pos 0) m) (lin≤ (m ∷ clamp v (pos 0) m ∷ []) (le (clamp_high g v)) (search linear depth 40) tt)

pub tent_half : (m v : ℤ) → (pos 2 *ℤ tent m v) ≤ℤ m
unfolding tent
tent_half m v =
    let c = clamp v (pos 0) m in
    lin≤ (min c (m -ℤ c) ∷ c ∷ m ∷ []) (le (min-≤ˡ c (m -ℤ c)) & le (min-≤ʳ c (m -ℤ c))) (search linear depth 40) tt

pub tent_moves : {b : ℤ} (m v s : ℤ) → Within b s → Within b (tent m (v +ℤ s) -ℤ tent m v)
unfolding tent
tent_moves m v s w =
    let c = clamp v (pos 0) m in
    let c' = clamp (v +ℤ s) (pos 0) m in
    let k = clamp_moves (pos 0) m v s w in
    min_moves c (m -ℤ c) c' (m -ℤ c') k (within_is refl (ring (m ∷ c ∷ c' ∷ []) (search read depth 40) tt) (within_neg k))

-- ---- halves
pub tent-halves : {m h : ℤ} → m ≡ h +ℤ h → pos 0 ≤ℤ h → (v : ℤ) → tent m v ≡ clamp v (pos 0) h -ℤ clamp (v -ℤ h) (pos 0) h
unfolding tent
tent-halves {m} {h} w k v = go (≤ℤ_or_<ℤ v h)
  where
    c : ℤ
    c = clamp v (pos 0) m

    l : ℤ
    l = clamp v (pos 0) h

    r : ℤ
    r = clamp (v -ℤ h) (pos 0) h

    whole : c ≡ l +ℤ r
    whole = clamp-halves w k v

    go : (v ≤ℤ h) ⊎ (h <ℤ v) → min c (m -ℤ c) ≡ l -ℤ r
    go (inl a) =
        let e : r ≡ pos 0 = clamp-below h (lin≤ (v ∷ h ∷ []) (le a) (search linear depth 40) tt) in
        min_eqˡ (lin≤ (c ∷ l ∷ r ∷ m ∷ h ∷ []) (eq whole & eq e & eq w & le (clamp_high k v)) (search linear depth 40) tt)
        ∙ lin≡ (c ∷ l ∷ r ∷ []) (eq whole & eq e) (search linear depth 40) (tt, tt)
    go (inr a) =
        let e : l ≡ h = clamp-above k (≤ℤ_of_<ℤ a) in
        min_eqʳ (lin≤ (c ∷ l ∷ r ∷ m ∷ h ∷ []) (eq whole & eq e & eq w & le (clamp_low (v -ℤ h) (pos 0) h)) (search linear depth 40) tt)
        ∙ lin≡ (c ∷ l ∷ r ∷ m ∷ h ∷ []) (eq whole & eq e & eq w) (search linear depth 40) (tt, tt)

-- half number b, 0 on the left and 1 on the right, doubled: the whole, with the tent's sign 1 − 2 b
pub half_of : {m h : ℤ} → m ≡ h +ℤ h → pos 0 ≤ℤ h → (b : ℕ) → b < 2 → (v : ℤ)
    → pos 2 *ℤ clamp (v -ℤ pos b *ℤ h) (pos 0) h ≡ clamp v (pos 0) m +ℤ (pos 1 -ℤ pos 2 *ℤ pos b) *ℤ tent m v
half_of {m} {h} w k zero g v =
    ap (λ x. pos 2 *ℤ clamp x (pos 0) h) {y = v} (ring (v ∷ h ∷ []) (search read depth 40) tt)
    ∙ comb (clamp v (pos 0) h ∷ clamp (v -ℤ h) (pos 0) h ∷ clamp v (pos 0) m ∷ tent m v ∷ []) (negsuc 0 ⊗ clamp-halves w k v ⊕ negsuc 0 ⊗ tent-halves w k v) (search read depth 40) tt
half_of {m} {h} w k (suc zero) g v =
    ap (λ x. pos 2 *ℤ clamp x (pos 0) h) {y = v -ℤ h} (ring (v ∷ h ∷ []) (search read depth 40) tt)
    ∙ comb (clamp v (pos 0) h ∷ clamp (v -ℤ h) (pos 0) h ∷ clamp v (pos 0) m ∷ tent m v ∷ []) (negsuc 0 ⊗ clamp-halves w k v ⊕ tent-halves w k v) (search read depth 40) tt
half_of w k (suc (suc b)) g v = absurd (omega arith)

-- ---- a factor
pub tent_scale : {k m : ℤ} → pos 0 ≤ℤ k → pos 0 ≤ℤ m → (v : ℤ) → tent (k *ℤ m) (k *ℤ v) ≡ k *ℤ tent m v
unfolding tent
tent_scale {k} {m} h j v =
    ap (λ x. min x (k *ℤ m -ℤ x)) (clamp_scale h j v)
    ∙ ap (min (k *ℤ clamp v (pos 0) m)) (ring (k ∷ m ∷ clamp v (pos 0) m ∷ []) (search read depth 40) tt)
    ∙ min_scale h (clamp v (pos 0) m) (m -ℤ clamp v (pos 0) m)

-- ---- v moves by one: the tent's step is that of the left half less that of the right half
module _ {m h : ℤ} (w : m ≡ h +ℤ h) (k : pos 0 ≤ℤ h) (v : ℤ) where
  by_halves : (a b : ℤ) → clamp (v +ℤ pos 1) (pos 0) h ≡ clamp v (pos 0) h +ℤ a → clamp (v -ℤ h +ℤ pos 1) (pos 0) h ≡ clamp (v -ℤ h) (pos 0) h +ℤ b
      → tent m (v +ℤ pos 1) ≡ tent m v +ℤ a -ℤ b
  by_halves a b p q =
      let r : clamp (v +ℤ pos 1 -ℤ h) (pos 0) h ≡ clamp (v -ℤ h) (pos 0) h +ℤ b =
      ap (λ x. clamp x (pos 0) h) {y = v -ℤ h +ℤ pos 1} (ring (v ∷ h ∷ []) (search read depth 40) tt) ∙ q in
      comb (tent m (v +ℤ pos 1) ∷ tent m v ∷ clamp (v +ℤ pos 1) (pos 0) h ∷ clamp v (pos 0) h ∷ clamp (v +ℤ pos 1 -ℤ h) (pos 0) h ∷ clamp (v -ℤ h) (pos 0) h ∷ a ∷ b ∷ [])
      (tent-halves w k (v +ℤ pos 1) ⊕ negsuc 0 ⊗ tent-halves w k v ⊕ p ⊕ negsuc 0 ⊗ r) (search read depth 40) tt

  -- a half that v is outside of rests
  rests : {z : ℤ} → (z <ℤ pos 0) ⊎ (h ≤ℤ z) → clamp (z +ℤ pos 1) (pos 0) h ≡ clamp z (pos 0) h +ℤ pos 0
  rests {z} o = clamp-step_outside k o ∙ sym (+ℤ_idr (clamp z (pos 0) h))

  pub tent-step-left : pos 0 ≤ℤ v → v <ℤ h → tent m (v +ℤ pos 1) ≡ tent m v +ℤ pos 1
  tent-step-left i j =
      by_halves (pos 1) (pos 0) (clamp-step-inside i j) (rests (inl (lin< (v ∷ h ∷ []) (lt j) (search linear depth 40) tt)))
      ∙ ring (tent m v ∷ []) (search read depth 40) tt

  pub tent-step-right : h ≤ℤ v → v <ℤ m → tent m (v +ℤ pos 1) ≡ tent m v -ℤ pos 1
  tent-step-right i j =
      by_halves (pos 0) (pos 1) (rests (inr i))
      (clamp-step-inside (lin≤ (v ∷ h ∷ []) (le i) (search linear depth 40) tt) (lin< (v ∷ h ∷ m ∷ []) (lt j & eq w) (search linear depth 40) tt))
      ∙ ring (tent m v ∷ []) (search read depth 40) tt

  pub tent-step_outside : (v <ℤ pos 0) ⊎ (m ≤ℤ v) → tent m (v +ℤ pos 1) ≡ tent m v
  tent-step_outside o = by_halves (pos 0) (pos 0) (rests (left o)) (rests (right o)) ∙ ring (tent m v ∷ []) (search read depth 40) tt
    where
      left : (v <ℤ pos 0) ⊎ (m ≤ℤ v) → (v <ℤ pos 0) ⊎ (h ≤ℤ v)
      left (inl a) = inl a
      left (inr a) = inr (lin≤ (v ∷ h ∷ m ∷ []) (le a & eq w & le k) (search linear depth 40) tt)

      right : (v <ℤ pos 0) ⊎ (m ≤ℤ v) → ((v -ℤ h) <ℤ pos 0) ⊎ (h ≤ℤ (v -ℤ h))
      right (inl a) = inl (lin< (v ∷ h ∷ []) (lt a & le k) (search linear depth 40) tt)
      right (inr a) = inr (lin≤ (v ∷ h ∷ m ∷ []) (le a & eq w) (search linear depth 40) tt)
