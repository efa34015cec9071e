-- Laws of what specs/Clamp.antt defines. The head of that file lists the main results.
use Rattle.std.specs.Prelude.{◌≡◌, refl, List, [], ◌∷◌, ◌⊎◌, ℕ, zero, suc, ℤ, pos, ◌+ℤ◌, ◌-ℤ◌, ◌*ℤ◌, ◌≤ℤ◌, ◌<ℤ◌}
use Rattle.std.proofs.Common.{sym, ◌∙◌, ap, inl, inr}
use Rattle.integers.proofs.Theorems.Ring.{read, ring}
use Rattle.integers.proofs.Theorems.Order.{nonneg, add_one_≤ℤ, ≤ℤ_or_<ℤ, ≤ℤ_of_<ℤ, ≤ℤ_trans, ≤ℤ-mul, ≤ℤ-mul-nonneg}
use Rattle.integers.proofs.Theorems.Linear.{le, lt, eq, ◌&◌, linear, lin≤, lin≡}
use Rattle.integers.specs.Within.{Within}
use Rattle.integers.proofs.Theorems.Within.{bounds, within_is}
use Rattle.integers.specs.MinMax.{min, max}
use Rattle.integers.proofs.Theorems.MinMax.{min_moves, max_moves, max-≥ˡ, max-≥ʳ, max_least, max_eqˡ, max_eqʳ, min-≤ʳ, min-≤ˡ, min_eqˡ, min_eqʳ, min-greatest}
use Rattle.integers.specs.RangeSum.{Σ<}
use Rattle.integers.proofs.Theorems.RangeSum.{Σ-zero, Σ-suc}
use Rattle.integers.specs.Clamp.{Clamped, above, below, clamp, inside}

-- ---- bounds and cases
pub clamp_low : (v lo hi : ℤ) → lo ≤ℤ clamp v lo hi
unfolding clamp
clamp_low v lo hi = max-≥ˡ lo (min v hi)

pub clamp_high : {lo hi : ℤ} → lo ≤ℤ hi → (v : ℤ) → clamp v lo hi ≤ℤ hi
unfolding clamp
clamp_high {lo} {hi} h v = max_least h (min-≤ʳ v hi)

pub clamp-below : {lo v : ℤ} (hi : ℤ) → v ≤ℤ lo → clamp v lo hi ≡ lo
unfolding clamp
clamp-below {lo} {v} hi k = max_eqˡ (≤ℤ_trans (min-≤ˡ v hi) k)

pub clamp-inside : {lo hi v : ℤ} → lo ≤ℤ v → v ≤ℤ hi → clamp v lo hi ≡ v
unfolding clamp
clamp-inside {lo} h k = ap (max lo) (min_eqˡ k) ∙ max_eqʳ h

pub clamp-above : {lo hi v : ℤ} → lo ≤ℤ hi → hi ≤ℤ v → clamp v lo hi ≡ hi
unfolding clamp
clamp-above {lo} h k = ap (max lo) (min_eqʳ k) ∙ max_eqʳ h

pub clamped : {m : ℤ} → pos 0 ≤ℤ m → (v : ℤ) → Clamped m v (clamp v (pos 0) m)
clamped {m} h v = go (≤ℤ_or_<ℤ v (pos 0)) (≤ℤ_or_<ℤ m v)
  where
    go : (v ≤ℤ pos 0) ⊎ (pos 0 <ℤ v) → (m ≤ℤ v) ⊎ (v <ℤ m) → Clamped m v (clamp v (pos 0) m)
    go (inl a) b = below a (clamp-below m a)
    go (inr a) (inl b) = above b (clamp-above h b)
    go (inr a) (inr b) = inside (≤ℤ_of_<ℤ a) (≤ℤ_of_<ℤ b) (clamp-inside (≤ℤ_of_<ℤ a) (≤ℤ_of_<ℤ b))

pub clamp-mono : (lo hi : ℤ) {v w : ℤ} → v ≤ℤ w → clamp v lo hi ≤ℤ clamp w lo hi
unfolding clamp
clamp-mono lo hi {v} {w} h = max_least (max-≥ˡ lo (min w hi)) (≤ℤ_trans (min-greatest (≤ℤ_trans (min-≤ˡ v hi) h) (min-≤ʳ v hi)) (max-≥ʳ lo (min w hi)))

pub clamp_moves : {b : ℤ} (lo hi : ℤ) (v s : ℤ) → Within b s → Within b (clamp (v +ℤ s) lo hi -ℤ clamp v lo hi)
unfolding clamp
clamp_moves {b} lo hi v s w =
    max_moves lo (min v hi) lo (min (v +ℤ s) hi) (still lo) (min_moves v hi (v +ℤ s) hi (within_is refl (ring (v ∷ s ∷ []) (search read depth 40) tt) w) (still hi))
  where
    b≥0 : pos 0 ≤ℤ b
    b≥0 = lin≤ (b ∷ s ∷ []) (bounds w) (search linear depth 40) tt

    still : (z : ℤ) → Within b (z -ℤ z)
    still z = record {
      low = lin≤ (b ∷ z ∷ []) (le b≥0) (search linear depth 40) tt;
      high = lin≤ (b ∷ z ∷ []) (le b≥0) (search linear depth 40) tt;
    }

-- ---- parts of a width
-- short of its upper bound, a number is held by the lower one alone
clamp-eq-max : {v hi : ℤ} (lo : ℤ) → v ≤ℤ hi → clamp v lo hi ≡ max lo v
unfolding clamp
clamp-eq-max lo h = ap (max lo) (min_eqˡ h)

-- two parts, p and q
pub clamp_parts : {p q : ℤ} → pos 0 ≤ℤ p → pos 0 ≤ℤ q → (v : ℤ) → clamp v (pos 0) (p +ℤ q) ≡ clamp v (pos 0) p +ℤ clamp (v -ℤ p) (pos 0) q
clamp_parts {p} {q} h k v = go (≤ℤ_or_<ℤ v p) (≤ℤ_or_<ℤ v (p +ℤ q))
  where
    ρ : List ℤ
    ρ = clamp v (pos 0) (p +ℤ q) ∷ clamp v (pos 0) p ∷ clamp (v -ℤ p) (pos 0) q ∷ v ∷ p ∷ q ∷ max (pos 0) v ∷ []

    go : (v ≤ℤ p) ⊎ (p <ℤ v) → (v ≤ℤ (p +ℤ q)) ⊎ ((p +ℤ q) <ℤ v) → clamp v (pos 0) (p +ℤ q) ≡ clamp v (pos 0) p +ℤ clamp (v -ℤ p) (pos 0) q
    go (inl a) b =
        let e : clamp v (pos 0) (p +ℤ q) ≡ max (pos 0) v = clamp-eq-max (pos 0) (lin≤ (v ∷ p ∷ q ∷ []) (le a & le k) (search linear depth 40) tt) in
        let f : clamp v (pos 0) p ≡ max (pos 0) v = clamp-eq-max (pos 0) a in
        let g : clamp (v -ℤ p) (pos 0) q ≡ pos 0 = clamp-below q (lin≤ (v ∷ p ∷ []) (le a) (search linear depth 40) tt) in
        lin≡ ρ (eq e & eq f & eq g) (search linear depth 40) (tt, tt)
    go (inr a) (inl b) =
        let e : clamp v (pos 0) (p +ℤ q) ≡ v = clamp-inside (≤ℤ_trans h (≤ℤ_of_<ℤ a)) b in
        let f : clamp v (pos 0) p ≡ p = clamp-above h (≤ℤ_of_<ℤ a) in
        let g : clamp (v -ℤ p) (pos 0) q ≡ v -ℤ p =
        clamp-inside (lin≤ (v ∷ p ∷ []) (lt a) (search linear depth 40) tt) (lin≤ (v ∷ p ∷ q ∷ []) (le b) (search linear depth 40) tt) in
        lin≡ ρ (eq e & eq f & eq g) (search linear depth 40) (tt, tt)
    go (inr a) (inr b) =
        let e : clamp v (pos 0) (p +ℤ q) ≡ p +ℤ q = clamp-above (lin≤ (p ∷ q ∷ []) (le h & le k) (search linear depth 40) tt) (≤ℤ_of_<ℤ b) in
        let f : clamp v (pos 0) p ≡ p = clamp-above h (≤ℤ_of_<ℤ a) in
        let g : clamp (v -ℤ p) (pos 0) q ≡ q = clamp-above k (lin≤ (v ∷ p ∷ q ∷ []) (lt b) (search linear depth 40) tt) in
        lin≡ ρ (eq e & eq f & eq g) (search linear depth 40) (tt, tt)

-- two equal parts
pub clamp-halves : {m h : ℤ} → m ≡ h +ℤ h → pos 0 ≤ℤ h → (v : ℤ) → clamp v (pos 0) m ≡ clamp v (pos 0) h +ℤ clamp (v -ℤ h) (pos 0) h
clamp-halves w k v = ap (clamp v (pos 0)) w ∙ clamp_parts k k v

-- m parts of width w
pub clamp_tiles : {w : ℤ} → pos 0 ≤ℤ w → (m : ℕ) (v : ℤ) → Σ< m (λ i. clamp (v -ℤ pos i *ℤ w) (pos 0) w) ≡ clamp v (pos 0) (pos m *ℤ w)
clamp_tiles {w} h zero v =
    Σ-zero (λ i. clamp (v -ℤ pos i *ℤ w) (pos 0) w)
    ∙ lin≡ (clamp v (pos 0) (pos 0 *ℤ w) ∷ w ∷ []) (le (clamp_low v (pos 0) (pos 0 *ℤ w)) & le (clamp_high (≤ℤ-mul-nonneg (nonneg 0) h) v))
    (search linear depth 40) (tt, tt)
clamp_tiles {w} h (suc m) v =
    let next : pos m *ℤ w +ℤ w ≡ pos (suc m) *ℤ w = ring (pos m ∷ w ∷ []) (search read depth 40) tt in
    Σ-suc m (λ i. clamp (v -ℤ pos i *ℤ w) (pos 0) w)
    ∙ ap (λ z. z +ℤ clamp (v -ℤ pos m *ℤ w) (pos 0) w) (clamp_tiles h m v)
    ∙ sym (clamp_parts (≤ℤ-mul-nonneg (nonneg m) h) h v)
    ∙ ap (clamp v (pos 0)) next

-- ---- a factor
pub clamp_scale : {k m : ℤ} → pos 0 ≤ℤ k → pos 0 ≤ℤ m → (v : ℤ) → clamp (k *ℤ v) (pos 0) (k *ℤ m) ≡ k *ℤ clamp v (pos 0) m
clamp_scale {k} {m} h j v = go (clamped j v)
  where
    go : Clamped m v (clamp v (pos 0) m) → clamp (k *ℤ v) (pos 0) (k *ℤ m) ≡ k *ℤ clamp v (pos 0) m
    go (below a e) =
        clamp-below (k *ℤ m) (lin≤ (k ∷ v ∷ []) (le (≤ℤ-mul h a)) (search linear depth 40) tt)
        ∙ ring (k ∷ []) (search read depth 40) tt ∙ sym (ap (λ z. k *ℤ z) e)
    go (inside a b e) =
        clamp-inside (≤ℤ-mul-nonneg h a) (lin≤ (k ∷ v ∷ m ∷ []) (le (≤ℤ-mul h b)) (search linear depth 40) tt) ∙ sym (ap (λ z. k *ℤ z) e)
    go (above a e) =
        clamp-above (≤ℤ-mul-nonneg h j) (lin≤ (k ∷ v ∷ m ∷ []) (le (≤ℤ-mul h a)) (search linear depth 40) tt) ∙ sym (ap (λ z. k *ℤ z) e)

-- ---- v moves by one
pub clamp-step-inside : {m v : ℤ} → pos 0 ≤ℤ v → v <ℤ m → clamp (v +ℤ pos 1) (pos 0) m ≡ clamp v (pos 0) m +ℤ pos 1
clamp-step-inside {m} {v} h k =
    clamp-inside (lin≤ (v ∷ []) (le h) (search linear depth 40) tt) (add_one_≤ℤ k) ∙ ap (λ x. x +ℤ pos 1) (sym (clamp-inside h (≤ℤ_of_<ℤ k)))

pub clamp-step_outside : {m v : ℤ} → pos 0 ≤ℤ m → (v <ℤ pos 0) ⊎ (m ≤ℤ v) → clamp (v +ℤ pos 1) (pos 0) m ≡ clamp v (pos 0) m
clamp-step_outside {m} {v} g (inl h) = clamp-below m (add_one_≤ℤ h) ∙ sym (clamp-below m (≤ℤ_of_<ℤ h))
clamp-step_outside {m} {v} g (inr h) = clamp-above g (lin≤ (m ∷ v ∷ []) (le h) (search linear depth 40) tt) ∙ sym (clamp-above g h)
