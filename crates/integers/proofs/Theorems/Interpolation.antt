-- Laws of what specs/Interpolation.antt defines. The head of that file lists the main results.
use Rattle.std.specs.Prelude.{◌≡◌, [], ◌∷◌, ◌⊎◌, ℕ, ◌≤◌, ℤ, pos, negsuc, ◌+ℤ◌, ◌-ℤ◌, ◌*ℤ◌, ◌≤ℤ◌, ◌<ℤ◌}
use Rattle.std.proofs.Common.{sym, ◌∙◌, ap, ap₂, inl, inr}
use Rattle.std.proofs.Math.Path.{subst⁻¹}
use Rattle.integers.proofs.Theorems.Ring.{read, ring, comb, ◌⊕◌, ◌⊗◌}
use Rattle.integers.proofs.Theorems.Order.{≤ℤ_or_<ℤ, ≤ℤ_of_<ℤ, ≤ℤ-mul, ≤ℤ-mul-nonneg, pos-≤ℤ, nonneg}
use Rattle.integers.proofs.Theorems.Linear.{le, lt, ◌&◌, linear, lin≤}
use Rattle.integers.specs.Within.{Within}
use Rattle.integers.specs.Clamp.{clamp}
use Rattle.integers.proofs.Theorems.Clamp.{clamp-below, clamp-inside, clamp-above}
use Rattle.integers.specs.Tent.{tent}
use Rattle.integers.proofs.Theorems.Tent.{tent-halves}
use Rattle.integers.specs.Interpolation.{Interpolates}

-- ---- v moves by s, which is at most one either way
-- before and after the step, z lies on one side of 0
abbrev OneSide : ℤ → ℤ → Type 0
OneSide z s = ((z ≤ℤ pos 0) × ((z +ℤ s) ≤ℤ pos 0)) ⊎ ((pos 0 ≤ℤ z) × (pos 0 ≤ℤ (z +ℤ s)))

one_side : (z : ℤ) {s : ℤ} → Within (pos 1) s → OneSide z s
one_side z {s} u = go (≤ℤ_or_<ℤ z (pos 0)) (≤ℤ_or_<ℤ (z +ℤ s) (pos 0))
  where
    go : (z ≤ℤ pos 0) ⊎ (pos 0 <ℤ z) → ((z +ℤ s) ≤ℤ pos 0) ⊎ (pos 0 <ℤ (z +ℤ s)) → OneSide z s
    go (inl a) (inl b) = inl (a, b)
    go (inl a) (inr b) = inr (lin≤ (z ∷ s ∷ []) (lt b & le u.high) (search linear depth 40) tt, ≤ℤ_of_<ℤ b)
    go (inr a) b = inr (≤ℤ_of_<ℤ a, lin≤ (z ∷ s ∷ []) (lt a & le u.low) (search linear depth 40) tt)

-- and so does what lies between, r of the k parts on
between : {k r : ℕ} {z : ℤ} (s : ℤ) → r ≤ k → pos 0 ≤ℤ z → pos 0 ≤ℤ (z +ℤ s) → pos 0 ≤ℤ (pos k *ℤ z +ℤ s *ℤ pos r)
between {k} {r} {z} s g a b = lin≤ (pos k ∷ pos r ∷ z ∷ s ∷ []) (le (≤ℤ-mul a (pos-≤ℤ g)) & le (≤ℤ-mul b (nonneg r))) (search linear depth 40) tt

between-neg : {k r : ℕ} {z : ℤ} (s : ℤ) → r ≤ k → z ≤ℤ pos 0 → (z +ℤ s) ≤ℤ pos 0 → (pos k *ℤ z +ℤ s *ℤ pos r) ≤ℤ pos 0
between-neg {k} {r} {z} s g a b = lin≤ (pos k ∷ pos r ∷ z ∷ s ∷ []) (le (≤ℤ-mul a (pos-≤ℤ g)) & le (≤ℤ-mul b (nonneg r))) (search linear depth 40) tt

pub clamp_interpolates : {m : ℤ} → pos 0 ≤ℤ m → {s : ℤ} → Within (pos 1) s → (v : ℤ) {k r : ℕ} → r ≤ k
    → Interpolates (λ z. clamp z (pos 0) (pos k *ℤ m)) (λ z. clamp z (pos 0) m) v s k r
clamp_interpolates {m} j {s} u v {k} {r} g = go (one_side v u) (one_side (v -ℤ m) u)
  where
    fine : ℤ
    fine = pos k *ℤ v +ℤ s *ℤ pos r

    by : (x a b : ℤ) → clamp fine (pos 0) (pos k *ℤ m) ≡ x → clamp v (pos 0) m ≡ a → clamp (v +ℤ s) (pos 0) m ≡ b → x ≡ pos k *ℤ a +ℤ pos r *ℤ (b -ℤ a)
        → Interpolates (λ z. clamp z (pos 0) (pos k *ℤ m)) (λ z. clamp z (pos 0) m) v s k r
    by x a b ex ea eb e = ex ∙ e ∙ sym (ap₂ (λ a b. pos k *ℤ a +ℤ pos r *ℤ (b -ℤ a)) ea eb)

    km : pos 0 ≤ℤ (pos k *ℤ m)
    km = ≤ℤ-mul-nonneg (nonneg k) j

    short : {z : ℤ} → (z -ℤ m) ≤ℤ pos 0 → z ≤ℤ m
    short {z} h = lin≤ (z ∷ m ∷ []) (le h) (search linear depth 40) tt

    past : {z : ℤ} → pos 0 ≤ℤ (z -ℤ m) → m ≤ℤ z
    past {z} h = lin≤ (z ∷ m ∷ []) (le h) (search linear depth 40) tt

    regroup : v +ℤ s -ℤ m ≡ v -ℤ m +ℤ s
    regroup = ring (v ∷ s ∷ m ∷ []) (search read depth 40) tt

    go : OneSide v s → OneSide (v -ℤ m) s → Interpolates (λ z. clamp z (pos 0) (pos k *ℤ m)) (λ z. clamp z (pos 0) m) v s k r
    go (inl a) b =
        by (pos 0) (pos 0) (pos 0) (clamp-below (pos k *ℤ m) (between-neg s g a.0 a.1)) (clamp-below m a.0) (clamp-below m a.1)
        (ring (pos k ∷ pos r ∷ []) (search read depth 40) tt)
    go (inr a) (inl b) =
        by fine v (v +ℤ s)
        (clamp-inside (between s g a.0 a.1) (lin≤ (pos k ∷ pos r ∷ v ∷ s ∷ m ∷ []) (le (between-neg s g b.0 b.1)) (search linear depth 40) tt))
        (clamp-inside a.0 (short b.0)) (clamp-inside a.1 (short (subst⁻¹ (λ x. x ≤ℤ pos 0) regroup b.1)))
        (ring (pos k ∷ pos r ∷ v ∷ s ∷ []) (search read depth 40) tt)
    go (inr a) (inr b) =
        by (pos k *ℤ m) m m
        (clamp-above km (lin≤ (pos k ∷ pos r ∷ v ∷ s ∷ m ∷ []) (le (between s g b.0 b.1)) (search linear depth 40) tt))
        (clamp-above j (past b.0)) (clamp-above j (past (subst⁻¹ (λ x. pos 0 ≤ℤ x) regroup b.1)))
        (ring (pos k ∷ pos r ∷ m ∷ []) (search read depth 40) tt)

-- ---- the tent is the left half's clamp less the right half's, where the middle is a whole number
pub tent_interpolates : {m h : ℤ} → m ≡ h +ℤ h → pos 0 ≤ℤ h → {s : ℤ} → Within (pos 1) s → (v : ℤ) {n r : ℕ} → r ≤ n
    → Interpolates (tent (pos n *ℤ m)) (tent m) v s n r
tent_interpolates {m} {h} w k {s} u v {n} {r} g =
    let z = pos n *ℤ v +ℤ s *ℤ pos r in
    let H = pos n *ℤ h in
    let l = clamp v (pos 0) h in
    let l' = clamp (v +ℤ s) (pos 0) h in
    let c = clamp (v -ℤ h) (pos 0) h in
    let c' = clamp (v +ℤ s -ℤ h) (pos 0) h in
    let whole : pos n *ℤ m ≡ H +ℤ H = comb (pos n ∷ m ∷ h ∷ []) (pos n ⊗ w) (search read depth 40) tt in
    let L : clamp z (pos 0) H ≡ pos n *ℤ l +ℤ pos r *ℤ (l' -ℤ l) = clamp_interpolates k u v g in
    let C : clamp (z -ℤ H) (pos 0) H ≡ pos n *ℤ c +ℤ pos r *ℤ (c' -ℤ c) =
    ap (λ x. clamp x (pos 0) H) {y = pos n *ℤ (v -ℤ h) +ℤ s *ℤ pos r} (ring (pos n ∷ v ∷ s ∷ pos r ∷ h ∷ []) (search read depth 40) tt)
    ∙ clamp_interpolates k u (v -ℤ h) g
    ∙ ap (λ x. pos n *ℤ c +ℤ pos r *ℤ (clamp x (pos 0) h -ℤ c)) {y = v +ℤ s -ℤ h} (ring (v ∷ s ∷ h ∷ []) (search read depth 40) tt) in
    tent-halves whole (≤ℤ-mul-nonneg (nonneg n) k) z ∙ ap₂ ◌-ℤ◌ L C
    ∙ comb (pos n ∷ pos r ∷ l ∷ l' ∷ c ∷ c' ∷ tent m v ∷ tent m (v +ℤ s) ∷ [])
    ((pos r -ℤ pos n) ⊗ tent-halves w k v ⊕ (negsuc 0 *ℤ pos r) ⊗ tent-halves w k (v +ℤ s)) (search read depth 40) tt
