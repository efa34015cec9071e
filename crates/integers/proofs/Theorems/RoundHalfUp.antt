-- Laws of what specs/RoundHalfUp.antt defines. The head of that file lists the main results.
use Rattle.std.specs.Prelude.{◌≡◌, ◌⊎◌, [], ◌∷◌, ℕ, ◌*◌, ◌/◌, ◌<◌, ℤ, pos, negsuc, ◌+ℤ◌, ◌*ℤ◌, ◌≤ℤ◌, ◌<ℤ◌}
use Rattle.std.proofs.Common.{sym, subst, inl, inr, arith, mod-lt}
use Rattle.std.proofs.Math.Nat.{div-add-mod}
use Rattle.std.specs.Int.Signed.{≤ℤ_refl}
use Rattle.integers.proofs.Theorems.Order.{pos-≤ℤ, nonneg, ≤ℤ-mul, ≤ℤ_or_<ℤ, ≤ℤ_antisym, ≤ℤ_of_≡, add_one_≤ℤ}
use Rattle.integers.proofs.Theorems.Linear.{le, lt, ◌&◌, ◌·◌, linear, lin≤, lin<, lin⊥}
use Rattle.integers.specs.Rounding.{floor, round_half_up}
use Rattle.integers.specs.RoundHalfUp.{UpBounds}

-- ---- the floor
-- a is d times its quotient, and a remainder below d
divided : (a : ℕ) {d : ℕ} → 0 < d → (pos d *ℤ pos (a / d)) ≤ℤ pos a
divided a {d} h = pos-≤ℤ (omega (arith, div-add-mod a d))

divided_high : (a : ℕ) {d : ℕ} → 0 < d → (pos a +ℤ pos 1) ≤ℤ (pos d *ℤ (pos (a / d) +ℤ pos 1))
divided_high a {d} h =
    let k : (pos a +ℤ pos 1) ≤ℤ (pos (d * (a / d)) +ℤ pos d) = pos-≤ℤ (omega (arith, div-add-mod a d, mod-lt a {m = d} h)) in
    lin≤ (pos a ∷ pos d ∷ pos (a / d) ∷ []) (le k) (search linear depth 40) tt

pub floor_low : (n : ℤ) {d : ℕ} → 0 < d → (pos d *ℤ floor n d) ≤ℤ n
unfolding floor
floor_low (pos a) h = divided a h
floor_low (negsuc a) {d} h = lin≤ (pos a ∷ pos d ∷ pos (a / d) ∷ []) (le (divided_high a h)) (search linear depth 40) tt

pub floor_high : (n : ℤ) {d : ℕ} → 0 < d → n <ℤ (pos d *ℤ (floor n d +ℤ pos 1))
unfolding floor
floor_high (pos a) {d} h = lin< (pos a ∷ pos d ∷ pos (a / d) ∷ []) (le (divided_high a h)) (search linear depth 40) tt
floor_high (negsuc a) {d} h = lin< (pos a ∷ pos d ∷ pos (a / d) ∷ []) (le (divided a h)) (search linear depth 40) tt

pub floor-greatest : {n q : ℤ} {d : ℕ} → 0 < d → (pos d *ℤ q) ≤ℤ n → q ≤ℤ floor n d
floor-greatest {n} {q} {d} h k = go (≤ℤ_or_<ℤ q (floor n d))
  where
    go : (q ≤ℤ floor n d) ⊎ (floor n d <ℤ q) → q ≤ℤ floor n d
    go (inl i) = i
    go (inr i) = lin⊥ (n ∷ q ∷ pos d ∷ floor n d ∷ []) (le (≤ℤ-mul (add_one_≤ℤ i) (nonneg d)) & le k & lt (floor_high n h)) (search linear depth 40) tt

pub round_half_up-bounds : (n : ℤ) {d : ℕ} → 0 < d → UpBounds n (pos d) (round_half_up n d)
unfolding round_half_up
round_half_up-bounds n {d} h =
    let q = floor (pos 2 *ℤ n +ℤ pos d) (2 * d) in
    let twice : 0 < 2 * d = omega arith in
    let low : (pos (2 * d) *ℤ q) ≤ℤ (pos 2 *ℤ n +ℤ pos d) = floor_low (pos 2 *ℤ n +ℤ pos d) twice in
    let high : (pos 2 *ℤ n +ℤ pos d) <ℤ (pos (2 * d) *ℤ (q +ℤ pos 1)) = floor_high (pos 2 *ℤ n +ℤ pos d) twice in
    record {
      over = lin≤ (n ∷ pos d ∷ q ∷ []) (le low) (search linear depth 40) tt;
      under = lin< (n ∷ pos d ∷ q ∷ []) (lt high) (search linear depth 40) tt;
    }

-- ---- monotone: were q of m / e below p of n / d, then p − q would be at least 1, and the two errors leave less than that
mono : {n m p q : ℤ} {d e : ℕ} → 0 < d → (n *ℤ pos e) ≤ℤ (m *ℤ pos d) → UpBounds n (pos d) p → UpBounds m (pos e) q → p ≤ℤ q
mono {n} {m} {p} {q} {d} {e} h k a b = go (≤ℤ_or_<ℤ p q)
  where
    go : (p ≤ℤ q) ⊎ (q <ℤ p) → p ≤ℤ q
    go (inl i) = i
    go (inr i) =
        lin⊥ (n ∷ m ∷ pos d ∷ pos e ∷ p ∷ q ∷ [])
        (le (≤ℤ-mul (add_one_≤ℤ i) (nonneg (d * e))) & le (e · a.over) & le (d · add_one_≤ℤ b.under) & le k & le (pos-≤ℤ h)) (search linear depth 40) tt

pub round_half_up-mono : (n m : ℤ) {d e : ℕ} → 0 < d → 0 < e → (n *ℤ pos e) ≤ℤ (m *ℤ pos d) → round_half_up n d ≤ℤ round_half_up m e
round_half_up-mono n m g h k = mono g k (round_half_up-bounds n g) (round_half_up-bounds m h)

pub round_half_up-eq : (n m : ℤ) {d e : ℕ} → 0 < d → 0 < e → n *ℤ pos e ≡ m *ℤ pos d → round_half_up n d ≡ round_half_up m e
round_half_up-eq n m g h k = ≤ℤ_antisym (round_half_up-mono n m g h (≤ℤ_of_≡ k)) (round_half_up-mono m n h g (≤ℤ_of_≡ (sym k)))

-- ---- no other number has such an error
pub round_half_up_of_bounds : {n : ℤ} {d : ℕ} {q : ℤ} → 0 < d → UpBounds n (pos d) q → q ≡ round_half_up n d
round_half_up_of_bounds {n} {d} h a =
    ≤ℤ_antisym (mono h (≤ℤ_refl (n *ℤ pos d)) a (round_half_up-bounds n h)) (mono h (≤ℤ_refl (n *ℤ pos d)) (round_half_up-bounds n h) a)

-- ---- whole numbers
pub round_half_up-add : (n k : ℤ) {d : ℕ} → 0 < d → round_half_up (n +ℤ k *ℤ pos d) d ≡ round_half_up n d +ℤ k
round_half_up-add n k {d} h =
    let q = round_half_up n d in
    let a = round_half_up-bounds n h in
    sym (round_half_up_of_bounds h (record {
      over = lin≤ (n ∷ k ∷ pos d ∷ q ∷ []) (le a.over) (search linear depth 40) tt;
      under = lin< (n ∷ k ∷ pos d ∷ q ∷ []) (lt a.under) (search linear depth 40) tt;
    }))

pub round_half_up-mul : (k : ℤ) {d : ℕ} → 0 < d → round_half_up (k *ℤ pos d) d ≡ k
round_half_up-mul k {d} h =
    sym (round_half_up_of_bounds h (record {
      over = lin≤ (k ∷ pos d ∷ []) (le (nonneg d)) (search linear depth 40) tt;
      under = lin< (k ∷ pos d ∷ []) (le (pos-≤ℤ h)) (search linear depth 40) tt;
    }))

-- ---- n / d ≤ m / e + 1
pub round_half_up_one_apart : (n m : ℤ) {d e : ℕ} → 0 < d → 0 < e → (n *ℤ pos e) ≤ℤ ((m +ℤ pos e) *ℤ pos d) → round_half_up n d ≤ℤ (round_half_up m e +ℤ pos 1)
round_half_up_one_apart n m {d} {e} g h k =
    subst (λ x. round_half_up n d ≤ℤ x) (round_half_up-add m (pos 1) h)
    (round_half_up-mono n (m +ℤ pos 1 *ℤ pos e) g h (lin≤ (n ∷ m ∷ pos d ∷ pos e ∷ []) (le k) (search linear depth 40) tt))
