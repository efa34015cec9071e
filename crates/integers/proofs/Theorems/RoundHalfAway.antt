-- Laws of what specs/RoundHalfAway.antt defines. The head of that file lists the main results.
use Rattle.std.specs.Prelude.{◌≡◌, refl, ◌⊎◌, [], ◌∷◌, ℕ, zero, suc, ◌+◌, ◌*◌, ◌<◌, ◌≤◌, ℤ, pos, negsuc, neg_ℤ, nat_abs, ◌+ℤ◌, ◌-ℤ◌, ◌*ℤ◌, ◌≤ℤ◌, ◌<ℤ◌}
use Rattle.std.proofs.Common.{sym, ◌∙◌, ap, subst, inl, inr, arith, mod-lt, ltb→lt}
use Rattle.std.proofs.Math.Nat.{div-add-mod, div-eq_of_lt, div-eq_of_lt-le}
use Rattle.std.proofs.Math.IntN.{neg_ℤ-neg_ℤ}
use Rattle.integers.proofs.Theorems.Ring.{read, ring, ◌⊗◌}
use Rattle.integers.proofs.Theorems.Order.{pos-≤ℤ, positive, ≤_of_pos, nonneg, ≤ℤ-mul, ≤ℤ_or_<ℤ, ≤ℤ_antisym, ≤ℤ_of_<ℤ, add_one_≤ℤ, ≤ℤ_of_≡}
use Rattle.integers.proofs.Theorems.Linear.{le, lt, eq, ◌&◌, linear, lin≤, lin<, lin≡, lin⊥}
use Rattle.integers.specs.Magnitude.{abs}
use Rattle.integers.proofs.Theorems.Magnitude.{abs-le}
use Rattle.integers.specs.Within.{Within}
use Rattle.integers.proofs.Theorems.Within.{bounds}
use Rattle.integers.specs.Rounding.{nearestℕ, round_half_away}
use Rattle.integers.specs.RoundHalfAway.{ErrorBounds}

-- ---- of a magnitude
nearestℕ_low : (a : ℕ) {d : ℕ} → 0 < d → 2 * (d * nearestℕ a d) ≤ 2 * a + d
unfolding nearestℕ
nearestℕ_low a {d} h = omega (arith, div-add-mod (2 * a + d) (2 * d))

nearestℕ_high : (a : ℕ) {d : ℕ} → 0 < d → 2 * a < 2 * (d * nearestℕ a d) + d
unfolding nearestℕ
nearestℕ_high a {d} h = omega (arith, div-add-mod (2 * a + d) (2 * d), mod-lt (2 * a + d) {m = 2 * d} (omega arith))

nearestℕ-zero : {d : ℕ} → 0 < d → nearestℕ 0 d ≡ 0
unfolding nearestℕ
nearestℕ-zero h = div-eq_of_lt (omega arith)

nearestℕ-mul : (a : ℕ) {d : ℕ} → 0 < d → nearestℕ (a * d) d ≡ a
unfolding nearestℕ
nearestℕ-mul a {d} h = div-eq_of_lt-le (2 * d) (omega arith) (omega arith)

-- ---- odd, and exact on multiples
pub round_half_away-neg : (n : ℤ) {d : ℕ} → 0 < d → round_half_away (neg_ℤ n) d ≡ neg_ℤ (round_half_away n d)
unfolding round_half_away
round_half_away-neg (pos zero) {d} h = ap pos (nearestℕ-zero h) ∙ sym (ap (λ (x : ℕ). neg_ℤ (pos x)) (nearestℕ-zero h))
round_half_away-neg (pos (suc n)) {d} h = refl
round_half_away-neg (negsuc n) {d} h = sym (neg_ℤ-neg_ℤ (pos (nearestℕ (suc n) d)))

pub round_half_away-mul : (n : ℤ) {d : ℕ} → 0 < d → round_half_away (n *ℤ pos d) d ≡ n
unfolding round_half_away
round_half_away-mul (pos n) h = ap pos (nearestℕ-mul n h)
round_half_away-mul (negsuc n) {d} h = round_half_away-neg (pos (suc n * d)) h ∙ ap (λ (x : ℕ). neg_ℤ (pos x)) (nearestℕ-mul (suc n) h)

pub round_half_away_one : (n : ℤ) → round_half_away n 1 ≡ n
round_half_away_one n = ap (λ z. round_half_away z 1) {y = n *ℤ pos 1} (ring (n ∷ []) (search read depth 40) tt) ∙ round_half_away-mul n {d = 1} (omega arith)

-- Everything below is the same on both sides of zero, and is proved on one.
pub error_neg : {n d q : ℤ} → ErrorBounds n d q → ErrorBounds (neg_ℤ n) d (neg_ℤ q)
error_neg {n} {d} {q} e = record {
  over = lin≤ (n ∷ d ∷ q ∷ []) (le e.under) (search linear depth 40) tt;
  under = lin≤ (n ∷ d ∷ q ∷ []) (le e.over) (search linear depth 40) tt;
  under_strict = λ h. lin< (n ∷ d ∷ q ∷ []) (lt (e.over_strict (lin≤ (n ∷ []) (le h) (search linear depth 40) tt))) (search linear depth 40) tt;
  over_strict = λ h. lin< (n ∷ d ∷ q ∷ []) (lt (e.under_strict (lin≤ (n ∷ []) (le h) (search linear depth 40) tt))) (search linear depth 40) tt;
}

error_pos : (a : ℕ) {d : ℕ} → 0 < d → ErrorBounds (pos a) (pos d) (pos (nearestℕ a d))
error_pos a {d} h =
    let q = nearestℕ a d in
    let low : pos (2 * (d * q)) ≤ℤ pos (2 * a + d) = pos-≤ℤ (nearestℕ_low a h) in
    let high : (pos (2 * a) +ℤ pos 1) ≤ℤ pos (2 * (d * q) + d) = pos-≤ℤ (let k = nearestℕ_high a h in omega arith) in
    record {
      over = lin≤ (pos d ∷ pos q ∷ pos a ∷ []) (le low) (search linear depth 40) tt;
      under = lin≤ (pos d ∷ pos q ∷ pos a ∷ []) (le high) (search linear depth 40) tt;
      under_strict = λ g. lin< (pos d ∷ pos q ∷ pos a ∷ []) (le high) (search linear depth 40) tt;
      over_strict = λ g.
          let z : a ≡ 0 = let k = ≤_of_pos g in omega arith in
          let e : pos q ≡ pos 0 = ap (λ x. pos (nearestℕ x d)) z ∙ ap pos (nearestℕ-zero h) in
          lin< (pos d ∷ pos q ∷ pos a ∷ []) (eq (pos d ⊗ e) & le (nonneg a) & le (pos-≤ℤ h)) (search linear depth 40) tt;
    }

pub round_half_away-bounds : (n : ℤ) {d : ℕ} → 0 < d → ErrorBounds n (pos d) (round_half_away n d)
unfolding round_half_away
round_half_away-bounds (pos a) h = error_pos a h
round_half_away-bounds (negsuc a) h = error_neg (error_pos (suc a) h)

pub round_half_away_error : (n : ℤ) {d : ℕ} → 0 < d → abs (pos 2 *ℤ (pos d *ℤ round_half_away n d -ℤ n)) ≤ℤ pos d
round_half_away_error n {d} h =
    let e = round_half_away-bounds n h in
    abs-le e.over (lin≤ (n ∷ pos d ∷ round_half_away n d ∷ []) (le e.under) (search linear depth 40) tt)

-- ---- no two numbers are so near
-- where n is not negative, the larger of two would be more than a half too large
not-above : {n d p q : ℤ} → pos 0 <ℤ d → pos 0 ≤ℤ n → ErrorBounds n d p → ErrorBounds n d q → p ≤ℤ q
not-above {n} {d} {p} {q} g h e f = go (≤ℤ_or_<ℤ p q)
  where
    go : (p ≤ℤ q) ⊎ (q <ℤ p) → p ≤ℤ q
    go (inl k) = k
    go (inr k) =
        lin⊥ (n ∷ d ∷ p ∷ q ∷ []) (le (≤ℤ-mul (add_one_≤ℤ k) (≤ℤ_of_<ℤ g)) & le e.over & lt (f.under_strict h)) (search linear depth 40) tt

same_of_bounds : {n d p q : ℤ} → pos 0 <ℤ d → ErrorBounds n d p → ErrorBounds n d q → p ≡ q
same_of_bounds {n} {d} {p} {q} g e f = go (≤ℤ_or_<ℤ (pos 0) n)
  where
    go : (pos 0 ≤ℤ n) ⊎ (n <ℤ pos 0) → p ≡ q
    go (inl h) = ≤ℤ_antisym (not-above g h e f) (not-above g h f e)
    go (inr h) =
        let k : pos 0 ≤ℤ neg_ℤ n = lin≤ (n ∷ []) (lt h) (search linear depth 40) tt in
        let a : neg_ℤ p ≤ℤ neg_ℤ q = not-above g k (error_neg e) (error_neg f) in
        let b : neg_ℤ q ≤ℤ neg_ℤ p = not-above g k (error_neg f) (error_neg e) in
        lin≡ (p ∷ q ∷ []) (le a & le b) (search linear depth 40) (tt, tt)

pub round_half_away_of_bounds : {n : ℤ} {d : ℕ} {q : ℤ} → 0 < d → ErrorBounds n (pos d) q → q ≡ round_half_away n d
round_half_away_of_bounds {n} h e = same_of_bounds (positive h) e (round_half_away-bounds n h)

-- of a divisor that is an integer, as code has it
pub round_half_away_of_bounds' : {n d q : ℤ} → pos 0 <ℤ d → ErrorBounds n d q → q ≡ round_half_away n (nat_abs d)
round_half_away_of_bounds' {d = pos d} h e = round_half_away_of_bounds (ltb→lt 0 d h.lt) e
round_half_away_of_bounds' {d = negsuc d} h e = absurd h.lt

-- ---- monotone
pub round_half_away-mono : {m n : ℤ} {d : ℕ} → 0 < d → m ≤ℤ n → round_half_away m d ≤ℤ round_half_away n d
round_half_away-mono {m} {n} {d} h k = go (≤ℤ_or_<ℤ (round_half_away m d) (round_half_away n d))
  where
    p : ℤ
    p = round_half_away m d

    q : ℤ
    q = round_half_away n d

    -- were q below p, the errors would leave no room between m and n, and so m = n
    go : (p ≤ℤ q) ⊎ (q <ℤ p) → p ≤ℤ q
    go (inl a) = a
    go (inr a) =
        let e : m ≡ n =
        lin≡ (m ∷ n ∷ pos d ∷ p ∷ q ∷ []) (le k & le (≤ℤ-mul (add_one_≤ℤ a) (nonneg d)) & le (round_half_away-bounds m h).over & le (round_half_away-bounds n h).under) (search linear depth 40) (tt, tt) in
        ≤ℤ_of_≡ (ap (λ x. round_half_away x d) e)

pub round_half_away_within : {b n : ℤ} {d : ℕ} → 0 < d → Within (b *ℤ pos d) n → Within b (round_half_away n d)
round_half_away_within {b} {n} {d} h w = record {
  low = subst (λ x. x ≤ℤ round_half_away n d) (round_half_away-mul (neg_ℤ b) h) (round_half_away-mono h (lin≤ (b ∷ pos d ∷ n ∷ []) (bounds w) (search linear depth 40) tt));
  high = subst (λ x. round_half_away n d ≤ℤ x) (round_half_away-mul b h) (round_half_away-mono h w.high);
}
