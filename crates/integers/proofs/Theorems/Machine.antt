-- Laws of what specs/Machine.antt defines. The head of that file lists the main results.
use Rattle.std.specs.Prelude.{◌≡◌, List, Bool, true, false, ℕ, zero, suc, ◌+◌, ◌-◌, ◌^◌, ◌<◌, ◌≤◌, T, ℤ, pos, negsuc, neg_ℤ, ◌+ℤ◌, ◌≤ℤ◌, ◌<ℤ◌}
use Rattle.std.proofs.Common.{sym, ◌∙◌, ap₂, arith, ltb→lt, leb→le, le→leb, to_z-of_z}
use Rattle.std.specs.Int.Signed.{mag, le_z, lt_z, le_z_yes}
use Rattle.std.specs.Int.{Width}
use mir.Val.{SFits, hbits, to_z, of_z}
use Rattle.integers.proofs.Theorems.Order.{≤ℤ_of_<ℤ, le_z-true, le_z-false, lt_z-true, lt_z-false, ≤ℤ-mul}
use Rattle.integers.specs.Linear.{Ineqs, end, more, Facts, next}
use Rattle.integers.proofs.Theorems.Linear.{linear, ≤_of_refuted, le, ◌&◌}
use Rattle.integers.specs.Machine.{Box, Fit, SureFit, bottom, fit, highest, lowest, read_back, top}

pub known : {w : Width} {z v : ℤ} → SFits w z → z ≡ v → to_z w (of_z w z) ≡ v
known f e = to_z-of_z f ∙ e

-- the bits of a positive number are not 0, which a division asks of its divisor
pub bits_pos : (w : Width) {z : ℤ} → pos 0 <ℤ z → 0 < of_z w z
bits_pos w {z = pos n} h = ltb→lt 0 n h.lt
bits_pos w {z = negsuc n} h = absurd h.lt

-- ---- what a number that fits lies between. `mag` is n both of n and of −(n + 1), so one bound H on it says −H ≤ z < H
range_low : (H : ℕ) (z : ℤ) → mag z < H → T (le_z (neg_ℤ (pos H)) z)
range_low zero z h = absurd (let j : ◌≡◌ {A = ℕ} 0 1 = omega arith in omega arith)
range_low (suc H) (pos n) h = tt
range_low (suc H) (negsuc n) h = le→leb n H (omega arith)

range_high : (H : ℕ) (z : ℤ) → mag z < H → T (le_z z (pos (H - 1)))
range_high H (pos n) h = le→leb n (H - 1) (omega arith)
range_high H (negsuc n) h = tt

pub fits_low : {w : Width} {z : ℤ} → SFits w z → lowest w ≤ℤ z
fits_low {w} {z} h = le_z_yes (range_low (2 ^ hbits w) z h.sfits)

pub fits_high : {w : Width} {z : ℤ} → SFits w z → z ≤ℤ highest w
fits_high {w} {z} h = le_z_yes (range_high (2 ^ hbits w) z h.sfits)

pub range : {w : Width} {z : ℤ} → SFits w z → Facts (more (lowest w) z (more z (highest w) end))
range h = le (fits_low h) & le (fits_high h)

pub box : {x y a b c d : ℤ} → a ≤ℤ x → x ≤ℤ b → c ≤ℤ y → y ≤ℤ d → Facts (Box x y a b c d)
box h k i j = le (≤ℤ-mul h i) & le (≤ℤ-mul h j) & le (≤ℤ-mul k i) & le (≤ℤ-mul k j)

pub ruleset machine = (fit, linear, read_back)

in_range_lem : (H : ℕ) (z : ℤ) → neg_ℤ (pos H) ≤ℤ z → (z +ℤ pos 1) ≤ℤ pos H → mag z < H
in_range_lem H (pos n) h k = let j : n + 1 ≤ H = leb→le (n + 1) H k.le in omega arith
in_range_lem zero (negsuc n) h k = absurd h.le
in_range_lem (suc H) (negsuc n) h k = let j : n ≤ H = leb→le n H h.le in omega arith

pub linfits : {Γ : Ineqs} {z : ℤ} {w : Width} (ρ : List ℤ) → Facts Γ → (s : Fit ρ Γ z) → SureFit w s → SFits w z
linfits {Γ} {z} {w} ρ f (fit hs p) t =
    record { sfits = in_range_lem (2 ^ hbits w) z (≤_of_refuted f.all hs (bottom w) p t.0) (≤_of_refuted f.all hs (next p) (top w) t.1) }

-- ---- a comparison of two values that fit
test_back : (test : ℤ → ℤ → Bool) {w : Width} {b : Bool} (x y : ℤ) → SFits w x → SFits w y → test (to_z w (of_z w x)) (to_z w (of_z w y)) ≡ b → test x y ≡ b
test_back test x y f g e = ap₂ test (sym (to_z-of_z f)) (sym (to_z-of_z g)) ∙ e

pub taken≤ : {w : Width} (x y : ℤ) → SFits w x → SFits w y → le_z (to_z w (of_z w x)) (to_z w (of_z w y)) ≡ true → x ≤ℤ y
taken≤ x y f g e = le_z-true (test_back le_z x y f g e)

pub left≤ : {w : Width} (x y : ℤ) → SFits w x → SFits w y → le_z (to_z w (of_z w x)) (to_z w (of_z w y)) ≡ false → y <ℤ x
left≤ x y f g e = le_z-false (test_back le_z x y f g e)

pub taken< : {w : Width} (x y : ℤ) → SFits w x → SFits w y → lt_z (to_z w (of_z w x)) (to_z w (of_z w y)) ≡ true → x <ℤ y
taken< x y f g e = lt_z-true (test_back lt_z x y f g e)

pub left< : {w : Width} (x y : ℤ) → SFits w x → SFits w y → lt_z (to_z w (of_z w x)) (to_z w (of_z w y)) ≡ false → y ≤ℤ x
left< x y f g e = lt_z-false (test_back lt_z x y f g e)

-- The order that a test in the code gives: `search tests`, with the `SFits` of both sides in scope. It does not matter whether the code's test is ≤ or <,
-- so where a test is made too weak, what is refused is the order that no longer follows.
pub ruleset tests = (taken≤, left≤, taken<, left<, ≤ℤ_of_<ℤ)
