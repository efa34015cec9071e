-- Laws of what specs/Tests.antt defines. The head of that file lists the main results.
use Rattle.std.specs.Prelude.{◌≡◌, refl, List, [], ◌∷◌, ◌↔◌, ◌⊎◌, Bool, true, false, ◌&&◌, ◌||◌, ℕ, ◌<◌, ◌≤◌, T, eqb, leb, ltb, ℤ, neg_ℤ, ◌≤ℤ◌}
use Rattle.std.proofs.Common.{sym, inl, inr, ⊎_elim, true≢false, eqb-true, leb-true, ltb-true, eq-eqb, le-leb, lt-ltb}
use Rattle.std.specs.Int.Signed.{le_z}
use Rattle.integers.proofs.Theorems.Order.{le_z-true}
use Rattle.integers.proofs.Theorems.Ring.{read, ring}
use Rattle.integers.specs.Within.{Within}
use Rattle.integers.proofs.Theorems.Within.{within_is, within_neg}
use Rattle.integers.specs.ListSum.{All}
use Rattle.integers.specs.Tests.{OneOf, between, every, one_of}

-- ---- equality and order
pub eqb_means : (a b : ℕ) → (eqb a b ≡ true) ↔ (a ≡ b)
eqb_means a b = (eqb-true a b, eq-eqb a b)

pub leb_means : (a b : ℕ) → (leb a b ≡ true) ↔ (a ≤ b)
leb_means a b = (leb-true a b, le-leb a b)

pub ltb_means : (a b : ℕ) → (ltb a b ≡ true) ↔ (a < b)
ltb_means a b = (ltb-true a b, lt-ltb a b)

is_true : (t : Bool) → T t → t ≡ true
is_true true h = refl
is_true false h = absurd h

pub le_z_means : (a b : ℤ) → (le_z a b ≡ true) ↔ (a ≤ℤ b)
le_z_means a b = (λ e. le_z-true e, λ h. is_true (le_z a b) h.le)

-- ---- more than one test
pub and_means : (a b : Bool) {P Q : Type 0} → ((a ≡ true) ↔ P) → ((b ≡ true) ↔ Q) → ((a && b) ≡ true) ↔ (P × Q)
and_means true b p q = (λ e. (p.0 refl, q.0 e), λ h. q.1 h.1)
and_means false b p q = (λ e. absurd (true≢false (sym e)), λ h. p.1 h.0)

pub and_true_means : (a b : Bool) → ((a && b) ≡ true) ↔ ((a ≡ true) × (b ≡ true))
and_true_means a b = and_means a b (λ e. e, λ e. e) (λ e. e, λ e. e)

pub every_means : {A : Type 0} (test : A → Bool) {P : A → Type 0} → ((a : A) → (test a ≡ true) ↔ P a) → (l : List A) → (every test l ≡ true) ↔ All P l
every_means test p [] = (λ _. tt, λ _. refl)
every_means test p (a ∷ l) = and_means (test a) (every test l) (p a) (every_means test p l)

pub between_means : (low high z : ℤ) → (between low high z ≡ true) ↔ ((low ≤ℤ z) × (z ≤ℤ high))
between_means low high z = and_means (le_z low z) (le_z z high) (le_z_means low z) (le_z_means z high)

pub within_means : (b z : ℤ) → (between (neg_ℤ b) b z ≡ true) ↔ Within b z
within_means b z = let m = between_means (neg_ℤ b) b z in (λ e. record { low = (m.0 e).0; high = (m.0 e).1 }, λ w. m.1 (w.low, w.high))

or_means : (a b : Bool) {P Q : Type 0} → ((a ≡ true) ↔ P) → ((b ≡ true) ↔ Q) → ((a || b) ≡ true) ↔ (P ⊎ Q)
or_means true b p q = (λ _. inl (p.0 refl), λ _. refl)
or_means false b p q = (λ e. inr (q.0 e), λ h. ⊎_elim (λ x. absurd (true≢false (sym (p.1 x)))) q.1 h)

pub one_of_means : (n : ℕ) (l : List ℕ) → (one_of n l ≡ true) ↔ OneOf n l
one_of_means n [] = (λ e. absurd (true≢false (sym e)), λ h. absurd h)
one_of_means n (m ∷ l) = or_means (eqb n m) (one_of n l) (eqb_means n m) (one_of_means n l)

pub no_means : (b : Bool) {P : Type 0} → ((b ≡ true) ↔ P) → (b ≡ false) ↔ (P → ⊥)
no_means true p = (λ e. absurd (true≢false e), λ h. absurd (h (p.0 refl)))
no_means false p = (λ _ h. true≢false (sym (p.1 h)), λ _. refl)

pub same_means : (a b : Bool) {P : Type 0} → ((a ≡ true) ↔ P) → ((b ≡ true) ↔ P) → a ≡ b
same_means true b p q = sym (q.1 (p.0 refl))
same_means false true p q = p.1 (q.0 refl)
same_means false false p q = refl

pub within_neg_same : (b z : ℤ) → between (neg_ℤ b) b (neg_ℤ z) ≡ between (neg_ℤ b) b z
within_neg_same b z =
    let m = within_means b (neg_ℤ z) in
    let back : neg_ℤ (neg_ℤ z) ≡ z = ring (z ∷ []) (search read depth 40) tt in
    same_means (between (neg_ℤ b) b (neg_ℤ z)) (between (neg_ℤ b) b z) (λ e. within_is refl back (within_neg (m.0 e)), λ w. m.1 (within_neg w)) (within_means b z)
