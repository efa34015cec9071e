-- Laws of what specs/Linear.antt defines. The head of that file lists the main results.
use Rattle.std.specs.Prelude.{◌≡◌, List, [], ◌∷◌, ◌⊎◌, ℕ, ℤ, pos, ◌+ℤ◌, ◌-ℤ◌, ◌*ℤ◌, ◌≤ℤ◌, ◌<ℤ◌}
use Rattle.std.proofs.Common.{sym, ◌∙◌, ap₂, subst, inl, inr}
use Rattle.integers.specs.Polynomial.{◌⊟◌, eval_p, normal}
use Rattle.integers.proofs.Theorems.Polynomial.{eval_normal}
use Rattle.integers.specs.Ring.{Reads, expr}
use Rattle.integers.proofs.Theorems.Ring.{expr_value, read, comb}
use Rattle.integers.specs.Order.{Gap}
use Rattle.integers.proofs.Theorems.Order.{≤ℤ-gap, gap-≤ℤ, add_one_≤ℤ, ≤ℤ_or_<ℤ, ≤ℤ-add, ≤ℤ_scale, ≤ℤ_antisym, ≤ℤ_of_≡}
use Rattle.integers.specs.Elimination.{Refuted, eliminate, Hold}
use Rattle.integers.proofs.Theorems.Elimination.{eval_tidy, eliminate_sound}
use Rattle.integers.specs.Linear.{AllHold, Facts, Hyps, Ineqs, Refutes<, Refutes≤, Sure<, Sure≡, Sure≤, Task, end, excess, hyp, more, next, no_hyp, polynomials, rounds, task, ◌++ᵢ◌}

join : (Γ Δ : Ineqs) → AllHold Γ → AllHold Δ → AllHold (Γ ++ᵢ Δ)
join end Δ p q = q
join (more a b Γ) Δ p q = (p.0, join Γ Δ p.1 q)

pub none! : Facts end
none! = record { all = tt }

pub le : {a b : ℤ} → a ≤ℤ b → Facts (more a b end)
le h = record { all = (h, tt) }

pub lt : {a b : ℤ} → a <ℤ b → Facts (more (a +ℤ pos 1) b end)
lt h = record { all = (add_one_≤ℤ h, tt) }

pub eq : {a b : ℤ} → a ≡ b → Facts (more a b (more b a end))
eq e = record { all = (≤ℤ_of_≡ e, (≤ℤ_of_≡ (sym e), tt)) }

infixr 5 ◌&◌
pub ◌&◌ : {Γ Δ : Ineqs} → Facts Γ → Facts Δ → Facts (Γ ++ᵢ Δ)
◌&◌ {Γ} {Δ} p q = record { all = join Γ Δ p.all q.all }

pub ruleset linear = (task, hyp, no_hyp, read)

sub_nonneg : {a b : ℤ} → a ≤ℤ b → pos 0 ≤ℤ (b -ℤ a)
sub_nonneg {a} {b} h = go (≤ℤ-gap h)
  where
    go : Gap a b → pos 0 ≤ℤ (b -ℤ a)
    go p = gap-≤ℤ p.0 (comb (a ∷ b ∷ pos p.0 ∷ []) p.1 (search read depth 40) tt)

excess-holds : {ρ : List ℤ} {a b : ℤ} (p : Reads ρ a) (q : Reads ρ b) → a ≤ℤ b → pos 0 ≤ℤ eval_p (excess p q) ρ
excess-holds {ρ} p q h =
    subst (λ x. pos 0 ≤ℤ x)
    (sym (ap₂ ◌-ℤ◌ (expr_value q) (expr_value p)) ∙ eval_normal (expr q ⊟ expr p) ρ ∙ sym (eval_tidy (normal (expr q ⊟ expr p)) ρ)) (sub_nonneg h)

polynomials_hold : {ρ : List ℤ} {Γ : Ineqs} (hs : Hyps ρ Γ) → AllHold Γ → Hold ρ (polynomials hs)
polynomials_hold no_hyp f = tt
polynomials_hold (hyp p q hs) f = (excess-holds p q f.0, polynomials_hold hs f.1)

pub ≤_of_refuted : {ρ : List ℤ} {Γ : Ineqs} {a b : ℤ} → AllHold Γ → (hs : Hyps ρ Γ) (p : Reads ρ a) (q : Reads ρ b) → Refutes≤ hs p q → a ≤ℤ b
≤_of_refuted {ρ} {Γ} {a} {b} f hs p q t = go (≤ℤ_or_<ℤ a b)
  where
    go : (a ≤ℤ b) ⊎ (b <ℤ a) → a ≤ℤ b
    go (inl h) = h
    go (inr h) = absurd (eliminate_sound ρ rounds (excess (next q) p ∷ polynomials hs) (excess-holds (next q) p (add_one_≤ℤ h), polynomials_hold hs f) t)

<_of_refuted : {ρ : List ℤ} {Γ : Ineqs} {a b : ℤ} → AllHold Γ → (hs : Hyps ρ Γ) (p : Reads ρ a) (q : Reads ρ b) → Refutes< hs p q → a <ℤ b
<_of_refuted {ρ} {Γ} {a} {b} f hs p q t = go (≤ℤ_or_<ℤ b a)
  where
    go : (b ≤ℤ a) ⊎ (a <ℤ b) → a <ℤ b
    go (inr h) = h
    go (inl h) = absurd (eliminate_sound ρ rounds (excess q p ∷ polynomials hs) (excess-holds q p h, polynomials_hold hs f) t)

pub lin≤ : {Γ : Ineqs} {a b : ℤ} (ρ : List ℤ) → Facts Γ → (s : Task ρ Γ a b) → Sure≤ s → a ≤ℤ b
lin≤ ρ f (task hs p q) t = ≤_of_refuted f.all hs p q t

pub lin< : {Γ : Ineqs} {a b : ℤ} (ρ : List ℤ) → Facts Γ → (s : Task ρ Γ a b) → Sure< s → a <ℤ b
lin< ρ f (task hs p q) t = <_of_refuted f.all hs p q t

pub lin≡ : {Γ : Ineqs} {a b : ℤ} (ρ : List ℤ) → Facts Γ → (s : Task ρ Γ a b) → Sure≡ s → a ≡ b
lin≡ ρ f (task hs p q) t = ≤ℤ_antisym (≤_of_refuted f.all hs p q t.0) (≤_of_refuted f.all hs q p t.1)

pub lin⊥ {ℓ} : {X : Type ℓ} {Γ : Ineqs} (ρ : List ℤ) → Facts Γ → (s : Hyps ρ Γ) → Refuted (eliminate rounds (polynomials s)) → X
lin⊥ ρ f s t = absurd (eliminate_sound ρ rounds (polynomials s) (polynomials_hold s f.all) t)

-- ---- a weighted sum of facts, as one fact: `≤ℤ-add` and `≤ℤ_scale`, written as sums are
infixl 6 ◌⊹◌
infixr 7 ◌·◌
pub ◌⊹◌ : {a b c d : ℤ} → a ≤ℤ b → c ≤ℤ d → (a +ℤ c) ≤ℤ (b +ℤ d)
h ⊹ k = ≤ℤ-add h k

pub ◌·◌ : {a b : ℤ} (n : ℕ) → a ≤ℤ b → (pos n *ℤ a) ≤ℤ (pos n *ℤ b)
n · h = ≤ℤ_scale n h
