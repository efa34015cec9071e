-- Linear arithmetic on ℤ: `lin≤`, `lin<`, `lin≡`, `lin⊥`, which read goal and facts themselves.
--
-- Main results (the laws among them are in proofs/Theorems/Linear.antt)
--   lin≤ (x ∷ y ∷ []) (le h & lt k & eq e) (search linear depth 40) tt            a ≤ b, from facts
--   lin< ρ FACTS (search linear depth 40) tt                                      a < b
--   lin≡ ρ FACTS (search linear depth 40) (tt, tt)                                a = b, each side at most the other
--   lin⊥ ρ FACTS (search linear depth 40) tt                                      anything, from facts that cannot all hold
-- The list names the atoms, as for `ring`. FACTS are `none!`, or inequalities `le h`, strict ones `lt h` and equations `eq e`, joined by `&`.
-- A product of atoms is an unknown like any other, so what is known of it goes in as a fact: `le (≤ℤ-mul h k)`, `le (≤ℤ-square x)`.
-- Where there are too many facts to eliminate, a sum of multiples by hand is one: `le (2 · h ⊹ 3 · k)`. `Tour` has each at work.
--
-- How it goes: the goal's negation joins the facts, and `Elimination` refutes them together. So a fact that is not needed costs time alone.
use Rattle.std.specs.Prelude.{List, [], ◌∷◌, ℕ, ℤ, pos, ◌+ℤ◌, ◌≤ℤ◌}
use Rattle.integers.specs.Polynomial.{◌⊟◌, Polynomial, normal}
use Rattle.integers.specs.Ring.{Reads, read_add, read_pos, expr}
use Rattle.integers.specs.Elimination.{tidy, Refuted, eliminate}

-- How many monomials may be eliminated in one call: the elimination recurses on this number, and so ends. It is room for the sixteen atoms that
-- `read` has lemmas for and for fourteen products of them; a goal that is refused with more unknowns than that wants it raised.
abbrev pub rounds : ℕ
rounds = 30

-- ---- facts: a list of inequalities, with their proofs
pub data Ineqs : Type 0 where
  end : Ineqs
  more : ℤ → ℤ → Ineqs → Ineqs

infixr 5 ◌++ᵢ◌
abbrev pub ◌++ᵢ◌ : Ineqs → Ineqs → Ineqs
end ++ᵢ Δ = Δ
(more a b Γ) ++ᵢ Δ = more a b (Γ ++ᵢ Δ)

abbrev pub AllHold : Ineqs → Type 0
AllHold end = Unit {0}
AllHold (more a b Γ) = (a ≤ℤ b) × AllHold Γ

-- a record, so that Γ is found from a value of it
pub record Facts (Γ : Ineqs) : Type 0 where
  pub all : AllHold Γ

-- ---- facts and goal, as polynomials
pub data Hyps (ρ : List ℤ) : Ineqs → Type 0 where
  no_hyp : Hyps ρ end
  hyp : {a b : ℤ} {Γ : Ineqs} → Reads ρ a → Reads ρ b → Hyps ρ Γ → Hyps ρ (more a b Γ)

pub data Task (ρ : List ℤ) (Γ : Ineqs) (a b : ℤ) : Type 0 where
  task : Hyps ρ Γ → Reads ρ a → Reads ρ b → Task ρ Γ a b

-- what a ≤ b says is at least 0: b − a
abbrev pub excess : {ρ : List ℤ} {a b : ℤ} → Reads ρ a → Reads ρ b → Polynomial
excess p q = tidy (normal (expr q ⊟ expr p))

abbrev pub polynomials : {ρ : List ℤ} {Γ : Ineqs} → Hyps ρ Γ → List Polynomial
polynomials no_hyp = []
polynomials (hyp p q hs) = excess p q ∷ polynomials hs

abbrev pub next : {ρ : List ℤ} {a : ℤ} → Reads ρ a → Reads ρ (a +ℤ pos 1)
next p = read_add p (read_pos 1 tt)

-- ---- the goals. The negation of a ≤ b is b + 1 ≤ a, and that of a < b is b ≤ a.
abbrev pub Refutes≤ : {ρ : List ℤ} {Γ : Ineqs} {a b : ℤ} → Hyps ρ Γ → Reads ρ a → Reads ρ b → Type 0
Refutes≤ hs p q = Refuted (eliminate rounds (excess (next q) p ∷ polynomials hs))

abbrev pub Refutes< : {ρ : List ℤ} {Γ : Ineqs} {a b : ℤ} → Hyps ρ Γ → Reads ρ a → Reads ρ b → Type 0
Refutes< hs p q = Refuted (eliminate rounds (excess q p ∷ polynomials hs))

abbrev pub Sure≤ : {ρ : List ℤ} {Γ : Ineqs} {a b : ℤ} → Task ρ Γ a b → Type 0
Sure≤ (task hs p q) = Refutes≤ hs p q

abbrev pub Sure< : {ρ : List ℤ} {Γ : Ineqs} {a b : ℤ} → Task ρ Γ a b → Type 0
Sure< (task hs p q) = Refutes< hs p q

abbrev pub Sure≡ : {ρ : List ℤ} {Γ : Ineqs} {a b : ℤ} → Task ρ Γ a b → Type 0
Sure≡ (task hs p q) = Refutes≤ hs p q × Refutes≤ hs q p
