-- Fourier and Motzkin's elimination: that some inequalities between polynomials cannot all hold.
--
-- Each monomial counts as an unknown. A fact is a polynomial that is at least 0. To eliminate a monomial, each fact in which its coefficient
-- is positive is added to each in which it is negative, both multiplied so that it cancels; facts without it are kept. The facts are
-- absurd where a negative constant is left. Of the monomials of the first fact that has any, the one that makes the
-- fewest new facts goes first.
--
-- Main results (the laws among them are in proofs/Theorems/Elimination.antt)
--   eliminate           the elimination, which computes
--   eliminate_sound     facts that it refutes do not all hold
use Rattle.std.specs.Prelude.{List, [], ◌∷◌, Bool, true, false, ◌||◌, leb, ℤ, pos, negsuc, nat_abs, ◌≤ℤ◌}
use Rattle.std.proofs.Math.Option.{Option, none, some}
use Prim.Native.Nat.{ℕ, zero, suc, ◌*◌, Ordering}
use Rattle.integers.specs.Polynomial.{Monomial, Polynomial, nil, term, compare_m, eval_p, scale_p}

-- ---- polynomials without terms that are 0
abbrev pub keep : ℤ → Monomial → Polynomial → Polynomial
keep (pos zero) m p = p
keep (pos (suc n)) m p = term (pos (suc n)) m p
keep (negsuc n) m p = term (negsuc n) m p

abbrev pub tidy : Polynomial → Polynomial
tidy nil = nil
tidy (term c m p) = keep c m (tidy p)

-- ---- one monomial eliminated
abbrev pick : Ordering → ℤ → ℤ → ℤ
pick Ordering.lt c d = d
pick Ordering.eq c d = c
pick Ordering.gt c d = d

abbrev pub coefficient : Monomial → Polynomial → ℤ
coefficient m nil = pos 0
coefficient m (term c n p) = pick (compare_m m n) c (coefficient m p)

abbrev pub is_positive : ℤ → Bool
is_positive (pos zero) = false
is_positive (pos (suc n)) = true
is_positive (negsuc n) = false

abbrev pub is_negative : ℤ → Bool
is_negative (pos n) = false
is_negative (negsuc n) = true

abbrev pub is_zero : ℤ → Bool
is_zero (pos zero) = true
is_zero (pos (suc n)) = false
is_zero (negsuc n) = false

abbrev pub cons_if : Bool → Polynomial → List Polynomial → List Polynomial
cons_if true p ps = p ∷ ps
cons_if false p ps = ps

-- the facts in which m's coefficient passes the test
abbrev pub filter : (ℤ → Bool) → Monomial → List Polynomial → List Polynomial
filter f m [] = []
filter f m (p ∷ ps) = cons_if (f (coefficient m p)) p (filter f m ps)

-- p and q, in which m has opposite signs, added so that m cancels
abbrev pub cancel : Monomial → Polynomial → Polynomial → Polynomial
cancel m p q = tidy (scale_p (pos (nat_abs (coefficient m q))) [] p (scale_p (pos (nat_abs (coefficient m p))) [] q nil))

abbrev pub with_each : Monomial → Polynomial → List Polynomial → List Polynomial → List Polynomial
with_each m p [] rs = rs
with_each m p (q ∷ qs) rs = cancel m p q ∷ with_each m p qs rs

abbrev pub pairs : Monomial → List Polynomial → List Polynomial → List Polynomial → List Polynomial
pairs m [] qs rs = rs
pairs m (p ∷ ps) qs rs = with_each m p qs (pairs m ps qs rs)

abbrev pub step : Monomial → List Polynomial → List Polynomial
step m ps = pairs m (filter is_positive m ps) (filter is_negative m ps) (filter is_zero m ps)

-- ---- which monomial next: the one that makes the fewest new facts, of those in the first fact that has any
abbrev count : List Polynomial → ℕ
count [] = 0
count (p ∷ ps) = suc (count ps)

abbrev cost : Monomial → List Polynomial → ℕ
cost m ps = count (filter is_positive m ps) * count (filter is_negative m ps)

pub record Choice : Type 0 where
  pub monomial : Monomial
  pub facts : ℕ

abbrev better : Bool → Choice → Choice → Choice
better true a b = a
better false a b = b

abbrev cheaper : Choice → Option Choice → Option Choice
cheaper a none = some a
cheaper a (some b) = some (better (leb a.facts b.facts) a b)

abbrev cheapest : List Polynomial → Polynomial → Option Choice
cheapest ps nil = none
cheapest ps (term c [] p) = cheapest ps p
cheapest ps (term c (i ∷ m) p) = cheaper (record { monomial = i ∷ m; facts = cost (i ∷ m) ps }) (cheapest ps p)

abbrev pivot_in : List Polynomial → List Polynomial → Option Monomial
pivot_in all [] = none
pivot_in all (p ∷ ps) = elim (cheapest all p) [ none ↦ pivot_in all ps | some m ↦ some m.monomial ]

abbrev pub pivot : List Polynomial → Option Monomial
pivot ps = pivot_in ps ps

-- ---- the elimination, in at most as many rounds as its first argument
abbrev pub negative : Polynomial → Bool
negative nil = false
negative (term (pos n) m p) = false
negative (term (negsuc n) [] nil) = true
negative (term (negsuc n) [] (term d m p)) = false
negative (term (negsuc n) (i ∷ m) p) = false

abbrev pub refuted : List Polynomial → Bool
refuted [] = false
refuted (p ∷ ps) = negative p || refuted ps

pub data Result : Type 0 where
  refuted! : Result
  stuck : List Polynomial → Result

-- an empty type: where a `lin` is refused, the check prints it with the facts that are left
pub data Stuck : List Polynomial → Type 0 where

abbrev pub Refuted : Result → Type 0
Refuted refuted! = Unit {0}
Refuted (stuck ps) = Stuck ps

abbrev pub eliminate : ℕ → List Polynomial → Result
eliminate zero ps = elim (refuted ps) [ true ↦ refuted! | false ↦ stuck ps ]
eliminate (suc k) ps = elim (refuted ps) [ true ↦ refuted! | false ↦ elim (pivot ps) [ none ↦ stuck ps | some m ↦ eliminate k (step m ps) ] ]

-- ---- it is sound: facts that hold still hold after a round, and a negative constant never holds
abbrev pub Hold : List ℤ → List Polynomial → Type 0
Hold ρ [] = Unit {0}
Hold ρ (p ∷ ps) = (pos 0 ≤ℤ eval_p p ρ) × Hold ρ ps
