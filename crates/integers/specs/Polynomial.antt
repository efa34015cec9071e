-- Integer polynomials in a normal form, so that two expressions are equal where their difference comes to nothing.
--
-- An expression `Expr` over numbered variables is brought to a polynomial: a list of terms, each a coefficient and a monomial, and a monomial
-- is the sorted list of its variables' numbers. `Vanishes` of a polynomial computes to `Unit` where every coefficient is 0, so the proof of an
-- equation is `tt`. Nothing is proved of the sorting: terms that it left apart would cost a proof, and could not make a wrong one.
--
-- Main results (the laws among them are in proofs/Theorems/Polynomial.antt)
--   eval_normal     an expression and its polynomial have the same value
--   eval_scale      the value of c · m · p + q, by which `Elimination` multiplies inequalities
--   same_value      expressions whose difference vanishes have the same value
use Rattle.std.specs.Prelude.{List, [], ◌∷◌, ℤ, pos, negsuc, neg_ℤ, ◌+ℤ◌, ◌*ℤ◌}
use Prim.Native.Nat.{ℕ, zero, suc, compare, Ordering}

-- ---- expressions, and their values where the variables have the values ρ
infixl 6 ◌⊞◌ ◌⊟◌
infixl 7 ◌⊠◌
pub data Expr : Type 0 where
  var : ℕ → Expr
  lit : ℤ → Expr
  ◌⊞◌ ◌⊠◌ : Expr → Expr → Expr
  ⊖◌ : Expr → Expr

abbrev pub ◌⊟◌ : Expr → Expr → Expr
a ⊟ b = a ⊞ ⊖◌ b

abbrev pub nth : List ℤ → ℕ → ℤ
nth [] i = pos 0
nth (x ∷ ρ) zero = x
nth (x ∷ ρ) (suc i) = nth ρ i

abbrev pub ⟦◌⟧ : Expr → List ℤ → ℤ
⟦◌⟧ (var i) ρ = nth ρ i
⟦◌⟧ (lit k) ρ = k
⟦◌⟧ (a ⊞ b) ρ = ⟦◌⟧ a ρ +ℤ ⟦◌⟧ b ρ
⟦◌⟧ (a ⊠ b) ρ = ⟦◌⟧ a ρ *ℤ ⟦◌⟧ b ρ
⟦◌⟧ (⊖◌ a) ρ = neg_ℤ (⟦◌⟧ a ρ)

-- ---- monomials
abbrev pub Monomial : Type 0
Monomial = List ℕ

abbrev pub eval_m : Monomial → List ℤ → ℤ
eval_m [] ρ = pos 1
eval_m (i ∷ m) ρ = nth ρ i *ℤ eval_m m ρ

-- The functions below go by an `Ordering` that is an argument, since clauses compute where a test inside a term would not.
abbrev pub put_var : Ordering → ℕ → ℕ → Monomial → Monomial → Monomial
put_var Ordering.lt i j m r = i ∷ j ∷ m
put_var Ordering.eq i j m r = i ∷ j ∷ m
put_var Ordering.gt i j m r = j ∷ r

abbrev pub insert_var : ℕ → Monomial → Monomial
insert_var i [] = i ∷ []
insert_var i (j ∷ m) = put_var (compare i j) i j m (insert_var i m)

abbrev pub mul_m : Monomial → Monomial → Monomial
mul_m [] n = n
mul_m (i ∷ m) n = insert_var i (mul_m m n)

abbrev pub then : Ordering → Ordering → Ordering
then Ordering.lt o = Ordering.lt
then Ordering.eq o = o
then Ordering.gt o = Ordering.gt

abbrev pub compare_m : Monomial → Monomial → Ordering
compare_m [] [] = Ordering.eq
compare_m [] (j ∷ n) = Ordering.lt
compare_m (i ∷ m) [] = Ordering.gt
compare_m (i ∷ m) (j ∷ n) = then (compare i j) (compare_m m n)

-- ---- polynomials
pub data Polynomial : Type 0 where
  nil : Polynomial
  term : ℤ → Monomial → Polynomial → Polynomial

abbrev pub eval_p : Polynomial → List ℤ → ℤ
eval_p nil ρ = pos 0
eval_p (term c m p) ρ = c *ℤ eval_m m ρ +ℤ eval_p p ρ

abbrev pub put_term : Ordering → ℤ → Monomial → ℤ → Monomial → Polynomial → Polynomial → Polynomial
put_term Ordering.lt c m d n p r = term c m (term d n p)
put_term Ordering.eq c m d n p r = term (c +ℤ d) n p
put_term Ordering.gt c m d n p r = term d n r

abbrev pub insert_term : ℤ → Monomial → Polynomial → Polynomial
insert_term c m nil = term c m nil
insert_term c m (term d n p) = put_term (compare_m m n) c m d n p (insert_term c m p)

abbrev pub add_p : Polynomial → Polynomial → Polynomial
add_p nil q = q
add_p (term c m p) q = insert_term c m (add_p p q)

-- c · m · p + q
abbrev pub scale_p : ℤ → Monomial → Polynomial → Polynomial → Polynomial
scale_p c m nil q = q
scale_p c m (term d n p) q = insert_term (c *ℤ d) (mul_m m n) (scale_p c m p q)

abbrev pub mul_p : Polynomial → Polynomial → Polynomial
mul_p nil q = nil
mul_p (term c m p) q = scale_p c m q (mul_p p q)

abbrev pub neg_p : Polynomial → Polynomial
neg_p nil = nil
neg_p (term c m p) = term (neg_ℤ c) m (neg_p p)

-- ---- an expression's polynomial
abbrev pub normal : Expr → Polynomial
normal (var i) = term (pos 1) (i ∷ []) nil
normal (lit k) = term k [] nil
normal (a ⊞ b) = add_p (normal a) (normal b)
normal (a ⊠ b) = mul_p (normal a) (normal b)
normal (⊖◌ a) = neg_p (normal a)

-- ---- every coefficient is 0
-- an empty type: where `ring` is refused, the check prints it with the terms that do not cancel
pub data Uncancelled : Polynomial → Type 0 where

abbrev pub IfZero : ℤ → Monomial → Polynomial → Type 0 → Type 0
IfZero (pos zero) m p X = X
IfZero (pos (suc n)) m p X = Uncancelled (term (pos (suc n)) m p)
IfZero (negsuc n) m p X = Uncancelled (term (negsuc n) m p)

abbrev pub Vanishes : Polynomial → Type 0
Vanishes nil = Unit {0}
Vanishes (term c m p) = IfZero c m p (Vanishes p)

abbrev pub Same : Expr → Expr → Type 0
Same a b = Vanishes (normal (a ⊟ b))
