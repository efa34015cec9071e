-- `ring` and `comb`: equations of integer polynomials, read off the goal.
--
-- Main results (the laws among them are in proofs/Theorems/Ring.antt)
--   ring (x ∷ y ∷ []) (search read depth 40) tt                 a = b, where both are sums and products of the atoms listed
--   comb (x ∷ y ∷ []) (e ⊕ k ⊗ f) (search read depth 40) tt     a = b, where a − b is the difference of the given equation's sides
-- The list names the atoms: any terms of type ℤ, at most sixteen, in any order. What is no sum, difference, product, negation,
-- numeral or successor is an atom, `pos n` for an open n too. `depth 40` is how deep an expression may nest, and generous; without it `search` stops at
-- five. `Tour` has each at work.
--
-- How a goal is read. `Reads ρ z` holds an expression whose value at ρ is z. There is one lemma for each operation, and the library's
-- `search` applies them backwards from the goal, so the expression is found and not written.
use Rattle.std.specs.Prelude.{◌≡◌, refl, List, ◌∷◌, ℕ, suc, ◌+◌, ◌*◌, T, eqb, ℤ, pos, negsuc, neg_ℤ, ◌+ℤ◌, ◌*ℤ◌}
use Rattle.std.proofs.Common.{◌∙◌, ap, ap₂, add-one}
use Rattle.integers.specs.Polynomial.{Expr, var, lit, ◌⊞◌, ◌⊠◌, ⊖◌, ⟦◌⟧, Same}

pub data Reads (ρ : List ℤ) (z : ℤ) : Type 0 where
  reads : (e : Expr) → ⟦◌⟧ e ρ ≡ z → Reads ρ z

abbrev pub expr : {ρ : List ℤ} {z : ℤ} → Reads ρ z → Expr
expr (reads e p) = e

-- ---- an operation
abbrev pub read_add : {ρ : List ℤ} {a b : ℤ} → Reads ρ a → Reads ρ b → Reads ρ (a +ℤ b)
read_add (reads e p) (reads f q) = reads (e ⊞ f) (ap₂ ◌+ℤ◌ p q)

abbrev pub read_mul : {ρ : List ℤ} {a b : ℤ} → Reads ρ a → Reads ρ b → Reads ρ (a *ℤ b)
read_mul (reads e p) (reads f q) = reads (e ⊠ f) (ap₂ ◌*ℤ◌ p q)

abbrev pub read_neg : {ρ : List ℤ} {a : ℤ} → Reads ρ a → Reads ρ (neg_ℤ a)
read_neg (reads e p) = reads (⊖◌ e) (ap neg_ℤ p)

-- ---- a numeral: the premise computes to `Unit` at digits, and is stuck at an open number
abbrev pub read_pos : {ρ : List ℤ} (n : ℕ) → T (eqb n n) → Reads ρ (pos n)
read_pos n t = reads (lit (pos n)) refl

abbrev pub read_negsuc : {ρ : List ℤ} (n : ℕ) → T (eqb n n) → Reads ρ (negsuc n)
read_negsuc n t = reads (lit (negsuc n)) refl

abbrev pub read_unit : Unit {0}
read_unit = tt

-- ---- sums, products and successors of open natural numbers, which stand under `pos`
abbrev pub read_pos-add : {ρ : List ℤ} {a b : ℕ} → Reads ρ (pos a) → Reads ρ (pos b) → Reads ρ (pos (a + b))
read_pos-add (reads e p) (reads f q) = reads (e ⊞ f) (ap₂ ◌+ℤ◌ p q)

abbrev pub read_pos-mul : {ρ : List ℤ} {a b : ℕ} → Reads ρ (pos a) → Reads ρ (pos b) → Reads ρ (pos (a * b))
read_pos-mul (reads e p) (reads f q) = reads (e ⊠ f) (ap₂ ◌*ℤ◌ p q)

abbrev pub read_pos-suc : {ρ : List ℤ} {a : ℕ} → Reads ρ (pos a) → Reads ρ (pos (suc a))
read_pos-suc (reads e p) = reads (e ⊞ lit (pos 1)) (ap (λ x. x +ℤ pos 1) p ∙ ap pos (add-one _))

abbrev pub read_negsuc_open : {ρ : List ℤ} {a : ℕ} → Reads ρ (pos a) → Reads ρ (negsuc a)
read_negsuc_open (reads e p) = reads (⊖◌ (e ⊞ lit (pos 1))) (ap (λ x. neg_ℤ (x +ℤ pos 1)) p ∙ ap (λ (x : ℕ). neg_ℤ (pos x)) (add-one _))

-- ---- an atom, by its place in the list: a lemma for each place. One for the first place and one for the rest would do, but `search` would count
-- each place that it passes as a lemma, and meet its bound of 1,000 on larger goals unless every call raised it. A seventeenth atom is one more
-- lemma here and one more name in `read`.
abbrev pub atom0 : {x : ℤ} {ρ : List ℤ} → Reads (x ∷ ρ) x
atom0 = reads (var 0) refl

abbrev pub atom1 : {a0 x : ℤ} {ρ : List ℤ} → Reads (a0 ∷ x ∷ ρ) x
atom1 = reads (var 1) refl

abbrev pub atom2 : {a0 a1 x : ℤ} {ρ : List ℤ} → Reads (a0 ∷ a1 ∷ x ∷ ρ) x
atom2 = reads (var 2) refl

abbrev pub atom3 : {a0 a1 a2 x : ℤ} {ρ : List ℤ} → Reads (a0 ∷ a1 ∷ a2 ∷ x ∷ ρ) x
atom3 = reads (var 3) refl

abbrev pub atom4 : {a0 a1 a2 a3 x : ℤ} {ρ : List ℤ} → Reads (a0 ∷ a1 ∷ a2 ∷ a3 ∷ x ∷ ρ) x
atom4 = reads (var 4) refl

abbrev pub atom5 : {a0 a1 a2 a3 a4 x : ℤ} {ρ : List ℤ} → Reads (a0 ∷ a1 ∷ a2 ∷ a3 ∷ a4 ∷ x ∷ ρ) x
atom5 = reads (var 5) refl

abbrev pub atom6 : {a0 a1 a2 a3 a4 a5 x : ℤ} {ρ : List ℤ} → Reads (a0 ∷ a1 ∷ a2 ∷ a3 ∷ a4 ∷ a5 ∷ x ∷ ρ) x
atom6 = reads (var 6) refl

abbrev pub atom7 : {a0 a1 a2 a3 a4 a5 a6 x : ℤ} {ρ : List ℤ} → Reads (a0 ∷ a1 ∷ a2 ∷ a3 ∷ a4 ∷ a5 ∷ a6 ∷ x ∷ ρ) x
atom7 = reads (var 7) refl

abbrev pub atom8 : {a0 a1 a2 a3 a4 a5 a6 a7 x : ℤ} {ρ : List ℤ} → Reads (a0 ∷ a1 ∷ a2 ∷ a3 ∷ a4 ∷ a5 ∷ a6 ∷ a7 ∷ x ∷ ρ) x
atom8 = reads (var 8) refl

abbrev pub atom9 : {a0 a1 a2 a3 a4 a5 a6 a7 a8 x : ℤ} {ρ : List ℤ} → Reads (a0 ∷ a1 ∷ a2 ∷ a3 ∷ a4 ∷ a5 ∷ a6 ∷ a7 ∷ a8 ∷ x ∷ ρ) x
atom9 = reads (var 9) refl

abbrev pub atom10 : {a0 a1 a2 a3 a4 a5 a6 a7 a8 a9 x : ℤ} {ρ : List ℤ} → Reads (a0 ∷ a1 ∷ a2 ∷ a3 ∷ a4 ∷ a5 ∷ a6 ∷ a7 ∷ a8 ∷ a9 ∷ x ∷ ρ) x
atom10 = reads (var 10) refl

abbrev pub atom11 : {a0 a1 a2 a3 a4 a5 a6 a7 a8 a9 a10 x : ℤ} {ρ : List ℤ} → Reads (a0 ∷ a1 ∷ a2 ∷ a3 ∷ a4 ∷ a5 ∷ a6 ∷ a7 ∷ a8 ∷ a9 ∷ a10 ∷ x ∷ ρ) x
atom11 = reads (var 11) refl

abbrev pub atom12 : {a0 a1 a2 a3 a4 a5 a6 a7 a8 a9 a10 a11 x : ℤ} {ρ : List ℤ} → Reads (a0 ∷ a1 ∷ a2 ∷ a3 ∷ a4 ∷ a5 ∷ a6 ∷ a7 ∷ a8 ∷ a9 ∷ a10 ∷ a11 ∷ x ∷ ρ) x
atom12 = reads (var 12) refl

abbrev pub atom13 : {a0 a1 a2 a3 a4 a5 a6 a7 a8 a9 a10 a11 a12 x : ℤ} {ρ : List ℤ} → Reads (a0 ∷ a1 ∷ a2 ∷ a3 ∷ a4 ∷ a5 ∷ a6 ∷ a7 ∷ a8 ∷ a9 ∷ a10 ∷ a11 ∷ a12 ∷ x ∷ ρ) x
atom13 = reads (var 13) refl

abbrev pub atom14 : {a0 a1 a2 a3 a4 a5 a6 a7 a8 a9 a10 a11 a12 a13 x : ℤ} {ρ : List ℤ} → Reads (a0 ∷ a1 ∷ a2 ∷ a3 ∷ a4 ∷ a5 ∷ a6 ∷ a7 ∷ a8 ∷ a9 ∷ a10 ∷ a11 ∷ a12 ∷ a13 ∷ x ∷ ρ) x
atom14 = reads (var 14) refl

abbrev pub atom15 : {a0 a1 a2 a3 a4 a5 a6 a7 a8 a9 a10 a11 a12 a13 a14 x : ℤ} {ρ : List ℤ} → Reads (a0 ∷ a1 ∷ a2 ∷ a3 ∷ a4 ∷ a5 ∷ a6 ∷ a7 ∷ a8 ∷ a9 ∷ a10 ∷ a11 ∷ a12 ∷ a13 ∷ a14 ∷ x ∷ ρ) x
atom15 = reads (var 15) refl

-- ---- an equation, by both its sides
pub data Sides (ρ : List ℤ) (a b : ℤ) : Type 0 where
  sides : Reads ρ a → Reads ρ b → Sides ρ a b

abbrev pub Balanced : {ρ : List ℤ} {a b : ℤ} → Sides ρ a b → Type 0
Balanced (sides p q) = Same (expr p) (expr q)

-- ---- an equation a = b from another, c = d: a + d and c + b are the same polynomial
pub data Equations (ρ : List ℤ) (a b c d : ℤ) : Type 0 where
  equations : Reads ρ a → Reads ρ b → Reads ρ c → Reads ρ d → Equations ρ a b c d

abbrev pub Follows : {ρ : List ℤ} {a b c d : ℤ} → Equations ρ a b c d → Type 0
Follows (equations p q r s) = Same (expr p ⊞ expr s) (expr r ⊞ expr q)
