-- Laws of what specs/Ring.antt defines. The head of that file lists the main results.
use Rattle.std.specs.Prelude.{◌≡◌, List, ℤ, ◌+ℤ◌, ◌-ℤ◌, ◌*ℤ◌}
use Rattle.std.proofs.Common.{sym, ◌∙◌, ap, ap₂}
use Rattle.std.proofs.Math.IntN.{+ℤ-neg_ℤ_cancel, +ℤ_comm}
use Rattle.integers.specs.Polynomial.{◌⊞◌, ⟦◌⟧}
use Rattle.integers.proofs.Theorems.Polynomial.{same_value}
use Rattle.integers.specs.Ring.{Balanced, Equations, Follows, Reads, Sides, atom0, atom1, atom10, atom11, atom12, atom13, atom14, atom15, atom2, atom3, atom4, atom5, atom6, atom7, atom8, atom9, equations, expr, read_add, read_mul, read_neg, read_negsuc, read_negsuc_open, read_pos, read_pos-add, read_pos-mul, read_pos-suc, read_unit, reads, sides}

pub expr_value : {ρ : List ℤ} {z : ℤ} (r : Reads ρ z) → ⟦◌⟧ (expr r) ρ ≡ z
expr_value (reads e p) = p

pub ring : {a b : ℤ} (ρ : List ℤ) (s : Sides ρ a b) → Balanced s → a ≡ b
ring ρ (sides p q) t = sym (expr_value p) ∙ same_value ρ (expr p) (expr q) t ∙ expr_value q

follows : (a b c d : ℤ) → a +ℤ d ≡ c +ℤ b → c ≡ d → a ≡ b
follows a b c d h e = sym (+ℤ-neg_ℤ_cancel a d) ∙ ap (λ x. x -ℤ d) (h ∙ ap (λ x. x +ℤ b) e ∙ +ℤ_comm d b) ∙ +ℤ-neg_ℤ_cancel b d

pub comb : {a b c d : ℤ} (ρ : List ℤ) → c ≡ d → (s : Equations ρ a b c d) → Follows s → a ≡ b
comb {a} {b} {c} {d} ρ h (equations p q r s) t =
    follows a b c d (sym (ap₂ ◌+ℤ◌ (expr_value p) (expr_value s)) ∙ same_value ρ (expr p ⊞ expr s) (expr r ⊞ expr q) t ∙ ap₂ ◌+ℤ◌ (expr_value r) (expr_value q)) h

-- the given equation, put together: sums of equations, and multiples
infixl 6 ◌⊕◌
infixl 7 ◌⊗◌
pub ◌⊕◌ : {a b c d : ℤ} → a ≡ b → c ≡ d → a +ℤ c ≡ b +ℤ d
p ⊕ q = ap₂ ◌+ℤ◌ p q

pub ◌⊗◌ : {a b : ℤ} (k : ℤ) → a ≡ b → k *ℤ a ≡ k *ℤ b
k ⊗ p = ap (λ x. k *ℤ x) p

pub ruleset read = (atom0, atom1, atom2, atom3, atom4, atom5, atom6, atom7, atom8, atom9, atom10, atom11, atom12, atom13, atom14, atom15, read_add, read_mul, read_neg, read_pos, read_negsuc, read_pos-add, read_pos-mul, read_pos-suc, read_negsuc_open, read_unit, sides, equations)
