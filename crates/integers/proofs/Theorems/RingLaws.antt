-- The commutative ring laws of ℤ that the library's `lib.IntN` lacks.
--
-- Main results
--   *ℤ_distribʳ, *ℤ_distribˡ              multiplication distributes over addition
--   *ℤ_assoc                              multiplication is associative
--   neg-*ℤ                                −a × b is −(a × b)
--   *ℤ-1, 1-*ℤ                            1 is neutral, written `pos 1`
--   eq_of_sub_zero                        a − b = 0 only where a = b
--   +ℤ-left_comm, *ℤ-left_comm, *ℤ_swap4  regrouping
-- With the laws of `lib.IntN` that the `use` lines here, in `Polynomial` and in `Ring` name, these are all that `ring` rests on.
use Rattle.std.specs.Prelude.{◌≡◌, ℕ, zero, suc, ℤ, pos, negsuc, neg_ℤ, ◌+ℤ◌, ◌-ℤ◌, ◌*ℤ◌}
use Rattle.std.proofs.Common.{sym, ◌∙◌, ap, ap₂}
use Rattle.std.proofs.Math.IntN.{suc_ℤ, pred_ℤ, one, +ℤ_idl, +ℤ_assoc, +ℤ_comm, +ℤ_invl, +ℤ-neg_ℤ_cancel, -ℤ-+ℤ_cancel, suc_ℤ-+ℤ, pred_ℤ-+ℤ, zero-*ℤ, *ℤ-one, *ℤ_comm, suc_ℤ-*ℤ, pred_ℤ-*ℤ}

-- ---- regrouping a sum
+ℤ-right_comm : (a b c : ℤ) → a +ℤ b +ℤ c ≡ a +ℤ c +ℤ b
+ℤ-right_comm a b c = +ℤ_assoc a b c ∙ ap (λ x. a +ℤ x) (+ℤ_comm b c) ∙ sym (+ℤ_assoc a c b)

pub +ℤ-left_comm : (a b c : ℤ) → a +ℤ (b +ℤ c) ≡ b +ℤ (a +ℤ c)
+ℤ-left_comm a b c = sym (+ℤ_assoc a b c) ∙ ap (λ x. x +ℤ c) (+ℤ_comm a b) ∙ +ℤ_assoc b a c

-- ---- distribution, by counting a up or down from 0
abbrev Distributes : ℤ → ℤ → ℤ → Type 0
Distributes a b c = (a +ℤ b) *ℤ c ≡ a *ℤ c +ℤ b *ℤ c

distributes-zero : (b c : ℤ) → Distributes (pos zero) b c
distributes-zero b c =
    ap (λ x. x *ℤ c) (+ℤ_idl b) ∙ sym (+ℤ_idl (b *ℤ c)) ∙ ap (λ x. x +ℤ b *ℤ c) (sym (zero-*ℤ c))

distributes-suc : (a b c : ℤ) → Distributes a b c → Distributes (suc_ℤ a) b c
distributes-suc a b c h =
    ap (λ x. x *ℤ c) (suc_ℤ-+ℤ a b) ∙ suc_ℤ-*ℤ (a +ℤ b) c ∙ ap (λ x. x +ℤ c) h ∙ +ℤ-right_comm (a *ℤ c) (b *ℤ c) c
    ∙ ap (λ x. x +ℤ b *ℤ c) (sym (suc_ℤ-*ℤ a c))

distributes_pred : (a b c : ℤ) → Distributes a b c → Distributes (pred_ℤ a) b c
distributes_pred a b c h =
    ap (λ x. x *ℤ c) (pred_ℤ-+ℤ a b) ∙ pred_ℤ-*ℤ (a +ℤ b) c ∙ ap (λ x. x -ℤ c) h ∙ +ℤ-right_comm (a *ℤ c) (b *ℤ c) (neg_ℤ c)
    ∙ ap (λ x. x +ℤ b *ℤ c) (sym (pred_ℤ-*ℤ a c))

distributes : (a b c : ℤ) → Distributes a b c
distributes (pos zero) b c = distributes-zero b c
distributes (pos (suc n)) b c = distributes-suc (pos n) b c (distributes (pos n) b c)
distributes (negsuc zero) b c = distributes_pred (pos zero) b c (distributes-zero b c)
distributes (negsuc (suc n)) b c = distributes_pred (negsuc n) b c (distributes (negsuc n) b c)

pub *ℤ_distribʳ : (a b c : ℤ) → (a +ℤ b) *ℤ c ≡ a *ℤ c +ℤ b *ℤ c
*ℤ_distribʳ a b c = distributes a b c

pub *ℤ_distribˡ : (a b c : ℤ) → a *ℤ (b +ℤ c) ≡ a *ℤ b +ℤ a *ℤ c
*ℤ_distribˡ a b c = *ℤ_comm a (b +ℤ c) ∙ *ℤ_distribʳ b c a ∙ ap₂ ◌+ℤ◌ (*ℤ_comm b a) (*ℤ_comm c a)

-- ---- negation
neg_unique : (a b : ℤ) → a +ℤ b ≡ pos zero → a ≡ neg_ℤ b
neg_unique a b h = sym (+ℤ-neg_ℤ_cancel a b) ∙ ap (λ x. x -ℤ b) h ∙ +ℤ_idl (neg_ℤ b)

pub eq_of_sub_zero : (a b : ℤ) → a -ℤ b ≡ pos zero → a ≡ b
eq_of_sub_zero a b h = sym (-ℤ-+ℤ_cancel a b) ∙ ap (λ x. x +ℤ b) h ∙ +ℤ_idl b

pub neg-*ℤ : (a b : ℤ) → neg_ℤ a *ℤ b ≡ neg_ℤ (a *ℤ b)
neg-*ℤ a b = neg_unique (neg_ℤ a *ℤ b) (a *ℤ b) (sym (*ℤ_distribʳ (neg_ℤ a) a b) ∙ ap (λ x. x *ℤ b) (+ℤ_invl a) ∙ zero-*ℤ b)

-- ---- products of three and four
assoc_pos : (n : ℕ) (b c : ℤ) → (pos n *ℤ b) *ℤ c ≡ pos n *ℤ (b *ℤ c)
assoc_pos zero b c = ap (λ x. x *ℤ c) (zero-*ℤ b) ∙ zero-*ℤ c ∙ sym (zero-*ℤ (b *ℤ c))
assoc_pos (suc n) b c =
    ap (λ x. x *ℤ c) (suc_ℤ-*ℤ (pos n) b) ∙ *ℤ_distribʳ (pos n *ℤ b) b c ∙ ap (λ x. x +ℤ b *ℤ c) (assoc_pos n b c)
    ∙ sym (suc_ℤ-*ℤ (pos n) (b *ℤ c))

assoc_neg : (a b c : ℤ) → (a *ℤ b) *ℤ c ≡ a *ℤ (b *ℤ c) → (neg_ℤ a *ℤ b) *ℤ c ≡ neg_ℤ a *ℤ (b *ℤ c)
assoc_neg a b c h = ap (λ x. x *ℤ c) (neg-*ℤ a b) ∙ neg-*ℤ (a *ℤ b) c ∙ ap neg_ℤ h ∙ sym (neg-*ℤ a (b *ℤ c))

pub *ℤ_assoc : (a b c : ℤ) → (a *ℤ b) *ℤ c ≡ a *ℤ (b *ℤ c)
*ℤ_assoc (pos n) b c = assoc_pos n b c
*ℤ_assoc (negsuc n) b c = assoc_neg (pos (suc n)) b c (assoc_pos (suc n) b c)

pub *ℤ-left_comm : (a b c : ℤ) → a *ℤ (b *ℤ c) ≡ b *ℤ (a *ℤ c)
*ℤ-left_comm a b c = sym (*ℤ_assoc a b c) ∙ ap (λ x. x *ℤ c) (*ℤ_comm a b) ∙ *ℤ_assoc b a c

pub *ℤ_swap4 : (a b c d : ℤ) → (a *ℤ b) *ℤ (c *ℤ d) ≡ (a *ℤ c) *ℤ (b *ℤ d)
*ℤ_swap4 a b c d = *ℤ_assoc a b (c *ℤ d) ∙ ap (λ x. a *ℤ x) (*ℤ-left_comm b c d) ∙ sym (*ℤ_assoc a c (b *ℤ d))

-- ---- one
pub *ℤ-1 : (a : ℤ) → a *ℤ pos 1 ≡ a
unfolding one
*ℤ-1 a = *ℤ-one a

pub 1-*ℤ : (a : ℤ) → pos 1 *ℤ a ≡ a
1-*ℤ a = *ℤ_comm (pos 1) a ∙ *ℤ-1 a
