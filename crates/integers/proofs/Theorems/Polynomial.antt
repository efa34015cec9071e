-- Laws of what specs/Polynomial.antt defines. The head of that file lists the main results.
use Rattle.std.specs.Prelude.{◌≡◌, refl, List, [], ◌∷◌, T, ℤ, pos, negsuc, neg_ℤ, ◌+ℤ◌, ◌*ℤ◌}
use Rattle.std.proofs.Common.{sym, ◌∙◌, ap, ap₂, eqb→eq}
use Prim.Native.Nat.{ℕ, zero, suc, compare, Ordering}
use Rattle.std.proofs.Math.Dec.{compare_is_eq}
use Rattle.std.proofs.Math.IntN.{neg_ℤ-+ℤ, +ℤ_idl, +ℤ_idr, +ℤ_assoc, zero-*ℤ, *ℤ-zero}
use Rattle.integers.proofs.Theorems.RingLaws.{+ℤ-left_comm, *ℤ_distribʳ, *ℤ_distribˡ, *ℤ_assoc, *ℤ-left_comm, *ℤ_swap4, *ℤ-1, 1-*ℤ, neg-*ℤ, eq_of_sub_zero}
use Rattle.integers.specs.Polynomial.{Expr, Monomial, Polynomial, Same, Uncancelled, Vanishes, add_p, compare_m, eval_m, eval_p, insert_term, insert_var, lit, mul_m, mul_p, neg_p, nil, normal, nth, put_term, put_var, scale_p, term, then, var, ⊖◌, ◌⊞◌, ◌⊟◌, ◌⊠◌, ⟦◌⟧}

eval_insert_var : (i : ℕ) (m : Monomial) (ρ : List ℤ) → eval_m (insert_var i m) ρ ≡ nth ρ i *ℤ eval_m m ρ
eval_insert_var i [] ρ = refl
eval_insert_var i (j ∷ m) ρ = go (compare i j) (insert_var i m) (eval_insert_var i m ρ)
  where
    go : (o : Ordering) (r : Monomial) → eval_m r ρ ≡ nth ρ i *ℤ eval_m m ρ → eval_m (put_var o i j m r) ρ ≡ nth ρ i *ℤ (nth ρ j *ℤ eval_m m ρ)
    go Ordering.lt r h = refl
    go Ordering.eq r h = refl
    go Ordering.gt r h = ap (λ x. nth ρ j *ℤ x) h ∙ *ℤ-left_comm (nth ρ j) (nth ρ i) (eval_m m ρ)

eval_mul_m : (m n : Monomial) (ρ : List ℤ) → eval_m (mul_m m n) ρ ≡ eval_m m ρ *ℤ eval_m n ρ
eval_mul_m [] n ρ = sym (1-*ℤ (eval_m n ρ))
eval_mul_m (i ∷ m) n ρ =
    eval_insert_var i (mul_m m n) ρ ∙ ap (λ x. nth ρ i *ℤ x) (eval_mul_m m n ρ) ∙ sym (*ℤ_assoc (nth ρ i) (eval_m m ρ) (eval_m n ρ))

abbrev IsEq : Ordering → Type 0
IsEq o = T (compare_is_eq o)

then-eq : (o p : Ordering) → IsEq (then o p) → IsEq o × IsEq p
then-eq Ordering.lt p t = absurd t
then-eq Ordering.eq p t = (tt, t)
then-eq Ordering.gt p t = absurd t

compare_m-eq : (m n : Monomial) → IsEq (compare_m m n) → m ≡ n
compare_m-eq [] [] t = refl
compare_m-eq [] (j ∷ n) t = absurd t
compare_m-eq (i ∷ m) [] t = absurd t
compare_m-eq (i ∷ m) (j ∷ n) t = let h = then-eq (compare i j) (compare_m m n) t in ap₂ ◌∷◌ (eqb→eq i j h.0) (compare_m-eq m n h.1)

eval_insert_term : (c : ℤ) (m : Monomial) (p : Polynomial) (ρ : List ℤ) → eval_p (insert_term c m p) ρ ≡ c *ℤ eval_m m ρ +ℤ eval_p p ρ
eval_insert_term c m nil ρ = refl
eval_insert_term c m (term d n p) ρ = go (compare_m m n) (compare_m-eq m n) (insert_term c m p) (eval_insert_term c m p ρ)
  where
    go : (o : Ordering) → (IsEq o → m ≡ n) → (r : Polynomial) → eval_p r ρ ≡ c *ℤ eval_m m ρ +ℤ eval_p p ρ → eval_p (put_term o c m d n p r) ρ ≡ c *ℤ eval_m m ρ +ℤ (d *ℤ eval_m n ρ +ℤ eval_p p ρ)
    go Ordering.lt e r h = refl
    go Ordering.eq e r h =
        ap (λ x. x +ℤ eval_p p ρ) (*ℤ_distribʳ c d (eval_m n ρ))
        ∙ +ℤ_assoc (c *ℤ eval_m n ρ) (d *ℤ eval_m n ρ) (eval_p p ρ)
        ∙ ap (λ x. c *ℤ eval_m x ρ +ℤ (d *ℤ eval_m n ρ +ℤ eval_p p ρ)) (sym (e tt))
    go Ordering.gt e r h =
        ap (λ x. d *ℤ eval_m n ρ +ℤ x) h ∙ +ℤ-left_comm (d *ℤ eval_m n ρ) (c *ℤ eval_m m ρ) (eval_p p ρ)

eval_add : (p q : Polynomial) (ρ : List ℤ) → eval_p (add_p p q) ρ ≡ eval_p p ρ +ℤ eval_p q ρ
eval_add nil q ρ = sym (+ℤ_idl (eval_p q ρ))
eval_add (term c m p) q ρ =
    eval_insert_term c m (add_p p q) ρ ∙ ap (λ x. c *ℤ eval_m m ρ +ℤ x) (eval_add p q ρ) ∙ sym (+ℤ_assoc (c *ℤ eval_m m ρ) (eval_p p ρ) (eval_p q ρ))

pub eval_scale : (c : ℤ) (m : Monomial) (p q : Polynomial) (ρ : List ℤ) → eval_p (scale_p c m p q) ρ ≡ (c *ℤ eval_m m ρ) *ℤ eval_p p ρ +ℤ eval_p q ρ
eval_scale c m nil q ρ = sym (ap (λ x. x +ℤ eval_p q ρ) (*ℤ-zero (c *ℤ eval_m m ρ)) ∙ +ℤ_idl (eval_p q ρ))
eval_scale c m (term d n p) q ρ =
    eval_insert_term (c *ℤ d) (mul_m m n) (scale_p c m p q) ρ
    ∙ ap₂ ◌+ℤ◌ (ap (λ x. (c *ℤ d) *ℤ x) (eval_mul_m m n ρ) ∙ *ℤ_swap4 c d (eval_m m ρ) (eval_m n ρ)) (eval_scale c m p q ρ)
    ∙ sym (+ℤ_assoc ((c *ℤ eval_m m ρ) *ℤ (d *ℤ eval_m n ρ)) ((c *ℤ eval_m m ρ) *ℤ eval_p p ρ) (eval_p q ρ))
    ∙ ap (λ x. x +ℤ eval_p q ρ) (sym (*ℤ_distribˡ (c *ℤ eval_m m ρ) (d *ℤ eval_m n ρ) (eval_p p ρ)))

eval_mul : (p q : Polynomial) (ρ : List ℤ) → eval_p (mul_p p q) ρ ≡ eval_p p ρ *ℤ eval_p q ρ
eval_mul nil q ρ = sym (zero-*ℤ (eval_p q ρ))
eval_mul (term c m p) q ρ =
    eval_scale c m q (mul_p p q) ρ ∙ ap (λ x. (c *ℤ eval_m m ρ) *ℤ eval_p q ρ +ℤ x) (eval_mul p q ρ)
    ∙ sym (*ℤ_distribʳ (c *ℤ eval_m m ρ) (eval_p p ρ) (eval_p q ρ))

eval_neg : (p : Polynomial) (ρ : List ℤ) → eval_p (neg_p p) ρ ≡ neg_ℤ (eval_p p ρ)
eval_neg nil ρ = refl
eval_neg (term c m p) ρ =
    ap₂ ◌+ℤ◌ (neg-*ℤ c (eval_m m ρ)) (eval_neg p ρ) ∙ sym (neg_ℤ-+ℤ (c *ℤ eval_m m ρ) (eval_p p ρ))

pub eval_normal : (e : Expr) (ρ : List ℤ) → ⟦◌⟧ e ρ ≡ eval_p (normal e) ρ
eval_normal (var i) ρ = sym (+ℤ_idr (pos 1 *ℤ (nth ρ i *ℤ pos 1)) ∙ 1-*ℤ (nth ρ i *ℤ pos 1) ∙ *ℤ-1 (nth ρ i))
eval_normal (lit k) ρ = sym (+ℤ_idr (k *ℤ pos 1) ∙ *ℤ-1 k)
eval_normal (a ⊞ b) ρ = ap₂ ◌+ℤ◌ (eval_normal a ρ) (eval_normal b ρ) ∙ sym (eval_add (normal a) (normal b) ρ)
eval_normal (a ⊠ b) ρ = ap₂ ◌*ℤ◌ (eval_normal a ρ) (eval_normal b ρ) ∙ sym (eval_mul (normal a) (normal b) ρ)
eval_normal (⊖◌ a) ρ = ap neg_ℤ (eval_normal a ρ) ∙ sym (eval_neg (normal a) ρ)

never_uncancelled : {p : Polynomial} → Uncancelled p → ⊥
never_uncancelled t = elim t [ ]

eval_vanishes : (p : Polynomial) (ρ : List ℤ) → Vanishes p → eval_p p ρ ≡ pos 0
eval_vanishes nil ρ t = refl
eval_vanishes (term (pos zero) m p) ρ t = ap₂ ◌+ℤ◌ (zero-*ℤ (eval_m m ρ)) (eval_vanishes p ρ t)
eval_vanishes (term (pos (suc n)) m p) ρ t = absurd (never_uncancelled t)
eval_vanishes (term (negsuc n) m p) ρ t = absurd (never_uncancelled t)

pub same_value : (ρ : List ℤ) (a b : Expr) → Same a b → ⟦◌⟧ a ρ ≡ ⟦◌⟧ b ρ
same_value ρ a b t = eq_of_sub_zero (⟦◌⟧ a ρ) (⟦◌⟧ b ρ) (eval_normal (a ⊟ b) ρ ∙ eval_vanishes (normal (a ⊟ b)) ρ t)
