-- Laws of what specs/Elimination.antt defines. The head of that file lists the main results.
use Rattle.std.specs.Prelude.{◌≡◌, refl, List, [], ◌∷◌, Bool, true, false, ◌||◌, T, ℤ, pos, negsuc, nat_abs, ◌+ℤ◌, ◌*ℤ◌, ◌≤ℤ◌}
use Rattle.std.proofs.Common.{sym, ◌∙◌, ap, subst}
use Rattle.std.proofs.Math.Path.{subst⁻¹}
use Rattle.std.proofs.Math.Option.{Option, none, some}
use Prim.Native.Nat.{ℕ, zero, suc}
use Rattle.std.proofs.Math.IntN.{+ℤ_idl, +ℤ_idr, zero-*ℤ}
use Rattle.std.specs.Int.Signed.{≤ℤ_refl}
use Rattle.integers.proofs.Theorems.RingLaws.{*ℤ-1}
use Rattle.integers.specs.Polynomial.{Monomial, Polynomial, nil, term, eval_m, eval_p, scale_p}
use Rattle.integers.proofs.Theorems.Polynomial.{eval_scale}
use Rattle.integers.proofs.Theorems.Order.{≤ℤ-add, ≤ℤ-mul-nonneg, nonneg}
use Rattle.integers.specs.Elimination.{Hold, Refuted, Result, Stuck, cancel, coefficient, cons_if, eliminate, filter, is_negative, is_positive, is_zero, keep, negative, pairs, pivot, refuted, refuted!, step, stuck, tidy, with_each}

eval_keep : (c : ℤ) (m : Monomial) (p : Polynomial) (ρ : List ℤ) → eval_p (keep c m p) ρ ≡ c *ℤ eval_m m ρ +ℤ eval_p p ρ
eval_keep (pos zero) m p ρ = sym (ap (λ x. x +ℤ eval_p p ρ) (zero-*ℤ (eval_m m ρ)) ∙ +ℤ_idl (eval_p p ρ))
eval_keep (pos (suc n)) m p ρ = refl
eval_keep (negsuc n) m p ρ = refl

pub eval_tidy : (p : Polynomial) (ρ : List ℤ) → eval_p (tidy p) ρ ≡ eval_p p ρ
eval_tidy nil ρ = refl
eval_tidy (term c m p) ρ = eval_keep c m (tidy p) ρ ∙ ap (λ x. c *ℤ eval_m m ρ +ℤ x) (eval_tidy p ρ)

hold_if : (ρ : List ℤ) (b : Bool) (p : Polynomial) (ps : List Polynomial) → pos 0 ≤ℤ eval_p p ρ → Hold ρ ps → Hold ρ (cons_if b p ps)
hold_if ρ true p ps h hs = (h, hs)
hold_if ρ false p ps h hs = hs

hold_filter : (ρ : List ℤ) (f : ℤ → Bool) (m : Monomial) (ps : List Polynomial) → Hold ρ ps → Hold ρ (filter f m ps)
hold_filter ρ f m [] h = tt
hold_filter ρ f m (p ∷ ps) h = hold_if ρ (f (coefficient m p)) p (filter f m ps) h.0 (hold_filter ρ f m ps h.1)

hold_scale : (ρ : List ℤ) (k : ℕ) (p q : Polynomial) → pos 0 ≤ℤ eval_p p ρ → pos 0 ≤ℤ eval_p q ρ → pos 0 ≤ℤ eval_p (scale_p (pos k) [] p q) ρ
hold_scale ρ k p q h j =
    subst⁻¹ (λ x. pos 0 ≤ℤ x) (eval_scale (pos k) [] p q ρ)
    (≤ℤ-add (≤ℤ-mul-nonneg (subst⁻¹ (λ x. pos 0 ≤ℤ x) (*ℤ-1 (pos k)) (nonneg k)) h) j)

hold_cancel : (ρ : List ℤ) (m : Monomial) (p q : Polynomial) → pos 0 ≤ℤ eval_p p ρ → pos 0 ≤ℤ eval_p q ρ → pos 0 ≤ℤ eval_p (cancel m p q) ρ
hold_cancel ρ m p q h j =
    subst⁻¹ (λ x. pos 0 ≤ℤ x) (eval_tidy (scale_p (pos (nat_abs (coefficient m q))) [] p (scale_p (pos (nat_abs (coefficient m p))) [] q nil)) ρ)
    (hold_scale ρ (nat_abs (coefficient m q)) p (scale_p (pos (nat_abs (coefficient m p))) [] q nil) h (hold_scale ρ (nat_abs (coefficient m p)) q nil j (≤ℤ_refl (pos 0))))

hold_each : (ρ : List ℤ) (m : Monomial) (p : Polynomial) (qs rs : List Polynomial) → pos 0 ≤ℤ eval_p p ρ → Hold ρ qs → Hold ρ rs → Hold ρ (with_each m p qs rs)
hold_each ρ m p [] rs h hs ks = ks
hold_each ρ m p (q ∷ qs) rs h hs ks = (hold_cancel ρ m p q h hs.0, hold_each ρ m p qs rs h hs.1 ks)

hold_pairs : (ρ : List ℤ) (m : Monomial) (ps qs rs : List Polynomial) → Hold ρ ps → Hold ρ qs → Hold ρ rs → Hold ρ (pairs m ps qs rs)
hold_pairs ρ m [] qs rs h hs ks = ks
hold_pairs ρ m (p ∷ ps) qs rs h hs ks = hold_each ρ m p qs (pairs m ps qs rs) h.0 hs (hold_pairs ρ m ps qs rs h.1 hs ks)

hold_step : (ρ : List ℤ) (m : Monomial) (ps : List Polynomial) → Hold ρ ps → Hold ρ (step m ps)
hold_step ρ m ps h =
    hold_pairs ρ m (filter is_positive m ps) (filter is_negative m ps) (filter is_zero m ps)
    (hold_filter ρ is_positive m ps h) (hold_filter ρ is_negative m ps h) (hold_filter ρ is_zero m ps h)

not_negative : (ρ : List ℤ) (p : Polynomial) → T (negative p) → pos 0 ≤ℤ eval_p p ρ → ⊥
not_negative ρ nil t h = t
not_negative ρ (term (pos n) m p) t h = t
not_negative ρ (term (negsuc n) [] nil) t h = (subst (λ x. pos 0 ≤ℤ x) (+ℤ_idr (negsuc n *ℤ pos 1) ∙ *ℤ-1 (negsuc n)) h).le
not_negative ρ (term (negsuc n) [] (term d m p)) t h = t
not_negative ρ (term (negsuc n) (i ∷ m) p) t h = t

not-refuted : (ρ : List ℤ) (ps : List Polynomial) → Hold ρ ps → T (refuted ps) → ⊥
not-refuted ρ [] h t = t
not-refuted ρ (p ∷ ps) h t = go (negative p) (λ u. not_negative ρ p u h.0) (λ u. not-refuted ρ ps h.1 u) t
  where
    go : (b : Bool) → (T b → ⊥) → (T (refuted ps) → ⊥) → T (b || refuted ps) → ⊥
    go true f g t = f tt
    go false f g t = g t

never_stuck : {ps : List Polynomial} → Stuck ps → ⊥
never_stuck t = elim t [ ]

by_test : (b : Bool) (o : Result) → (T b → ⊥) → (Refuted o → ⊥) → Refuted (elim b [ true ↦ refuted! | false ↦ o ]) → ⊥
by_test true o f g t = f tt
by_test false o f g t = g t

pub eliminate_sound : (ρ : List ℤ) (k : ℕ) (ps : List Polynomial) → Hold ρ ps → Refuted (eliminate k ps) → ⊥
eliminate_sound ρ zero ps h t = by_test (refuted ps) (stuck ps) (λ u. not-refuted ρ ps h u) (λ u. never_stuck u) t
eliminate_sound ρ (suc k) ps h t =
    by_test (refuted ps) (elim (pivot ps) [ none ↦ stuck ps | some m ↦ eliminate k (step m ps) ]) (λ u. not-refuted ρ ps h u)
    (λ u. next (pivot ps) (λ m v. eliminate_sound ρ k (step m ps) (hold_step ρ m ps h) v) u) t
  where
    next : (o : Option Monomial) → ((m : Monomial) → Refuted (eliminate k (step m ps)) → ⊥) → Refuted (elim o [ none ↦ stuck ps | some m ↦ eliminate k (step m ps) ]) → ⊥
    next none g t = never_stuck t
    next (some m) g t = g m t
