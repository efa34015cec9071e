-- Laws of what specs/Fraction.antt defines. The head of that file lists the main results.
use Rattle.std.specs.Prelude.{◌≡◌, ℤ}
use Rattle.std.proofs.Math.Path.{refl, sym, ap, ap₂}
use Rattle.std.proofs.Common.{◌∙◌, one-mul, mul_assoc}
use mathlib.Core.List.{List, [], ◌∷◌, ◌++◌, map, Perm, Permᴰ}
use Rattle.std.proofs.Math.Logic.{∥∥₁_elim}
use Prim.Native.Nat.{ℕ, ◌*◌, ◌<◌}
use native.Mathlib.Omega.{arith}
use Rattle.std.proofs.Math.Nat.{ℕ_set, mul-pos, mul_left_comm}
use Rattle.std.proofs.Math.IntN.{pos, ◌+ℤ◌, ◌*ℤ◌, ℤ_set}
use Rattle.integers.proofs.Theorems.Ring.{read, ring, comb, ◌⊕◌, ◌⊗◌}
use Rattle.integers.specs.ListSum.{All, total}
use Rattle.integers.specs.Fraction.{common, numer}

module _ {A : Type 0} (N : A → ℕ) where
  pub common-pos : (l : List A) → All (λ a. 0 < N a) l → 0 < common N l
  unfolding common
  common-pos [] h = omega arith
  common-pos (a ∷ l) h = mul-pos h.0 (common-pos l h.1)

  -- ---- linear in f
  pub numer_cong : (f g : A → ℤ) (l : List A) → All (λ a. f a ≡ g a) l → numer N f l ≡ numer N g l
  unfolding numer
  numer_cong f g [] h = refl
  numer_cong f g (a ∷ l) h = rw (h.0, numer_cong f g l h.1)

  pub numer-add : (f g : A → ℤ) (l : List A) → numer N (λ a. f a +ℤ g a) l ≡ numer N f l +ℤ numer N g l
  unfolding numer
  numer-add f g [] = refl
  numer-add f g (a ∷ l) =
      comb (f a ∷ g a ∷ pos (N a) ∷ pos (common N l) ∷ numer N (λ a. f a +ℤ g a) l ∷ numer N f l ∷ numer N g l ∷ []) (pos (N a) ⊗ numer-add f g l) (search read depth 40) tt

  pub numer_scale : (k : ℤ) (f : A → ℤ) (l : List A) → numer N (λ a. k *ℤ f a) l ≡ k *ℤ numer N f l
  unfolding numer
  numer_scale k f [] = ring (k ∷ []) (search read depth 40) tt
  numer_scale k f (a ∷ l) =
      comb (k ∷ f a ∷ pos (N a) ∷ pos (common N l) ∷ numer N (λ a. k *ℤ f a) l ∷ numer N f l ∷ []) (pos (N a) ⊗ numer_scale k f l) (search read depth 40) tt

  pub numer_whole : (q : A → ℤ) (l : List A) → numer N (λ a. q a *ℤ pos (N a)) l ≡ total q l *ℤ pos (common N l)
  unfolding numer total common
  numer_whole q [] = refl
  numer_whole q (a ∷ l) =
      comb (q a ∷ pos (N a) ∷ pos (common N l) ∷ numer N (λ a. q a *ℤ pos (N a)) l ∷ total q l ∷ []) (pos (N a) ⊗ numer_whole q l) (search read depth 40) tt

  -- ---- one list after another
  pub common_append : (k l : List A) → common N (k ++ l) ≡ common N k * common N l
  unfolding common
  common_append [] l = sym (one-mul (common N l))
  common_append (a ∷ k) l = ap (λ x. N a * x) (common_append k l) ∙ sym (mul_assoc (N a) (common N k) (common N l))

  pub numer_append : (f : A → ℤ) (k l : List A) → numer N f (k ++ l) ≡ numer N f k *ℤ pos (common N l) +ℤ pos (common N k) *ℤ numer N f l
  unfolding numer common
  numer_append f [] l = ring (numer N f l ∷ pos (common N l) ∷ []) (search read depth 40) tt
  numer_append f (a ∷ k) l =
      comb (f a ∷ pos (N a) ∷ pos (common N (k ++ l)) ∷ pos (common N k) ∷ pos (common N l) ∷ numer N f (k ++ l) ∷ numer N f k ∷ numer N f l ∷ [])
      (f a ⊗ ap pos (common_append k l) ⊕ pos (N a) ⊗ numer_append f k l) (search read depth 40) tt

  -- ---- in any order
  common_permᴰ : {k l : List A} → Permᴰ k l → common N k ≡ common N l
  unfolding common
  common_permᴰ Permᴰ.nil = refl
  common_permᴰ (Permᴰ.cons e d) = ap₂ ◌*◌ (ap N e) (common_permᴰ d)
  common_permᴰ (Permᴰ.swap {a} {b} {l = l} p q) = mul_left_comm (N a) (N b) (common N l) ∙ ap₂ (λ x y. common N (x ∷ y ∷ l)) q p
  common_permᴰ (Permᴰ.trans d d') = common_permᴰ d ∙ common_permᴰ d'

  pub common_perm : {k l : List A} → Perm k l → common N k ≡ common N l
  common_perm {k} {l} p = ∥∥₁_elim p (ℕ_set (common N k) (common N l)) (λ d. common_permᴰ d)

  numer_permᴰ : (f : A → ℤ) {k l : List A} → Permᴰ k l → numer N f k ≡ numer N f l
  unfolding numer common
  numer_permᴰ f Permᴰ.nil = refl
  numer_permᴰ f (Permᴰ.cons e d) = ap₂ ◌+ℤ◌ (ap₂ ◌*ℤ◌ (ap f e) (ap pos (common_permᴰ d))) (ap₂ ◌*ℤ◌ (ap (λ x. pos (N x)) e) (numer_permᴰ f d))
  numer_permᴰ f (Permᴰ.swap {a} {b} {l = l} p q) =
      ring (f a ∷ f b ∷ pos (N a) ∷ pos (N b) ∷ pos (common N l) ∷ numer N f l ∷ []) (search read depth 40) tt ∙ ap₂ (λ x y. numer N f (x ∷ y ∷ l)) q p
  numer_permᴰ f (Permᴰ.trans d d') = numer_permᴰ f d ∙ numer_permᴰ f d'

  pub numer_perm : (f : A → ℤ) {k l : List A} → Perm k l → numer N f k ≡ numer N f l
  numer_perm f {k} {l} p = ∥∥₁_elim p (ℤ_set (numer N f k) (numer N f l)) (λ d. numer_permᴰ f d)

module _ {A B : Type 0} (N : B → ℕ) (g : A → B) where
  pub common-map : (l : List A) → common N (map g l) ≡ common (λ a. N (g a)) l
  unfolding common
  common-map [] = refl
  common-map (a ∷ l) = ap (λ n. N (g a) * n) (common-map l)

  pub numer-map : (f : B → ℤ) (l : List A) → numer N f (map g l) ≡ numer (λ a. N (g a)) (λ a. f (g a)) l
  unfolding numer
  numer-map f [] = refl
  numer-map f (a ∷ l) = ap₂ (λ n z. f (g a) *ℤ pos n +ℤ pos (N (g a)) *ℤ z) (common-map l) (numer-map f l)
