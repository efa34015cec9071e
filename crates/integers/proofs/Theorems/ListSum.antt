-- Laws of what specs/ListSum.antt defines. The head of that file lists the main results.
use Rattle.std.specs.Prelude.{◌≡◌, ℕ, zero, suc, ◌+◌, ◌*◌, ◌<◌, get_or, take, drop, ℤ, nat_abs, ◌*ℤ◌}
use Rattle.std.proofs.Math.Path.{refl, ap, ap₂}
use Rattle.std.proofs.Common.{sym, ◌∙◌, arith}
use mathlib.Core.List.{List, [], ◌∷◌, ◌++◌, map, Perm, Permᴰ}
use Rattle.std.proofs.Math.Logic.{∥∥₁_elim}
use Rattle.std.proofs.Math.ListN.{length, length-append}
use Rattle.std.proofs.Math.IntN.{pos, neg_ℤ, ◌+ℤ◌, ℤ_set}
use Rattle.std.specs.Int.Signed.{≤ℤ_refl}
use Rattle.integers.proofs.Theorems.Ring.{read, ring, comb, ◌⊕◌}
use Rattle.integers.specs.Within.{Within}
use Rattle.integers.proofs.Theorems.Within.{within_is, within_add, within_self}
use Rattle.integers.specs.RangeSum.{Σ<}
use Rattle.integers.proofs.Theorems.RangeSum.{Σ_first}
use Rattle.integers.specs.ListSum.{All, joined, tally, total}

pub all_of : {A : Type 0} {P : A → Type 0} → ((a : A) → P a) → (l : List A) → All P l
all_of p [] = tt
all_of p (a ∷ l) = (p a, all_of p l)

pub all_map : {A : Type 0} {P Q : A → Type 0} → ((a : A) → P a → Q a) → (l : List A) → All P l → All Q l
all_map f [] p = tt
all_map f (a ∷ l) p = (f a p.0, all_map f l p.1)

pub all_append : {A : Type 0} (P : A → Type 0) (k l : List A) → All P k → All P l → All P (k ++ l)
all_append P [] l p q = q
all_append P (a ∷ k) l p q = (p.0, all_append P k l p.1 q)

pub all_front : {A : Type 0} (P : A → Type 0) (k l : List A) → All P (k ++ l) → All P k
all_front P [] l p = tt
all_front P (a ∷ k) l p = (p.0, all_front P k l p.1)

pub all_back : {A : Type 0} (P : A → Type 0) (k l : List A) → All P (k ++ l) → All P l
all_back P [] l p = p
all_back P (a ∷ k) l p = all_back P k l p.1

pub all_image : {A B : Type 0} (P : B → Type 0) (f : A → B) (l : List A) → All (λ a. P (f a)) l → All P (map f l)
all_image P f [] p = tt
all_image P f (a ∷ l) p = (p.0, all_image P f l p.1)

pub all_take : {A : Type 0} (P : A → Type 0) (n : ℕ) (l : List A) → All P l → All P (take n l)
all_take P zero l p = tt
all_take P (suc n) [] p = tt
all_take P (suc n) (a ∷ l) p = (p.0, all_take P n l p.1)

pub all_drop : {A : Type 0} (P : A → Type 0) (n : ℕ) (l : List A) → All P l → All P (drop n l)
all_drop P zero l p = p
all_drop P (suc n) [] p = tt
all_drop P (suc n) (a ∷ l) p = all_drop P n l p.1

pub all_entry : {A : Type 0} (P : A → Type 0) (o : A) (l : List A) → All P l → (i : ℕ) → i < length l → P (get_or l i o)
all_entry P o [] p i h = absurd (omega arith)
all_entry P o (a ∷ l) p zero h = p.0
all_entry P o (a ∷ l) p (suc i) h = all_entry P o l p.1 i (omega arith)

-- past the end of a list an entry counts as the default, d
pub all_get_d : {A : Type 0} (P : A → Type 0) (d : A) → P d → (l : List A) → All P l → (i : ℕ) → P (get_or l i d)
all_get_d P d p [] h i = p
all_get_d P d p (a ∷ l) h zero = h.0
all_get_d P d p (a ∷ l) h (suc i) = all_get_d P d p l h.1 i

pub get_d_all : {A : Type 0} (P : A → Type 0) (d : A) (l : List A) → ((i : ℕ) → i < length l → P (get_or l i d)) → All P l
get_d_all P d [] h = tt
get_d_all P d (a ∷ l) h = (h zero (omega arith), get_d_all P d l (λ i k. h (suc i) (omega arith)))

-- what holds of every entry that a list has, and of the default, holds of all
pub get_d_each : {A : Type 0} (P : A → Type 0) (d : A) → P d → (l : List A) → ((i : ℕ) → i < length l → P (get_or l i d)) → (i : ℕ) → P (get_or l i d)
get_d_each P d p l h = all_get_d P d p l (get_d_all P d l h)

module _ {A : Type 0} where
  pub total_cong : (f g : A → ℤ) (l : List A) → All (λ a. f a ≡ g a) l → total f l ≡ total g l
  unfolding total
  total_cong f g [] h = refl
  total_cong f g (a ∷ l) h = ap₂ ◌+ℤ◌ h.0 (total_cong f g l h.1)

  pub total-add : (f g : A → ℤ) (l : List A) → total (λ a. f a +ℤ g a) l ≡ total f l +ℤ total g l
  unfolding total
  total-add f g [] = refl
  total-add f g (a ∷ l) = comb (f a ∷ g a ∷ total (λ a. f a +ℤ g a) l ∷ total f l ∷ total g l ∷ []) (total-add f g l) (search read depth 40) tt

  pub total_scale : (k : ℤ) (f : A → ℤ) (l : List A) → total (λ a. k *ℤ f a) l ≡ k *ℤ total f l
  unfolding total
  total_scale k f [] = ring (k ∷ []) (search read depth 40) tt
  total_scale k f (a ∷ l) = comb (k ∷ f a ∷ total (λ a. k *ℤ f a) l ∷ total f l ∷ []) (total_scale k f l) (search read depth 40) tt

  pub total-neg : (f : A → ℤ) (l : List A) → total (λ a. neg_ℤ (f a)) l ≡ neg_ℤ (total f l)
  unfolding total
  total-neg f [] = refl
  total-neg f (a ∷ l) = comb (f a ∷ total (λ a. neg_ℤ (f a)) l ∷ total f l ∷ []) (total-neg f l) (search read depth 40) tt

  pub total_append : (f : A → ℤ) (k l : List A) → total f (k ++ l) ≡ total f k +ℤ total f l
  unfolding total
  total_append f [] l = ring (total f l ∷ []) (search read depth 40) tt
  total_append f (a ∷ k) l = comb (f a ∷ total f (k ++ l) ∷ total f k ∷ total f l ∷ []) (total_append f k l) (search read depth 40) tt

  pub total_const : (c : ℤ) (l : List A) → total (λ a. c) l ≡ pos (length l) *ℤ c
  unfolding total
  total_const c [] = ring (c ∷ []) (search read depth 40) tt
  total_const c (a ∷ l) = comb (c ∷ total (λ a. c) l ∷ pos (length l) ∷ []) (total_const c l) (search read depth 40) tt

  pub total_within : (b f : A → ℤ) (l : List A) → All (λ a. Within (b a) (f a)) l → Within (total b l) (total f l)
  unfolding total
  total_within b f [] h = within_self (≤ℤ_refl (pos 0))
  total_within b f (a ∷ l) h = within_add h.0 (total_within b f l h.1)

  pub total_bounded : (b : ℕ) (f : A → ℤ) (l : List A) → All (λ a. Within (pos b) (f a)) l → Within (pos (length l * b)) (total f l)
  total_bounded b f l h = within_is (total_const (pos b) l) refl (total_within (λ a. pos b) f l h)

  -- ---- the order does not matter
  total_permᴰ : (f : A → ℤ) {k l : List A} → Permᴰ k l → total f k ≡ total f l
  unfolding total
  total_permᴰ f Permᴰ.nil = refl
  total_permᴰ f (Permᴰ.cons e d) = ap₂ ◌+ℤ◌ (ap f e) (total_permᴰ f d)
  total_permᴰ f (Permᴰ.swap {a} {b} {a'} {b'} {l} p q) =
      comb (f a ∷ f b ∷ f a' ∷ f b' ∷ total f l ∷ []) (ap f p ⊕ ap f q) (search read depth 40) tt
  total_permᴰ f (Permᴰ.trans d d') = total_permᴰ f d ∙ total_permᴰ f d'

  pub total_perm : (f : A → ℤ) {k l : List A} → Perm k l → total f k ≡ total f l
  total_perm f {k} {l} p = ∥∥₁_elim p (ℤ_set (total f k) (total f l)) (λ d. total_permᴰ f d)

-- ---- images
pub total-map : {A B : Type 0} (f : B → ℤ) (g : A → B) (l : List A) → total f (map g l) ≡ total (λ a. f (g a)) l
unfolding total
total-map f g [] = refl
total-map f g (a ∷ l) = ap (λ z. f (g a) +ℤ z) (total-map f g l)

-- ---- entries, and ranges
pub total-entries : {A : Type 0} (f : A → ℤ) (o : A) (l : List A) → total f l ≡ Σ< (length l) (λ i. f (get_or l i o))
unfolding total Σ<
total-entries f o [] = refl
total-entries f o (a ∷ l) = ap (λ z. f a +ℤ z) (total-entries f o l) ∙ sym (Σ_first (length l) (λ i. f (get_or (a ∷ l) i o)))

pub total-range : {A : Type 0} (m : ℕ) (f : ℕ → A → ℤ) (l : List A) → Σ< m (λ i. total (f i) l) ≡ total (λ a. Σ< m (λ i. f i a)) l
unfolding Σ<
total-range zero f l = sym (total_const (pos 0) l ∙ ring (pos (length l) ∷ []) (search read depth 40) tt)
total-range (suc m) f l = ap (λ z. z +ℤ total (f m) l) (total-range m f l) ∙ sym (total-add (λ a. Σ< m (λ i. f i a)) (f m) l)

pub tally-total : {A : Type 0} (k : A → ℕ) (l : List A) → pos (tally k l) ≡ total (λ a. pos (k a)) l
unfolding tally total
tally-total k [] = refl
tally-total k (a ∷ l) = ap (λ z. pos (k a) +ℤ z) (tally-total k l)

pub tally_const : {A : Type 0} (c : ℕ) (l : List A) → tally (λ a. c) l ≡ length l * c
unfolding tally
tally_const c [] = omega arith
tally_const c (a ∷ l) = omega (arith, tally_const c l)

pub tally_perm : {A : Type 0} (f : A → ℕ) {k l : List A} → Perm k l → tally f k ≡ tally f l
tally_perm f {k} {l} p = ap nat_abs (tally-total f k ∙ total_perm (λ a. pos (f a)) p ∙ sym (tally-total f l))

pub length_perm : {A : Type 0} {k l : List A} → Perm k l → length k ≡ length l
length_perm {A} {k} {l} p = omega (arith, tally_const 1 k, tally_const 1 l, tally_perm (λ (a : A). 1) p)

module _ {A B : Type 0} (f : A → List B) where
  pub total-joined : (g : B → ℤ) (l : List A) → total g (joined f l) ≡ total (λ a. total g (f a)) l
  unfolding total joined
  total-joined g [] = refl
  total-joined g (a ∷ l) = total_append g (f a) (joined f l) ∙ ap (λ z. total g (f a) +ℤ z) (total-joined g l)

  pub all_joined : (P : B → Type 0) (l : List A) → All (λ a. All P (f a)) l → All P (joined f l)
  unfolding joined
  all_joined P [] h = tt
  all_joined P (a ∷ l) h = all_append P (f a) (joined f l) h.0 (all_joined P l h.1)

  pub length-joined : (l : List A) → length (joined f l) ≡ tally (λ a. length (f a)) l
  unfolding joined tally
  length-joined [] = refl
  length-joined (a ∷ l) = length-append (f a) (joined f l) ∙ ap (λ n. length (f a) + n) (length-joined l)
