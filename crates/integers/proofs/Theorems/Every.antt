-- A test of every element of a list: one element after the other, what is left to be tested at i; and of lists made of others.
--
-- Main results
--   every_fails                the element at i fails: the test does not hold of every element
--   every_next                 it passes: the others decide
--   every_end                  there is none
--   every-pair                 the same of two elements at once
--   every_entry, every_part    where the test holds of every element, it holds of one, and of every element of a part
--   every_append, every-both   a test of two lists, one after the other; two tests of one list
--   every_map                  a test of what is made of each element
--   every_perm                 the order of the list does not matter
use Rattle.std.specs.Prelude.{◌≡◌, refl, ◌↔◌, Bool, true, false, ◌&&◌, ℕ, suc, ◌+◌, ◌<◌, ◌≤◌, length, get_or, take, drop}
use Rattle.std.proofs.Common.{sym, ◌∙◌, ap, ap₂, add-one, arith, drop_of_length-le, drop-cons}
use Rattle.std.proofs.Math.Logic.{∥∥₁_elim}
use Rattle.std.proofs.Math.Bool.{Bool-set}
use mathlib.Core.List.{List, [], ◌∷◌, ◌++◌, map, Perm, Permᴰ}
use Rattle.integers.specs.ListSum.{All}
use Rattle.integers.proofs.Theorems.ListSum.{all_entry, all_take, all_drop}
use Rattle.integers.specs.Tests.{every}
use Rattle.integers.proofs.Theorems.Tests.{every_means}

module _ {A : Type 0} (test : A → Bool) (d : A) (xs : List A) (i : ℕ) where
  every_at : {b : Bool} → i < length xs → test (get_or xs i d) ≡ b → every test (drop i xs) ≡ (b && every test (drop (suc i) xs))
  every_at h e = ap (every test) (drop-cons xs i d h) ∙ ap (λ b. b && every test (drop (suc i) xs)) e

  pub every_fails : i < length xs → test (get_or xs i d) ≡ false → every test (drop i xs) ≡ false
  every_fails h e = every_at h e

  pub every_next : i < length xs → test (get_or xs i d) ≡ true → every test (drop i xs) ≡ every test (drop (i + 1) xs)
  every_next h e = every_at h e ∙ ap (λ k. every test (drop k xs)) (sym (add-one i))

  pub every_end : length xs ≤ i → every test (drop i xs) ≡ true
  every_end h = ap (every test) (drop_of_length-le xs h)

-- ---- two elements at once
same_answer : (a b c : Bool) → (a && (b && c)) ≡ (a && b && c)
same_answer true b c = refl
same_answer false b c = refl

pub every-pair : {A : Type 0} (test : A → Bool) (d : A) (xs : List A) (i : ℕ) {b : Bool} → i + 1 < length xs → (test (get_or xs i d) && test (get_or xs (i + 1) d)) ≡ b
    → every test (drop i xs) ≡ (b && every test (drop (i + 2) xs))
every-pair test d xs i h e =
    let first = test (get_or xs i d) in
    let next : suc i ≡ i + 1 = omega arith in
    let past : suc (i + 1) ≡ i + 2 = omega arith in
    every_at test d xs i (omega arith) refl
    ∙ ap (λ k. first && every test (drop k xs)) next
    ∙ ap (λ r. first && r) (every_at test d xs (i + 1) h refl ∙ ap (λ k. test (get_or xs (i + 1) d) && every test (drop k xs)) past)
    ∙ same_answer first (test (get_or xs (i + 1) d)) (every test (drop (i + 2) xs))
    ∙ ap (λ b. b && every test (drop (i + 2) xs)) e

-- ---- where the test holds of every element
module _ {A : Type 0} (test : A → Bool) where
  abbrev Passes : A → Type 0
  Passes a = test a ≡ true

  each_passes : (l : List A) → (every test l ≡ true) ↔ All Passes l
  each_passes = every_means test (λ a. (λ e. e, λ e. e))

  pub every_entry : (d : A) (l : List A) → every test l ≡ true → (i : ℕ) → i < length l → test (get_or l i d) ≡ true
  every_entry d l e = all_entry Passes d l ((each_passes l).0 e)

  pub every_part : (i n : ℕ) (l : List A) → every test l ≡ true → every test (take n (drop i l)) ≡ true
  every_part i n l e = (each_passes (take n (drop i l))).1 (all_take Passes n (drop i l) (all_drop Passes i l ((each_passes l).0 e)))

-- ---- lists one after the other, two tests, another order
exchanged : (a b c d : Bool) → ((a && b) && (c && d)) ≡ ((a && c) && (b && d))
exchanged true true c d = refl
exchanged true false true d = refl
exchanged true false false d = refl
exchanged false b c d = refl

module _ {A : Type 0} (test : A → Bool) where
  pub every_append : (k l : List A) → every test (k ++ l) ≡ (every test k && every test l)
  every_append [] l = refl
  every_append (a ∷ k) l = ap (λ b. test a && b) (every_append k l) ∙ same_answer (test a) (every test k) (every test l)

  pub every-both : (other : A → Bool) (l : List A) → every (λ a. test a && other a) l ≡ (every test l && every other l)
  every-both other [] = refl
  every-both other (a ∷ l) = ap (λ b. test a && other a && b) (every-both other l) ∙ exchanged (test a) (other a) (every test l) (every other l)

  every_permᴰ : {k l : List A} → Permᴰ k l → every test k ≡ every test l
  every_permᴰ Permᴰ.nil = refl
  every_permᴰ (Permᴰ.cons e d) = ap₂ ◌&&◌ (ap test e) (every_permᴰ d)
  every_permᴰ (Permᴰ.swap {a} {b} {a'} {b'} {l} p q) =
      swapped (test a) (test b) (every test l) ∙ ap₂ (λ x y. x && (y && every test l)) (ap test q) (ap test p)
    where
      swapped : (a b c : Bool) → (a && (b && c)) ≡ (b && (a && c))
      swapped true true c = refl
      swapped true false c = refl
      swapped false true c = refl
      swapped false false c = refl
  every_permᴰ (Permᴰ.trans d d') = every_permᴰ d ∙ every_permᴰ d'

  pub every_perm : {k l : List A} → Perm k l → every test k ≡ every test l
  every_perm {k} {l} p = ∥∥₁_elim p (Bool-set (every test k) (every test l)) (λ d. every_permᴰ d)

pub every_map : {A B : Type 0} (test : B → Bool) (f : A → B) (l : List A) → every test (map f l) ≡ every (λ a. test (f a)) l
every_map test f [] = refl
every_map test f (a ∷ l) = ap (λ b. test (f a) && b) (every_map test f l)
