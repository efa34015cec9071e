-- Laws of what specs/Search.antt defines. The head of that file lists the main results.
use Rattle.std.specs.Prelude.{◌≡◌, refl, ◌↔◌, ◌⊎◌, Bool, true, false, ◌&&◌, cond, not, ltb, List, [], ◌∷◌, ◌++◌, ℕ, zero, suc, ◌+◌, ◌*◌, ◌<◌, ◌≤◌, length, get_or, take, drop, Option, None, Some, is_none}
use Rattle.std.proofs.Common.{sym, ◌∙◌, ap, inl, inr, true≢false, add-one, arith, drop_of_length-le, drop-cons, drop-drop, mul-suc}
use native.Mathlib.Numerals.{unary_clauses}
use Rattle.integers.specs.ListSum.{All}
use Rattle.integers.specs.Tests.{every}
use Rattle.integers.proofs.Theorems.Tests.{every_means, ltb_means, same_means}
use Rattle.std.specs.Option.{option_map}
use Rattle.std.specs.List.{position_or_len}
use Rattle.std.specs.Simd.{first_chunks}
use Rattle.integers.specs.Search.{LeastFailing, first_failing, looked_at, looked_of}

-- ---- the count, where not all pass and where all do
module _ {A : Type 0} (test : A → Bool) where
  some_looked_at : (l : List A) → every test l ≡ false → looked_at test l ≡ 0 → ⊥
  some_looked_at [] e n = true≢false e
  some_looked_at (a ∷ l) e n = go (test a) n
    where
      go : (b : Bool) → cond b (suc (looked_at test l)) 1 ≡ 0 → ⊥
      go true n = omega (arith, n)
      go false n = omega (arith, n)

  last_looked_at : (l : List A) → every test l ≡ false → (i : ℕ) × (looked_at test l ≡ suc i)
  last_looked_at l e = go (looked_at test l) refl
    where
      go : (n : ℕ) → looked_at test l ≡ n → (i : ℕ) × (looked_at test l ≡ suc i)
      go zero n = absurd (some_looked_at l e n)
      go (suc i) n = (i, n)

  all_looked_at : (l : List A) → every test l ≡ true → looked_at test l ≡ length l
  all_looked_at [] e = refl
  all_looked_at (a ∷ l) e = go (test a) (all_looked_at l) e
    where
      go : (b : Bool) → (every test l ≡ true → looked_at test l ≡ length l) → (b && every test l) ≡ true
          → cond b (suc (looked_at test l)) 1 ≡ suc (length l)
      go true rest e = ap suc (rest e)
      go false rest e = absurd (true≢false (sym e))

-- ---- what the two answers say together, of a test that decides a property
module _ {A : Type 0} (test : A → Bool) {P : A → Type 0} (means : (a : A) → (test a ≡ true) ↔ P a) where
  -- from left to right the first answer is enough
  pub looked_all : (l : List A) → ((every test l ≡ true) × (looked_at test l ≡ length l)) ↔ All P l
  looked_all l = (λ h. (every_means test means l).0 h.0, λ h. let e = (every_means test means l).1 h in (e, all_looked_at test l e))

  module _ (d : A) where
    -- with an element more in front, which has the property
    least_there : (a : A) (l : List A) (i : ℕ) → P a → LeastFailing P d l i ↔ LeastFailing P d (a ∷ l) (suc i)
    least_there a l i p = (λ h. (omega (arith, h.0), before h, h.2), λ h. (omega (arith, h.0), λ j k. h.1 (suc j) (omega (arith, k)), h.2))
      where
        before : LeastFailing P d l i → (j : ℕ) → j < suc i → P (get_or (a ∷ l) j d)
        before h zero k = p
        before h (suc j) k = h.1 j (omega (arith, k))

    pub looked_least : (l : List A) (i : ℕ) → ((every test l ≡ false) × (looked_at test l ≡ suc i)) ↔ LeastFailing P d l i
    looked_least [] i = (λ h. absurd (true≢false h.0), λ h. absurd (omega (arith, h.0)))
    looked_least (a ∷ l) i = go (test a) (means a) (looked_least l) i
      where
        go : (b : Bool) → ((b ≡ true) ↔ P a) → ((i : ℕ) → ((every test l ≡ false) × (looked_at test l ≡ suc i)) ↔ LeastFailing P d l i)
            → (i : ℕ) → (((b && every test l) ≡ false) × (cond b (suc (looked_at test l)) 1 ≡ suc i)) ↔ LeastFailing P d (a ∷ l) i
        go true m rest zero = (λ h. absurd (some_looked_at test l h.0 (omega (arith, h.1))), λ h. absurd (h.2 (m.0 refl)))
        go true m rest (suc i) =
            let there = least_there a l i (m.0 refl) in
            (λ h. there.0 ((rest i).0 (h.0, omega (arith, h.1))), λ h. let e = (rest i).1 (there.1 h) in (e.0, ap suc e.1))
        go false m rest zero = (λ h. (omega arith, λ j k. absurd (omega (arith, k)), λ p. true≢false (sym (m.1 p))), λ h. (refl, refl))
        go false m rest (suc i) = (λ h. absurd (omega (arith, h.1)), λ h. absurd (true≢false (sym (m.1 (h.1 0 (omega arith))))))

    pub least_or_all : (l : List A) → ((i : ℕ) × LeastFailing P d l i × (looked_at test l ≡ suc i)) ⊎ (All P l × (looked_at test l ≡ length l))
    least_or_all l = go (every test l) refl
      where
        go : (b : Bool) → every test l ≡ b → ((i : ℕ) × LeastFailing P d l i × (looked_at test l ≡ suc i)) ⊎ (All P l × (looked_at test l ≡ length l))
        go true e = inr ((every_means test means l).0 e, all_looked_at test l e)
        go false e = let n = last_looked_at test l e in inl (n.0, (looked_least l n.0).0 (e, n.1), n.1)

-- ---- what the count does not tell, and what the answers do not need
module _ {A : Type 0} (test : A → Bool) where
  pub looked_last : (l : List A) (a b : A) → looked_at test (l ++ (a ∷ [])) ≡ looked_at test (l ++ (b ∷ []))
  looked_last [] a b = one (test a) ∙ sym (one (test b))
    where
      one : (passes : Bool) → cond passes (suc 0) 1 ≡ suc 0
      one true = refl
      one false = refl
  looked_last (x ∷ l) a b = ap (λ n. cond (test x) (suc n) 1) (looked_last l a b)

  pub rest_immaterial : (l rest : List A) → every test l ≡ false
      → (every test (take (looked_at test l) l ++ rest) ≡ false) × (looked_at test (take (looked_at test l) l ++ rest) ≡ looked_at test l)
  rest_immaterial [] rest e = absurd (true≢false e)
  rest_immaterial (a ∷ l) rest e = go (test a) refl (rest_immaterial l rest) e
    where
      go : (b : Bool) → test a ≡ b
          → (every test l ≡ false
          → (every test (take (looked_at test l) l ++ rest) ≡ false) × (looked_at test (take (looked_at test l) l ++ rest) ≡ looked_at test l))
          → (b && every test l) ≡ false
          → (let n = cond b (suc (looked_at test l)) 1 in
          (every test (take n (a ∷ l) ++ rest) ≡ false) × (looked_at test (take n (a ∷ l) ++ rest) ≡ n))
      go true t shorter e =
          let h = shorter e in
          let others = take (looked_at test l) l ++ rest in
          (ap (λ b. b && every test others) t ∙ h.0, ap (λ b. cond b (suc (looked_at test others)) 1) t ∙ ap suc h.1)
      go false t shorter e = (ap (λ b. b && every test rest) t, ap (λ b. cond b (suc (looked_at test rest)) 1) t)

-- ---- what is left to look at from i on
module _ {A : Type 0} (test : A → Bool) (d : A) (xs : List A) (i : ℕ) where
  looked_from : {b : Bool} → i < length xs → test (get_or xs i d) ≡ b → looked_at test (drop i xs) ≡ cond b (suc (looked_at test (drop (suc i) xs))) 1
  looked_from h e = ap (looked_at test) (drop-cons xs i d h) ∙ ap (λ b. cond b (suc (looked_at test (drop (suc i) xs))) 1) e

  pub looked_fails : i < length xs → test (get_or xs i d) ≡ false → looked_at test (drop i xs) ≡ 1
  looked_fails h e = looked_from h e

  pub looked_next : i < length xs → test (get_or xs i d) ≡ true → looked_at test (drop i xs) ≡ suc (looked_at test (drop (i + 1) xs))
  looked_next h e = looked_from h e ∙ ap (λ k. suc (looked_at test (drop k xs))) (sym (add-one i))

  pub looked_end : length xs ≤ i → looked_at test (drop i xs) ≡ 0
  looked_end h = ap (looked_at test) (drop_of_length-le xs h)

-- ---- the place that is answered, and what it tells
module _ {A : Type 0} (test : A → Bool) where
  first_of_more : (a : A) (l : List A) → first_failing test (a ∷ l) ≡ cond (test a) (option_map suc (first_failing test l)) (Some 0)
  first_of_more a l = go (test a) (position_or_len (λ a. not (test a)) l) (length l)
    where
      earlier : (m n : ℕ) → ltb (1 + m) (suc n) ≡ ltb m n
      earlier m n =
          same_means (ltb (1 + m) (suc n)) (ltb m n)
          (λ e. omega (arith, (ltb_means (1 + m) (suc n)).0 e), λ h. (ltb_means (1 + m) (suc n)).1 (omega (arith, h)))
          (ltb_means m n)

      placed : (b : Bool) (m : ℕ) → cond b (Some (1 + m)) None ≡ option_map suc (cond b (Some m) None)
      placed true m = ap Some (omega arith)
      placed false m = refl

      go : (b : Bool) (m n : ℕ) → cond (ltb (cond (not (not b)) (1 + m) 0) (suc n)) (Some (cond (not (not b)) (1 + m) 0)) None
          ≡ cond b (option_map suc (cond (ltb m n) (Some m) None)) (Some 0)
      go true m n = ap (λ b. cond b (Some (1 + m)) None) (earlier m n) ∙ placed (ltb m n) m
      go false m n = ap (λ b. cond b (Some 0) None) ((ltb_means 0 (suc n)).1 (omega arith))

  pub first_answers : (l : List A) → is_none (first_failing test l) ≡ every test l
  first_answers [] = refl
  first_answers (a ∷ l) = ap is_none (first_of_more a l) ∙ go (test a) (first_failing test l) (first_answers l)
    where
      go : (b : Bool) (r : Option ℕ) → is_none r ≡ every test l → is_none (cond b (option_map suc r) (Some 0)) ≡ (b && every test l)
      go true None e = e
      go true (Some i) e = e
      go false r e = refl

  pub first_looked : (l : List A) → looked_of (length l) (first_failing test l) ≡ looked_at test l
  first_looked [] = refl
  first_looked (a ∷ l) = ap (looked_of (suc (length l))) (first_of_more a l) ∙ go (test a) (first_failing test l) (first_looked l)
    where
      go : (b : Bool) (r : Option ℕ) → looked_of (length l) r ≡ looked_at test l
          → looked_of (suc (length l)) (cond b (option_map suc r) (Some 0)) ≡ cond b (suc (looked_at test l)) 1
      go true None e = omega (arith, e)
      go true (Some i) e = omega (arith, e)
      go false r e = refl

  -- of a list of which the first n are known
  pub first_after : (n : ℕ) (l : List A) → every test (take n l) ≡ true → first_failing test l ≡ option_map (λ j. n + j) (first_failing test (drop n l))
  first_after zero l e = go (first_failing test l)
    where
      go : (r : Option ℕ) → r ≡ option_map (λ j. 0 + j) r
      go None = refl
      go (Some j) = ap Some (omega arith)
  first_after (suc n) [] e = refl
  first_after (suc n) (a ∷ l) e = first_of_more a l ∙ go (test a) (first_after n l) e
    where
      further : (r : Option ℕ) → option_map suc (option_map (λ j. n + j) r) ≡ option_map (λ j. suc n + j) r
      further None = refl
      further (Some j) = ap Some (omega arith)

      go : (b : Bool) → (every test (take n l) ≡ true → first_failing test l ≡ option_map (λ j. n + j) (first_failing test (drop n l)))
          → (b && every test (take n l)) ≡ true → cond b (option_map suc (first_failing test l)) (Some 0) ≡ option_map (λ j. suc n + j) (first_failing test (drop n l))
      go true rest e = ap (option_map suc) (rest e) ∙ further (first_failing test (drop n l))
      go false rest e = absurd (true≢false (sym e))

  pub first_here : (n : ℕ) (l : List A) (j : ℕ) → first_failing test (take n l) ≡ Some j → first_failing test l ≡ Some j
  first_here zero l j e = cc
  first_here (suc n) [] j e = e
  first_here (suc n) (a ∷ l) j e =
      first_of_more a l ∙ go (test a) j (first_failing test (take n l)) (first_here n l) (sym (first_of_more a (take n l)) ∙ e)
    where
      go : (b : Bool) (j : ℕ) (r : Option ℕ) → ((i : ℕ) → r ≡ Some i → first_failing test l ≡ Some i)
          → cond b (option_map suc r) (Some 0) ≡ Some j → cond b (option_map suc (first_failing test l)) (Some 0) ≡ Some j
      go false j r h e = e
      go true j None h e = cc
      go true j (Some i) h e = ap (option_map suc) (h i refl) ∙ e

-- what a search says that answers that place
pub answer_says : {A : Type 0} (test : A → Bool) (l : List A) (r : Option ℕ) → r ≡ first_failing test l
    → record { first_value : r ≡ first_failing test l; within_value : is_none r ≡ every test l; looked_value : looked_of (length l) r ≡ looked_at test l }
answer_says test l r e = record {
  first_value = e;
  within_value = ap is_none e ∙ first_answers test l;
  looked_value = ap (looked_of (length l)) e ∙ first_looked test l;
}

-- the k-th of the parts of n elements
pub part_is : {A : Type 0} (n m k : ℕ) (l d : List A) → k < m → get_or (first_chunks n m l) k d ≡ take n (drop (n * k) l)
part_is n zero k l d h = absurd (omega (arith, h))
part_is n (suc m) zero l d h = ap (λ i. take n (drop i l)) {x = 0} (simp unary_clauses)
part_is n (suc m) (suc k) l d h = part_is n m k (drop n l) d (omega (arith, h)) ∙ ap (take n) (drop-drop (n * k) n l) ∙ ap (λ i. take n (drop i l)) {x = n + n * k} (omega (arith, mul-suc n k))
