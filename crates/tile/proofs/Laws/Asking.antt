-- Question after question, as the code asks them: the first "no" of a list where the first k answers are yes.
--
-- Main results
--   After qs k                 the first k answers are yes, so the others decide
--   question_at qs k            question k
--   none_asked                 no question was asked yet
--   no_at, yes_at              question k's answer decides, or the questions after it do
--   found_no, found_yes        the same by what the code found
--   refused, passed            and by the test of its negation
--   first_refused, first_passed    the same of the questions that a list begins with
--   first_asked, rest_asked        by what a call answered that asks them
use Rattle.std.specs.Prelude.{◌≡◌, refl, Bool, true, false, not, cond, T, List, [], ◌∷◌, ◌++◌, ℕ, zero, suc, get_or, drop}
use Rattle.std.proofs.Common.{sym, ◌∙◌, ap}
use Rattle.std.proofs.lemmas.Bool.{not-true, not-false}
use Rattle.integers.specs.ListSum.{All}
use Rattle.tile.specs.declared.refusal.Refusal.{Refusal}
use Rattle.tile.specs.Answers.{number_of}
use Rattle.tile.specs.Questions.{Question, Yes, first_no}
use Rattle.tile.proofs.Theorems.Numbers.{never_done}
use Rattle.tile.proofs.Laws.FirstNo.{apart, first_no-zero}

pub record After (qs : List Question) (k : ℕ) : Type 0 where
  pub same : first_no qs ≡ first_no (drop k qs)

-- past the list's end there is none that could be answered no
abbrev pub question_at : List Question → ℕ → Question
question_at qs k = get_or qs k (record { number = 0; answer = true })

pub none_asked : (qs : List Question) → After qs 0
none_asked qs = record { same = refl }

next : (qs : List Question) (k : ℕ) → first_no (drop k qs) ≡ cond (question_at qs k).answer (first_no (drop (suc k) qs)) (question_at qs k).number
next [] zero = refl
next [] (suc k) = refl
next (q ∷ qs) zero = refl
next (q ∷ qs) (suc k) = next qs k

module _ {qs : List Question} {k : ℕ} (h : After qs k) where
  decide : {b : Bool} → (question_at qs k).answer ≡ b → first_no qs ≡ cond b (first_no (drop (suc k) qs)) (question_at qs k).number
  decide e = h.same ∙ next qs k ∙ ap (λ b. cond b (first_no (drop (suc k) qs)) (question_at qs k).number) e

  pub no_at : (question_at qs k).answer ≡ false → (question_at qs k).number ≡ first_no qs
  no_at e = sym (decide e)

  pub yes_at : (question_at qs k).answer ≡ true → After qs (suc k)
  yes_at e = record { same = decide e }

  -- what the code found
  module _ {found : Bool} (e : found ≡ (question_at qs k).answer) where
    pub found_no : found ≡ false → (question_at qs k).number ≡ first_no qs
    found_no t = no_at (sym e ∙ t)

    pub found_yes : found ≡ true → After qs (suc k)
    found_yes t = yes_at (sym e ∙ t)

    -- by the test of its negation
    pub refused : not found ≡ true → (question_at qs k).number ≡ first_no qs
    refused t = found_no (not-true found t)

    pub passed : not found ≡ false → After qs (suc k)
    passed t = found_yes (not-false found t)

-- ---- a list that begins with other questions
number_stays : (b : Bool) (n m k : ℕ) → ((n ≡ 0 → ⊥) → n ≡ m) → (cond b n k ≡ 0 → ⊥) → cond b n k ≡ cond b m k
number_stays true n m k e h = e h
number_stays false n m k e h = refl

pub first_refused : (qs rs : List Question) → (first_no qs ≡ 0 → ⊥) → first_no qs ≡ first_no (qs ++ rs)
first_refused [] rs h = absurd (h refl)
first_refused (q ∷ qs) rs h = number_stays q.answer (first_no qs) (first_no (qs ++ rs)) q.number (first_refused qs rs) h

pub first_passed : (qs rs : List Question) → All Yes qs → first_no (qs ++ rs) ≡ first_no rs
first_passed [] rs y = refl
first_passed (q ∷ qs) rs y = ap (λ b. cond b (first_no (qs ++ rs)) q.number) y.0 ∙ first_passed qs rs y.1

-- a call refuses them, or it does not, and what asks the rest answers n
pub first_asked : (qs rs : List Question) (r : Refusal) → number_of r ≡ first_no qs → number_of r ≡ first_no (qs ++ rs)
first_asked qs rs r e = e ∙ first_refused qs rs (λ z. never_done r (e ∙ z))

pub rest_asked : (qs rs : List Question) {n : ℕ} → T (apart qs) → 0 ≡ first_no qs → n ≡ first_no rs → n ≡ first_no (qs ++ rs)
rest_asked qs rs t z e = e ∙ sym (first_passed qs rs ((first_no-zero qs t).0 (sym z)))
