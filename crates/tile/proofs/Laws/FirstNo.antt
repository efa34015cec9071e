-- The first "no" of a list of questions, in which no two have the same number and none has 0: each number says which question it was.
--
-- Main results
--   apart                        the numbers are above 0, and no two are the same
--   first_no-zero                the answer is 0 exactly where every question is answered yes
--   first_no_at                  and a question's number exactly where it is the first to be answered no
--   decided_yes, decided_no      the questions before it are then answered yes, and it is answered no
--   EachNumber, each_number      both of them, of every question of a list
--   first_no_among               no other number is answered
use Rattle.std.specs.Prelude.{◌≡◌, refl, List, [], ◌∷◌, ◌++◌, map, ◌↔◌, ◌≢◌, Bool, true, false, not, ◌&&◌, cond, ℕ, T, eqb}
use Rattle.std.proofs.Common.{sym, ◌∙◌, subst, append-nil, append_assoc, inl, inr, true≢false, T_not}
use Rattle.std.proofs.Math.Path.{subst⁻¹}
use Rattle.std.proofs.Math.Dec.{eqb_refl}
use Rattle.integers.specs.ListSum.{All}
use Rattle.integers.specs.Tests.{every, OneOf}
use Rattle.tile.specs.Questions.{Yes, No, DecidedBy, Question, first_no}

-- ---- a test of the numbers alone, so that for a given list of questions it is computed
abbrev unlike : ℕ → List Question → Bool
unlike n qs = every (λ q. not (eqb n q.number)) qs

abbrev pub apart : List Question → Bool
apart [] = true
apart (q ∷ qs) = not (eqb q.number 0) && unlike q.number qs && apart qs

both : (a b : Bool) → T (a && b) → T a × T b
both true b t = (tt, t)
both false b t = absurd t

-- what `apart` says of the first question
record First (q : Question) (qs : List Question) : Type 0 where
  nonzero : q.number ≢ 0
  new : T (unlike q.number qs)
  rest : T (apart qs)

differs : (m n : ℕ) → T (not (eqb m n)) → m ≢ n
differs m n t e = T_not (eqb m n) t (subst (λ k. T (eqb m k)) e (eqb_refl m))

first : (q : Question) (qs : List Question) → T (apart (q ∷ qs)) → First q qs
first q qs t =
    let p = both (not (eqb q.number 0) && unlike q.number qs) (apart qs) t in
    let r = both (not (eqb q.number 0)) (unlike q.number qs) p.0 in
    record { nonzero = differs q.number 0 r.0; new = r.1; rest = p.1 }

unlike_tail : (n : ℕ) (q : Question) (qs : List Question) → T (unlike n (q ∷ qs)) → (n ≢ q.number) × T (unlike n qs)
unlike_tail n q qs t = let p = both (not (eqb n q.number)) (unlike n qs) t in (differs n q.number p.0, p.1)

unlike_at : (n : ℕ) (before : List Question) (q : Question) (after : List Question) → T (unlike n (before ++ (q ∷ after))) → n ≢ q.number
unlike_at n [] q after t = (unlike_tail n q after t).0
unlike_at n (b ∷ before) q after t = unlike_at n before q after (unlike_tail n b (before ++ (q ∷ after)) t).1

-- ---- one question: its number m where it is answered no, and else n
cond_on : (b : Bool) {m n k : ℕ} {P : Type 0} → m ≢ k → ((n ≡ k) ↔ P) → (cond b n m ≡ k) ↔ ((b ≡ true) × P)
cond_on true h p = (λ e. (refl, p.0 e), λ i. p.1 i.1)
cond_on false h p = (λ e. absurd (h e), λ i. absurd (true≢false (sym i.0)))

cond_here : (b : Bool) {m n : ℕ} → n ≢ m → (cond b n m ≡ m) ↔ (b ≡ false)
cond_here true h = (λ e. absurd (h e), λ i. absurd (true≢false i))
cond_here false h = (λ _. refl, λ _. refl)

cond_new : (b : Bool) {m n k : ℕ} → k ≢ m → n ≢ k → cond b n m ≢ k
cond_new true h i e = i e
cond_new false h i e = h (sym e)

-- ---- lists of questions
first_no_new : (n : ℕ) (qs : List Question) → n ≢ 0 → T (unlike n qs) → first_no qs ≢ n
first_no_new n [] z t = λ e. z (sym e)
first_no_new n (q ∷ qs) z t = let p = unlike_tail n q qs t in cond_new q.answer p.0 (first_no_new n qs z p.1)

pub first_no-zero : (qs : List Question) → T (apart qs) → (first_no qs ≡ 0) ↔ All Yes qs
first_no-zero [] t = (λ _. tt, λ _. refl)
first_no-zero (q ∷ qs) t = let p = first q qs t in cond_on q.answer p.nonzero (first_no-zero qs p.rest)

pub first_no_at : (before : List Question) (q : Question) (after : List Question) → T (apart (before ++ (q ∷ after)))
    → (first_no (before ++ (q ∷ after)) ≡ q.number) ↔ DecidedBy before q
first_no_at [] q after t = let p = first q after t in cond_here q.answer (first_no_new q.number after p.nonzero p.new)
first_no_at (b ∷ before) q after t =
    let p = first b (before ++ (q ∷ after)) t in cond_on b.answer (unlike_at b.number before q after p.new) (first_no_at before q after p.rest)

pub decided_yes : (before : List Question) (q : Question) → DecidedBy before q → All Yes before
decided_yes [] q d = tt
decided_yes (b ∷ before) q d = (d.0, decided_yes before q d.1)

pub decided_no : (before : List Question) (q : Question) → DecidedBy before q → No q
decided_no [] q d = d
decided_no (b ∷ before) q d = decided_no before q d.1

-- What the number n says of each question of a list, and of all. The questions `before` come before the list.
abbrev pub EachNumber : ℕ → List Question → List Question → Type 0
EachNumber n before [] = (n ≡ 0) ↔ All Yes before
EachNumber n before (q ∷ after) = ((n ≡ q.number) ↔ DecidedBy before q) × EachNumber n (before ++ (q ∷ [])) after

each_number_of : (before after qs : List Question) → before ++ after ≡ qs → T (apart qs) → EachNumber (first_no qs) before after
each_number_of before [] qs e t = subst (λ l. (first_no qs ≡ 0) ↔ All Yes l) (sym e ∙ append-nil before) (first_no-zero qs t)
each_number_of before (q ∷ after) qs e t = (
  subst (λ l. (first_no l ≡ q.number) ↔ DecidedBy before q) e (first_no_at before q after (subst⁻¹ (λ l. T (apart l)) e t)),
  each_number_of (before ++ (q ∷ [])) after qs (append_assoc before (q ∷ []) after ∙ e) t,
)

pub each_number : (qs : List Question) → T (apart qs) → EachNumber (first_no qs) [] qs
each_number qs t = each_number_of [] qs qs refl t

pub first_no_among : (qs : List Question) → OneOf (first_no qs) (0 ∷ map (λ q. q.number) qs)
first_no_among [] = inl refl
first_no_among (q ∷ qs) = go q.answer (first_no_among qs)
  where
    go : (b : Bool) → OneOf (first_no qs) (0 ∷ map (λ q. q.number) qs) → OneOf (cond b (first_no qs) q.number) (0 ∷ q.number ∷ map (λ q. q.number) qs)
    go false h = inr (inl refl)
    go true (inl z) = inl z
    go true (inr h) = inr (inr h)
