-- A search that goes through a list in its order and ends at the first element that fails a test (02, P2). It answers the place of that element, or none:
-- `first_failing test l`. That tells whether all pass, `every test l` of `Tests`, and how many elements were looked at, `looked_at test l`. Places count from 0.
--
-- Definitions
--   first_failing test l                   the place of the first that fails, or None where none does
--   looked_at test l                       how many elements the search looks at: one more than the place of the first that fails, or all
--   looked_of n answer                     how many of n elements a search that answers a place, or None for no place, says that it looked at
--   LeastFailing P d l i                   i is the least place of l whose element does not have the property P
-- Main results (the laws among them are in proofs/Theorems/Search.antt)
--   least_or_all                           the count is one more than the least place whose element fails, or all where there is none
--   looked_least                           not all pass, and one more than i were looked at: exactly where i is the least place whose element fails
--   looked_all                             all pass, and all were looked at: exactly where every element has the property
--   looked_last                            where the count is the length it does not tell whether the last element passes, and so the search answers a place
--   first_answers, first_looked            what the place that is answered tells: whether all pass; how many were looked at; both at once in `answer_says`
--   first_after, first_here                it is that of what comes after a part of which all pass; or that of a front that has one that fails
--   part_is                                the parts of as many elements each, one after the other, as code has them
--   rest_immaterial                        where an element fails, what comes after those that were looked at makes no difference to either answer
--   looked_fails, looked_next, looked_end  for a loop: the element at i fails; it passes; there is none
use Rattle.std.specs.Prelude.{Bool, cond, not, List, [], ◌∷◌, ℕ, suc, ◌<◌, length, get_or, position, Option, None, Some}

abbrev pub first_failing : {A : Type 0} → (A → Bool) → List A → Option ℕ
first_failing test = position (λ a. not (test a))

abbrev pub looked_at : {A : Type 0} → (A → Bool) → List A → ℕ
looked_at test [] = 0
looked_at test (a ∷ l) = cond (test a) (suc (looked_at test l)) 1

abbrev pub looked_of : ℕ → Option ℕ → ℕ
looked_of n None = n
looked_of n (Some i) = suc i

-- `get_or` wants a default, `d`, for places past the end; i and those before it are places of l
abbrev pub LeastFailing : {A : Type 0} (P : A → Type 0) → A → List A → ℕ → Type 0
LeastFailing P d l i = (i < length l) × ((j : ℕ) → j < i → P (get_or l j d)) × (P (get_or l i d) → ⊥)
