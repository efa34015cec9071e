-- The mark that is next.
--
-- Main results
--   mark_next, numbers_next      those from number k on are it and those after it; their numbers
use Rattle.std.specs.Prelude.{◌≡◌, ℕ, ◌+◌, ◌<◌, List, ◌∷◌, length, drop}
use Rattle.std.proofs.Common.{sym, ap, ◌∙◌, get_or, drop-cons, add-one}
use Rattle.integers.specs.ListSum.{tally}
use Rattle.chords.specs.Sides.{numbers_of, numbers}

pub mark_next : (marks : List ℕ) (k : ℕ) → k < length marks → drop k marks ≡ get_or marks k 0 ∷ drop (k + 1) marks
mark_next marks k h = drop-cons marks k 0 h ∙ ap (λ n. get_or marks k 0 ∷ drop n marks) (sym (add-one k))

pub numbers_next : (marks : List ℕ) (k : ℕ) → k < length marks → numbers (drop k marks) ≡ numbers_of (get_or marks k 0) + numbers (drop (k + 1) marks)
unfolding tally
numbers_next marks k h = ap numbers (mark_next marks k h)
