-- Sums over a list, and a property of every element.
--
-- Main results (the laws among them are in proofs/Theorems/ListSum.antt)
--   all_of, all_map, all_append, all_front, all_back, all_image, all_take, all_drop, all_entry        of `All P l`, that every element of l has the property P
--   all_get_d, get_d_all, get_d_each     past its end an entry of a list counts as the default: what holds of that too holds of every entry
--   total_cong, total-add, total_scale, total-neg, total_append, total_const     as of any finite sum
--   total_within, total_bounded          terms bounded each by its own bound are bounded by the bounds' sum; each by b, by as many times b
--   total_perm                           the order of the list does not matter
--   total-map                            the sum over the images of a list's elements
--   total-entries                        the sum over the numbers of a list's entries
--   total-range                          sums over a list, added up, are the sum over the list of what is added up
--   tally, tally-total, tally_const,
--   tally_perm                           a count over a list: a sum of natural numbers
--   length_perm                          in another order a list is as long
--   joined f l                           the lists that f makes of l's elements, one after the other
--   total-joined, all_joined,
--   length-joined                        a sum over it, a property of all its elements, its length
use Rattle.std.specs.Prelude.{ℕ, ◌+◌, ℤ}
use mathlib.Core.List.{List, [], ◌∷◌, ◌++◌}
use Rattle.std.proofs.Math.IntN.{pos, ◌+ℤ◌}

-- ---- every element has the property
abbrev pub All : {A : Type 0} → (A → Type 0) → List A → Type 0
All P [] = Unit {0}
All P (a ∷ l) = P a × All P l

-- ---- the sum of f over a list
unfoldable pub total : {A : Type 0} → (A → ℤ) → List A → ℤ
total f [] = pos 0
total f (a ∷ l) = f a +ℤ total f l

-- ---- a count over a list
unfoldable pub tally : {A : Type 0} → (A → ℕ) → List A → ℕ
tally k [] = 0
tally k (a ∷ l) = k a + tally k l

-- ---- the lists that are made of a list's elements, one after the other
unfoldable pub joined : {A B : Type 0} → (A → List B) → List A → List B
joined f [] = []
joined f (a ∷ l) = f a ++ joined f l
