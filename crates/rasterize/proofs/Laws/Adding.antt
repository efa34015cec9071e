-- Additions to a table: its length stays, each entry gets its own, and one addition after the other is one addition of both.
--
-- Main results
--   added-length                 the length stays
--   added_entry                  each entry gets what its index is given
--   added_unique                 and no other list of this length has those entries
--   added_same                   additions that agree at every index of the table are the same
--   added-added                  two additions are one, of their sum
--   added-both                   two additions are one, of what both add together
--   added_none                   where nothing is added, the table stays
--   added-signed                 two additions with one sign are one, of the sum with that sign
--   added_undone                 what is added with one sign and then with the other leaves the table
--   added_nothing                where nothing is added, with whatever sign, the table stays
--   added-zeros                  a table of coefficients, added once to an empty table, is the list of its entries
use Rattle.std.specs.Prelude.{◌≡◌, refl, List, [], ◌∷◌, ℕ, ◌^◌, ◌<◌, length, get_or, replicate, ℤ, pos, ◌+ℤ◌, ◌-ℤ◌, ◌*ℤ◌}
use Rattle.std.proofs.Common.{sym, ◌∙◌, ap, subst}
use Rattle.std.proofs.lemmas.List.{length-replicate, get_or-replicate}
use Rattle.integers.proofs.Theorems.Ring.{read, ring, comb, ◌⊗◌}
use Rattle.haar.specs.Cells.{children}
use Rattle.haar.specs.Table.{Coefficients}
use Rattle.haar.specs.Entries.{entries}
use Rattle.haar.specs.Plane.{dimensions}
use Rattle.haar.proofs.Laws.Pictures.{tabulate-length, tabulate_entry, tabulate_unique}
use Rattle.haar.proofs.Laws.Entries.{entries-length}
use Rattle.rasterize.specs.Added.{added, entry_of}

-- ---- the one list with those entries
pub added-length : (t : List ℤ) (g : ℕ → ℤ) → length (added t g) ≡ length t
unfolding added
added-length t g = tabulate-length (length t) (λ i. get_or t i (pos 0) +ℤ g i)

pub added_entry : (t : List ℤ) (g : ℕ → ℤ) (i : ℕ) → i < length t → get_or (added t g) i (pos 0) ≡ get_or t i (pos 0) +ℤ g i
unfolding added
added_entry t g i h = tabulate_entry (pos 0) (length t) (λ i. get_or t i (pos 0) +ℤ g i) i h

pub added_unique : (t u : List ℤ) (g : ℕ → ℤ) → length u ≡ length t
    → ((i : ℕ) → i < length t → get_or u i (pos 0) ≡ get_or t i (pos 0) +ℤ g i) → u ≡ added t g
unfolding added
added_unique t u g e h = tabulate_unique (pos 0) u (length t) (λ i. get_or t i (pos 0) +ℤ g i) e h

-- ---- what is added
pub added_same : (t : List ℤ) (f g : ℕ → ℤ) → ((i : ℕ) → i < length t → f i ≡ g i) → added t f ≡ added t g
added_same t f g e = added_unique t (added t f) g (added-length t f) (λ i h. added_entry t f i h ∙ ap (λ z. get_or t i (pos 0) +ℤ z) (e i h))

-- two additions are one, of their sum
pub added-added : (t : List ℤ) (f g : ℕ → ℤ) → added (added t f) g ≡ added t (λ i. f i +ℤ g i)
added-added t f g = added_unique t (added (added t f) g) (λ i. f i +ℤ g i) (added-length (added t f) g ∙ added-length t f) entry
  where
    both : (x y z : ℤ) → (x +ℤ y) +ℤ z ≡ x +ℤ (y +ℤ z)
    both x y z = ring (x ∷ y ∷ z ∷ []) (search read depth 40) tt

    entry : (i : ℕ) → i < length t → get_or (added (added t f) g) i (pos 0) ≡ get_or t i (pos 0) +ℤ (f i +ℤ g i)
    entry i h =
        added_entry (added t f) g i (subst (λ (n : ℕ). i < n) (sym (added-length t f)) h)
        ∙ ap (λ z. z +ℤ g i) (added_entry t f i h) ∙ both (get_or t i (pos 0)) (f i) (g i)

-- of what both add together
pub added-both : (t : List ℤ) (f g sum : ℕ → ℤ) → ((i : ℕ) → i < length t → f i +ℤ g i ≡ sum i) → added (added t f) g ≡ added t sum
added-both t f g sum e = added-added t f g ∙ added_same t (λ i. f i +ℤ g i) sum e

pub added_none : (t : List ℤ) (g : ℕ → ℤ) → ((i : ℕ) → g i ≡ pos 0) → added t g ≡ t
added_none t g e = sym (added_unique t t g refl (λ i h. plain (get_or t i (pos 0)) ∙ ap (λ z. get_or t i (pos 0) +ℤ z) (sym (e i))))
  where
    plain : (x : ℤ) → x ≡ x +ℤ pos 0
    plain x = ring (x ∷ []) (search read depth 40) tt

-- ---- with a sign: what is added is multiplied by it
module _ (t : List ℤ) (sign : ℤ) where
  pub added-signed : (f g sum : ℕ → ℤ) → ((i : ℕ) → i < length t → f i +ℤ g i ≡ sum i)
      → added (added t (λ i. sign *ℤ f i)) (λ i. sign *ℤ g i) ≡ added t (λ i. sign *ℤ sum i)
  added-signed f g sum e =
      added-both t (λ i. sign *ℤ f i) (λ i. sign *ℤ g i) (λ i. sign *ℤ sum i)
      (λ i h. comb (sign ∷ f i ∷ g i ∷ sum i ∷ []) (sign ⊗ e i h) (search read depth 40) tt)

  pub added_undone : (g : ℕ → ℤ) → added (added t (λ i. sign *ℤ g i)) (λ i. (pos 0 -ℤ sign) *ℤ g i) ≡ t
  added_undone g =
      added-added t (λ i. sign *ℤ g i) (λ i. (pos 0 -ℤ sign) *ℤ g i)
      ∙ sym (added_unique t t (λ i. sign *ℤ g i +ℤ (pos 0 -ℤ sign) *ℤ g i) refl (λ i h. both (get_or t i (pos 0)) (g i)))
    where
      both : (x y : ℤ) → x ≡ x +ℤ (sign *ℤ y +ℤ (pos 0 -ℤ sign) *ℤ y)
      both x y = ring (x ∷ sign ∷ y ∷ []) (search read depth 40) tt

  pub added_nothing : (g : ℕ → ℤ) → ((i : ℕ) → g i ≡ pos 0) → added t (λ i. sign *ℤ g i) ≡ t
  added_nothing g e = added_none t (λ i. sign *ℤ g i) (λ i. ap (λ z. sign *ℤ z) (e i) ∙ ring (sign ∷ []) (search read depth 40) tt)

-- ---- an empty table
pub added-zeros : (depth : ℕ) (t : Coefficients dimensions)
    → added (replicate (children dimensions ^ depth) (pos 0)) (λ i. pos 1 *ℤ entry_of depth t i) ≡ entries dimensions depth t
added-zeros depth t =
    sym (added_unique zeros (entries dimensions depth t) (λ i. pos 1 *ℤ entry_of depth t i) (entries-length dimensions depth t ∙ sym long) entry)
  where
    zeros : List ℤ
    zeros = replicate (children dimensions ^ depth) (pos 0)

    long : length zeros ≡ children dimensions ^ depth
    long = length-replicate (children dimensions ^ depth) (pos 0)

    once : (x : ℤ) → x ≡ pos 0 +ℤ pos 1 *ℤ x
    once x = ring (x ∷ []) (search read depth 40) tt

    entry : (i : ℕ) → i < length zeros → entry_of depth t i ≡ get_or zeros i (pos 0) +ℤ pos 1 *ℤ entry_of depth t i
    entry i h =
        once (entry_of depth t i)
        ∙ ap (λ z. z +ℤ pos 1 *ℤ entry_of depth t i)
        (sym (get_or-replicate (children dimensions ^ depth) i (pos 0) (pos 0) (subst (λ (n : ℕ). i < n) long h)))
