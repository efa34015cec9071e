-- The list of a table's entries: each coefficient stands at its index, and no other list of this length has them so.
--
-- Main results
--   entries-length               there are as many as the cells of the level at the depth
--   entries-root                 the root stands first
--   entries_detail               and each detail at its index
--   entries-stored               so what the list holds is the table
--   entries_unique               and it is the one such list of its length
--   entries_within               a bound of the coefficients bounds every entry
use Rattle.std.specs.Prelude.{◌≡◌, refl, List, ℕ, zero, suc, ◌+◌, ◌*◌, ◌-◌, ◌/◌, ◌%◌, ◌^◌, ◌<◌, length, get_or, ℤ, pos}
use Rattle.std.proofs.Common.{sym, ◌∙◌, ap, ap₂, subst, arith, length-append, get_or-append-add, pow_pos}
use Rattle.std.proofs.Math.Decide.{dec_lt}
use Rattle.std.proofs.Math.Nat.{pow-zero, one-le-pow}
use Rattle.std.proofs.Math.ListN.{get_or-append}
use Rattle.integers.specs.Within.{Within}
use Rattle.integers.proofs.Theorems.Within.{within_is, within_zero}
use Rattle.integers.proofs.Theorems.ListSum.{get_d_each}
use Rattle.haar.specs.Cells.{children, details, Cell, cell_at}
use Rattle.haar.specs.Table.{Coefficients, index, stored, Bounded, SameBelow}
use Rattle.haar.specs.Entries.{level_details, entries}
use Rattle.haar.proofs.Laws.Cells.{next_level}
use Rattle.haar.proofs.Laws.Layout.{IsDetail, index_low, index_high, index_within, cell_of-index, number_of-index, index-onto}
use Rattle.haar.proofs.Laws.Stored.{stored_unique}
use Rattle.haar.proofs.Laws.Pictures.{tabulate-length, tabulate_entry}

-- ---- one level
level_length : (n : ℕ) (t : Coefficients n) (j : ℕ) → length (level_details n t j) ≡ details n * children n ^ j
unfolding level_details
level_length n t j = tabulate-length (details n * children n ^ j) (λ i. t.detail j (cell_at n (2 ^ j) (i / details n)) (suc (i % details n)))

-- a level's list begins with the detail whose index is `children n ^ j`
level_entry : {n j : ℕ} {cell : Cell n} {k : ℕ} (t : Coefficients n) → IsDetail n j cell k
    → get_or (level_details n t j) (index n j cell k - children n ^ j) (pos 0) ≡ t.detail j cell k
unfolding level_details
level_entry {n} {j} {cell} {k} t d =
    tabulate_entry (pos 0) (details n * children n ^ j) (λ i. t.detail j (cell_at n (2 ^ j) (i / details n)) (suc (i % details n)))
    (index n j cell k - children n ^ j) (omega (arith, index_low n j cell k, index_high d, next_level n j))
    ∙ ap₂ (t.detail j) (cell_of-index d) (number_of-index d)

-- ---- all levels above a depth
pub entries-length : (n depth : ℕ) (t : Coefficients n) → length (entries n depth t) ≡ children n ^ depth
unfolding entries
entries-length n zero t = sym (pow-zero (children n))
entries-length n (suc j) t =
    length-append (entries n j t) (level_details n t j) ∙ ap₂ ◌+◌ (entries-length n j t) (level_length n t j) ∙ sym (next_level n j)

-- one level more leaves the entries before it as they are
earlier : (n j : ℕ) (t : Coefficients n) (i : ℕ) → i < children n ^ j → get_or (entries n (suc j) t) i (pos 0) ≡ get_or (entries n j t) i (pos 0)
unfolding entries
earlier n j t i h = get_or-append (entries n j t) (level_details n t j) (pos 0) i (omega (arith, entries-length n j t))

pub entries-root : (n depth : ℕ) (t : Coefficients n) → get_or (entries n depth t) 0 (pos 0) ≡ t.root
unfolding entries
entries-root n zero t = refl
entries-root n (suc j) t = earlier n j t 0 (one-le-pow j (children n) (pow_pos n)) ∙ entries-root n j t

deepest : {n j : ℕ} {cell : Cell n} {k : ℕ} (t : Coefficients n) → IsDetail n j cell k
    → get_or (entries n (suc j) t) (index n j cell k) (pos 0) ≡ t.detail j cell k
unfolding entries
deepest {n} {j} {cell} {k} t d =
    let l : List ℤ = entries n j t in
    let i : ℕ = index n j cell k in
    let o : ℕ = i - children n ^ j in
    let e : i ≡ length l + o = omega (arith, entries-length n j t, index_low n j cell k) in
    ap (λ p. get_or (entries n (suc j) t) p (pos 0)) e ∙ get_or-append-add l (level_details n t j) o (pos 0) ∙ level_entry t d

pub entries_detail : {n depth j : ℕ} {cell : Cell n} {k : ℕ} (t : Coefficients n) → j < depth → IsDetail n j cell k
    → get_or (entries n depth t) (index n j cell k) (pos 0) ≡ t.detail j cell k
entries_detail {n} {depth} {j} {cell} {k} t h d = go depth h
  where
    last : (m : ℕ) → j ≡ m → get_or (entries n (suc m) t) (index n j cell k) (pos 0) ≡ t.detail j cell k
    last m e = subst (λ (l : ℕ). get_or (entries n (suc l) t) (index n j cell k) (pos 0) ≡ t.detail j cell k) e (deepest t d)

    go : (m : ℕ) → j < m → get_or (entries n m t) (index n j cell k) (pos 0) ≡ t.detail j cell k
    go zero h = absurd (omega arith)
    go (suc m) h = elim (dec_lt j m) [ yes p ↦ earlier n m t (index n j cell k) (index_within p d) ∙ go m p | no p ↦ last m (omega arith) ]

-- ---- the table again
pub entries-stored : (n depth : ℕ) (t : Coefficients n) → SameBelow n depth (stored n (entries n depth t)) t
entries-stored n depth t = record {
  same_root = entries-root n depth t;
  same_detail = λ j h cell b k f l. entries_detail t h (record { inside = b; first = f; last = l });
}

pub entries_unique : (n depth : ℕ) (t : Coefficients n) (l : List ℤ) → length l ≡ children n ^ depth → SameBelow n depth (stored n l) t
    → l ≡ entries n depth t
entries_unique n depth t l e s =
    let r = entries-stored n depth t in
    stored_unique n depth l (entries n depth t) e (entries-length n depth t) (record {
      same_root = s.same_root ∙ sym r.same_root;
      same_detail = λ j h cell b k f g. s.same_detail j h cell b k f g ∙ sym (r.same_detail j h cell b k f g);
    })

pub entries_within : (n depth b : ℕ) (t : Coefficients n) → Bounded n depth b (λ j cell. b) t → (i : ℕ)
    → Within (pos b) (get_or (entries n depth t) i (pos 0))
entries_within n depth b t w =
    get_d_each (Within (pos b)) (pos 0) (within_zero b) (entries n depth t) (λ i h. inside i (omega (arith, entries-length n depth t)))
  where
    inside : (i : ℕ) → i < children n ^ depth → Within (pos b) (get_or (entries n depth t) i (pos 0))
    inside zero h = within_is refl (sym (entries-root n depth t)) w.root_within
    inside (suc i) h =
        let d = index-onto n depth (suc i) (omega arith) h in
        let g = d.is_detail in
        within_is refl (sym (ap (λ p. get_or (entries n depth t) p (pos 0)) d.at ∙ entries_detail t d.below g))
        (w.detail_within d.level d.below d.cell g.inside d.number g.first g.last)
