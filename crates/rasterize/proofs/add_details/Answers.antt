-- Three entries next to each other, written one after the other: each is still as it was when its turn comes.
use Rattle.std.proofs.Common.{◌≡◌, refl, sym, ◌∙◌, ap, ap₂, subst, List, [], ◌∷◌, ℕ, suc, ◌+◌, ◌-◌, ◌<◌, ◌≤◌, length, get_or, set, ℤ, pos, ◌+ℤ◌, length-set, get_or-set_same, get_or-set_other, arith}
use Rattle.std.proofs.Math.Path.{subst⁻¹}
use Rattle.std.proofs.Math.Decide.{dec_lt}
use Rattle.integers.proofs.Theorems.Ring.{read, ring}
use Rattle.integers.specs.Units.{detail_limit}
use Rattle.integers.specs.Within.{Within}
use Rattle.integers.specs.Bits.{back}
use Rattle.integers.proofs.Theorems.Bits.{back_is}
use Rattle.edge.specs.declared.Details.{Details}
use Rattle.accuracy.specs.ExactDetails.{numbered}
use Rattle.rasterize.specs.Added.{added}
use Rattle.rasterize.specs.Contribution.{own_part}
use Rattle.rasterize.proofs.Laws.Adding.{added_unique}
use Rattle.rasterize.proofs.add_details.Goals as goal

module _ (t : List ℤ) (w : Details) (first : ℕ) where
  -- the first m of the three are in, and what comes after them is as before
  record AddedTo (u : List ℤ) (m : ℕ) : Type 0 where
    below : (i : ℕ) → i < first + m → get_or u i (pos 0) ≡ get_or t i (pos 0) +ℤ own_part w first i
    rest : (i : ℕ) → first + m ≤ i → get_or u i (pos 0) ≡ get_or t i (pos 0)
    same_length : length u ≡ length t

  own_is : (i k : ℕ) → suc i - first ≡ k → own_part w first i ≡ numbered w k
  own_is i k e = ap (numbered w) e

  unchanged : (i : ℕ) → own_part w first i ≡ pos 0 → get_or t i (pos 0) ≡ get_or t i (pos 0) +ℤ own_part w first i
  unchanged i e =
      ring (get_or t i (pos 0) ∷ []) (search read depth 40) tt ∙ ap (λ z. get_or t i (pos 0) +ℤ z) {x = pos 0} (sym e)

  added-to-start : AddedTo t 0
  unfolding numbered
  added-to-start = record { below = λ i h. unchanged i (own_is i 0 (omega arith)); rest = λ i h. refl; same_length = refl }

  added-to-step : {u : List ℤ} {m n : ℕ} {z : ℤ} → AddedTo u m → n ≡ first + m → n < length t → z ≡ numbered w (suc m)
      → AddedTo (set u n (get_or u n (pos 0) +ℤ z)) (suc m)
  added-to-step {u} {m} {n} {z} a j h e = record {
    below = λ i k.
        elim (dec_lt i n) [
          | yes p ↦ get_or-set_other u n i _ (pos 0) (omega arith) ∙ a.below i (omega arith)
          | no p ↦ (let q : n ≡ i = omega arith in
              subst (λ i. get_or (set u n (get_or u n (pos 0) +ℤ z)) i (pos 0) ≡ get_or t i (pos 0) +ℤ own_part w first i) q
              (get_or-set_same u n _ (pos 0) (omega (arith, a.same_length))
              ∙ ap₂ ◌+ℤ◌ (a.rest n (omega arith)) (e ∙ sym (own_is n (suc m) (omega arith)))))
        ];
    rest = λ i k. get_or-set_other u n i _ (pos 0) (omega arith) ∙ a.rest i (omega arith);
    same_length = length-set u n _ ∙ a.same_length;
  }

  added-to-end : {u : List ℤ} → AddedTo u 3 → u ≡ added t (own_part w first)
  unfolding numbered
  added-to-end {u} a =
      added_unique t u (own_part w first) a.same_length
      (λ i h.
      elim (dec_lt i (first + 3)) [
        | yes p ↦ a.below i p
        | no p ↦ a.rest i (omega arith) ∙ unchanged i (own_is i (suc (suc (suc (suc (i - (first + 3)))))) (omega arith))
      ])

-- what a call writes is the detail, read back from its bits
written : {t u v : List ℤ} {w : Details} {first m n : ℕ} {z : ℤ} → AddedTo t w first u m → n ≡ first + m → n < length t → Within (pos detail_limit) z
    → z ≡ numbered w (suc m) → v ≡ set u n (get_or u n (pos 0) +ℤ back z) → AddedTo t w first v (suc m)
written {t} {u} {v} {w} {first} {m} a j h k e f =
    subst⁻¹ (λ v. AddedTo t w first v (suc m)) f (added-to-step t w first a j h (back_is tt k ∙ e))

pub returns : goal.returns
unfolding numbered
returns c =
    let s = c.args in
    let r = c.requires in
    let h = written (added-to-start s.table.now s.w s.first) (omega arith) (omega (arith, r.0)) r.2.h refl c.add_at.ensures in
    let v = written h refl (omega (arith, r.0)) r.2.v refl c.add_at-2.ensures in
    added-to-end s.table.now s.w s.first (written v refl r.0 r.2.d refl c.add_at-3.ensures)
