-- Is a sum over a list `size`? What each element has is taken from the size, as long as there is as much left: nothing can overflow, however long the list is.
--
-- Main results
--   Down                         what is left of the size when the first i are taken
--   down_start, down_next        all of it; one more is taken
--   down-over                    there is less left than the next one has: the sum is greater
--   down_end                     all are taken: it is the sum where nothing is left
use Rattle.std.specs.Prelude.{◌≡◌, refl, false, List, ℕ, zero, suc, ◌+◌, ◌-◌, ◌<◌, ◌≤◌, eqb, length, get_or, drop}
use Rattle.std.proofs.Common.{sym, ◌∙◌, arith, add-one, eq-eqb, ne_eqb, drop_of_length-le, drop-cons}
use Rattle.std.proofs.Math.Path.{ap, ap₂}
use Rattle.integers.specs.ListSum.{tally}

module _ {A : Type 0} (f : A → ℕ) (l : List A) (size : ℕ) where
  pub record Down (i left : ℕ) : Type 0 where
    pub balance : size + tally f (drop i l) ≡ left + tally f l

  pub down_start : Down 0 size
  down_start = record { balance = refl }

  module _ (i left : ℕ) (b : Down i left) where
    -- the next one is a, and has n
    module _ {a : A} {n : ℕ} (is : a ≡ get_or l i a) (h : i < length l) (has : n ≡ f a) where
      next : tally f (drop i l) ≡ n + tally f (drop (i + 1) l)
      unfolding tally
      next =
          ap (tally f) (drop-cons l i a h) ∙ ap (λ x. f x + tally f (drop (suc i) l)) (sym is)
          ∙ ap₂ (λ m k. m + tally f (drop k l)) (sym has) (sym (add-one i))

      pub down_next : n ≤ left → Down (i + 1) (left - n)
      down_next e = record { balance = omega (arith, next, e, b.balance) }

      pub down-over : left < n → eqb size (tally f l) ≡ false
      down-over e = ne_eqb size (tally f l) (λ s. omega (arith, s, next, e, b.balance))

    pub down_end : length l ≤ i → eqb left 0 ≡ eqb size (tally f l)
    unfolding tally
    down_end h = go left (omega (arith, none, b.balance))
      where
        none : tally f (drop i l) ≡ 0
        none = ap (tally f) (drop_of_length-le l h)

        go : (n : ℕ) → size ≡ n + tally f l → eqb n 0 ≡ eqb size (tally f l)
        go zero e = sym (eq-eqb size (tally f l) (omega (arith, e)))
        go (suc n) e = ne_eqb (suc n) 0 (λ z. omega (arith, z)) ∙ sym (ne_eqb size (tally f l) (λ s. omega (arith, s, e)))
