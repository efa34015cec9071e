-- What there is after a call that did its work, and after one that was refused.
--
-- Main results
--   if_done_lem, if_refused          by the call's number, which is 0 where the work is done
--   refused_keeps                    by the call's refusal
--   built_refused, built_done        and what building answers
use Rattle.std.specs.Prelude.{◌≡◌, refl, ℕ, zero, suc, Ok, Err}
use Rattle.std.proofs.Common.{sym, ◌∙◌, ap, ap₂}
use Rattle.tile.specs.declared.refusal.Refusal.{Refusal}
use Rattle.tile.specs.Answers.{number_of, Built, built_of}
use Rattle.tile.specs.Outcomes.{if_done}
use Rattle.tile.proofs.Theorems.Numbers.{never_done}

module _ {A : Type 0} (a b : A) where
  pub if_done_lem : {number : ℕ} → number ≡ 0 → if_done number a b ≡ a
  if_done_lem e = ap (λ n. if_done n a b) e

  pub if_refused : {number : ℕ} → (number ≡ 0 → ⊥) → if_done number a b ≡ b
  if_refused {number} h = go number h
    where
      go : (n : ℕ) → (n ≡ 0 → ⊥) → if_done n a b ≡ b
      go zero h = absurd (h refl)
      go (suc n) h = refl

  pub refused_keeps : (r : Refusal) {number : ℕ} → number_of r ≡ number → b ≡ if_done number a b
  refused_keeps r e = sym (if_refused (λ z. never_done r (e ∙ z)))

-- ---- building: the number, and n edges where it is 0
abbrev built : ℕ → ℕ → Built
built number edges = record { number = number; edges = edges }

module _ (n : ℕ) {number : ℕ} where
  pub built_refused : (r : Refusal) → number_of r ≡ number → built_of (Err r) ≡ record { number = number; edges = if_done number n 0 }
  built_refused r e = ap₂ built e (refused_keeps n 0 r e)

  pub built_done : number ≡ 0 → (m : ℕ) → m ≡ n → built_of (Ok m) ≡ record { number = number; edges = if_done number n 0 }
  built_done e m counted = ap₂ built (sym e) (counted ∙ sym (if_done_lem n 0 e))
