-- A sum of fractions with each term rounded on its own, as 01 asks of the edges' details: how far it lies from the exact sum.
--
-- Main results
--   rounded_within             where term a is missed by at most k(a) halves, the sum is missed by at most the sum of the k(a) halves
--   rounded_half               so a sum is missed by at most as many halves as it has terms
--   miss_half, miss_none       any fraction is missed by at most one half, a whole number not at all
-- A count k(a) for each term, and not one for all, so that the terms that contribute nothing can be left out of a bound.
use Rattle.std.specs.Prelude.{◌≡◌, refl, ℕ, ◌<◌, length, ℤ, negsuc, ◌-ℤ◌, ◌*ℤ◌}
use Rattle.std.proofs.Common.{◌∙◌, ap}
use mathlib.Core.List.{List, [], ◌∷◌}
use Rattle.std.proofs.Math.IntN.{pos}
use Rattle.std.specs.Int.Signed.{≤ℤ_refl}
use Rattle.integers.proofs.Theorems.Ring.{read, ring, comb, ◌⊕◌, ◌⊗◌}
use Rattle.integers.proofs.Theorems.Linear.{le, linear, lin≤}
use Rattle.integers.specs.Within.{Within}
use Rattle.integers.proofs.Theorems.Within.{within_add, within_scale, within_self, within_is}
use Rattle.integers.specs.ListSum.{All, total}
use Rattle.integers.proofs.Theorems.ListSum.{all_map, total_const}
use Rattle.integers.specs.Rounding.{round_half_away}
use Rattle.integers.proofs.Theorems.RoundHalfAway.{round_half_away-bounds, round_half_away-mul}
use Rattle.integers.specs.Fraction.{common, numer}

module _ {A : Type 0} (N : A → ℕ) where
  unfoldable pub rounded : (A → ℤ) → List A → ℤ
  rounded f l = total (λ a. round_half_away (f a) (N a)) l

  -- the rounded term misses f a / N a by at most k halves
  abbrev pub Miss : (A → ℤ) → ℤ → A → Type 0
  Miss f k a = Within (k *ℤ pos (N a)) (pos 2 *ℤ (round_half_away (f a) (N a) *ℤ pos (N a) -ℤ f a))

  pub rounded_within : (f k : A → ℤ) (l : List A) → All (λ a. Miss f (k a) a) l
      → Within (total k l *ℤ pos (common N l)) (pos 2 *ℤ (rounded f l *ℤ pos (common N l) -ℤ numer N f l))
  unfolding rounded numer total common
  rounded_within f k [] h = within_self (≤ℤ_refl (pos 0))
  rounded_within f k (a ∷ l) h =
      within_is (ring (k a ∷ total k l ∷ pos (N a) ∷ pos (common N l) ∷ []) (search read depth 40) tt)
      (ring (pos (N a) ∷ pos (common N l) ∷ f a ∷ round_half_away (f a) (N a) ∷ total (λ a. round_half_away (f a) (N a)) l ∷ numer N f l ∷ []) (search read depth 40) tt)
      (within_add (within_scale (common N l) h.0) (within_scale (N a) (rounded_within f k l h.1)))

  pub miss_half : (f : A → ℤ) (a : A) → 0 < N a → Miss f (pos 1) a
  miss_half f a h =
      let e = round_half_away-bounds (f a) h in
      record {
        low = lin≤ (pos (N a) ∷ round_half_away (f a) (N a) ∷ f a ∷ []) (le e.under) (search linear depth 40) tt;
        high = lin≤ (pos (N a) ∷ round_half_away (f a) (N a) ∷ f a ∷ []) (le e.over) (search linear depth 40) tt;
      }

  pub miss_none : (f : A → ℤ) (a : A) (q : ℤ) → 0 < N a → f a ≡ q *ℤ pos (N a) → Miss f (pos 0) a
  miss_none f a q h w =
      let r : round_half_away (f a) (N a) ≡ q = ap (λ z. round_half_away z (N a)) w ∙ round_half_away-mul q h in
      within_is (ring (pos (N a) ∷ []) (search read depth 40) tt)
      (comb (pos (N a) ∷ round_half_away (f a) (N a) ∷ f a ∷ q ∷ []) ((negsuc 1 *ℤ pos (N a)) ⊗ r ⊕ pos 2 ⊗ w) (search read depth 40) tt)
      (within_self (≤ℤ_refl (pos 0)))

  pub rounded_half : (f : A → ℤ) (l : List A) → All (λ a. 0 < N a) l
      → Within (pos (length l) *ℤ pos (common N l)) (pos 2 *ℤ (rounded f l *ℤ pos (common N l) -ℤ numer N f l))
  rounded_half f l h =
      let n : total (λ a. pos 1) l ≡ pos (length l) = total_const (pos 1) l ∙ ring (pos (length l) ∷ []) (search read depth 40) tt in
      within_is (ap (λ x. x *ℤ pos (common N l)) n) refl (rounded_within f (λ a. pos 1) l (all_map (λ a. miss_half f a) l h))
