-- The three details by their numbers, so that a law is stated of h, v and d at once.
--
-- Main results
--   by_number                    what holds of h, v and d holds of the detail of every number
--   numbered_any                 what holds of them and of 0 holds of `numbered` at any number
--   numbered_none                a number that no detail has gives 0
--   numbered_each                what is done to each of the three is done to the detail of a number
use Rattle.std.specs.Prelude.{◌≡◌, refl, ℕ, zero, suc, ◌≤◌, ℤ, pos}
use Rattle.std.proofs.Common.{sym, arith}
use Rattle.edge.specs.declared.Details.{Details}
use Rattle.haar.specs.Cells.{details}
use Rattle.haar.specs.Plane.{dimensions}
use Rattle.accuracy.specs.ExactDetails.{numbered}

pub by_number : (P : ℤ → Type 0) (w : Details) → P w.h → P w.v → P w.d → (k : ℕ) → 1 ≤ k → k ≤ details dimensions → P (numbered w k)
unfolding numbered
by_number P w h v d zero i j = absurd (omega arith)
by_number P w h v d (suc zero) i j = h
by_number P w h v d (suc (suc zero)) i j = v
by_number P w h v d (suc (suc (suc zero))) i j = d
by_number P w h v d (suc (suc (suc (suc k)))) i j = absurd (omega arith)

pub numbered_any : (P : ℤ → Type 0) (w : Details) → P (pos 0) → P w.h → P w.v → P w.d → (k : ℕ) → P (numbered w k)
unfolding numbered
numbered_any P w o h v d zero = o
numbered_any P w o h v d (suc zero) = h
numbered_any P w o h v d (suc (suc zero)) = v
numbered_any P w o h v d (suc (suc (suc zero))) = d
numbered_any P w o h v d (suc (suc (suc (suc k)))) = o

pub numbered_none : (w : Details) (k : ℕ) → (1 ≤ k → k ≤ details dimensions → ⊥) → numbered w k ≡ pos 0
unfolding numbered
numbered_none w zero h = refl
numbered_none w (suc zero) h = absurd (h (omega arith) (omega arith))
numbered_none w (suc (suc zero)) h = absurd (h (omega arith) (omega arith))
numbered_none w (suc (suc (suc zero))) h = absurd (h (omega arith) (omega arith))
numbered_none w (suc (suc (suc (suc k)))) h = refl

pub numbered_each : (f : ℤ → ℤ) → f (pos 0) ≡ pos 0 → (w : Details) (k : ℕ)
    → numbered (record { h = f w.h; v = f w.v; d = f w.d }) k ≡ f (numbered w k)
unfolding numbered
numbered_each f z w zero = sym z
numbered_each f z w (suc zero) = refl
numbered_each f z w (suc (suc zero)) = refl
numbered_each f z w (suc (suc (suc zero))) = refl
numbered_each f z w (suc (suc (suc (suc k)))) = sym z
