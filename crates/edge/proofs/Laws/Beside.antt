-- An edge that lies in a cell comes strictly inside no cell beside it; so one that lies in a quarter comes inside none of the other three. An edge on a
-- middle line lies in two quarters, and comes inside neither.
--
-- Main results
--   beside_outside          between two sides a walk is strictly between no two others that lie beyond
--   other_column, other_row an edge in one quarter comes inside none in the other column, and none in the other row
use Rattle.std.specs.Prelude.{◌≡◌, refl, [], ◌∷◌, ◌⊎◌, ◌≢◌, ℕ, zero, suc, ◌<◌, ◌≤◌, ◌+◌, ℤ, pos, ◌+ℤ◌, ◌-ℤ◌, ◌*ℤ◌, ◌≤ℤ◌}
use Rattle.std.proofs.Common.{inl, inr, arith}
use Rattle.integers.proofs.Theorems.Order.{nonneg, pos-≤ℤ, ≤ℤ-mul}
use Rattle.integers.proofs.Theorems.Linear.{le, lt, ◌&◌, none!, linear, lin≤, lin⊥}
use Rattle.edge.specs.declared.Edge.{Edge}
use Rattle.edge.specs.declared.Cell.{Cell}
use Rattle.edge.specs.declared.Axis.{Axis}
use Rattle.edge.specs.Walk.{ax, ay, steps, x_axis, y_axis, beyond}
use Rattle.edge.specs.Inside.{Between, Inside}
use Rattle.edge.specs.Nested.{quarter, OnRange, OnCell}
use Rattle.edge.proofs.Lemmas.Ends.{x_end, y_end}
use Rattle.edge.proofs.Laws.WholeTile.{stays_between}

-- ---- one direction of a walk of n steps: its start and q, where it ends, lie between two sides w apart
pub beside_outside : (a : Axis) (side w q other : ℤ) (n t : ℕ) → pos 0 ≤ℤ a.scale → OnRange side w a.start → OnRange side w q
    → beyond a side (pos n) ≡ a.scale *ℤ (q -ℤ side) → t < n → ((side +ℤ w) ≤ℤ other) ⊎ ((other +ℤ w) ≤ℤ side) → Between a other w (pos t) → ⊥
beside_outside a side w q other n t g i j e l b m = go b
  where
    run : (s : ℕ) → s ≤ n → (pos 0 ≤ℤ beyond a side (pos s)) × (beyond a side (pos s) ≤ℤ (a.scale *ℤ w))
    run s h = let r = (stays_between a side w q g i j e).at (pos s) (nonneg s) (pos-≤ℤ h) in (r.low, r.high)

    go : ((side +ℤ w) ≤ℤ other) ⊎ ((other +ℤ w) ≤ℤ side) → ⊥
    go (inl k) = lin⊥ (a.scale ∷ a.start ∷ a.sign ∷ side ∷ w ∷ other ∷ pos t ∷ [])
        (le (run t (omega arith)).1 & le (run (t + 1) (omega arith)).1 & lt m.after & le (≤ℤ-mul g k)) (search linear depth 40) tt
    go (inr k) = lin⊥ (a.scale ∷ a.start ∷ a.sign ∷ side ∷ w ∷ other ∷ pos t ∷ [])
        (le (run t (omega arith)).0 & le (run (t + 1) (omega arith)).0 & lt m.before & le (≤ℤ-mul g k)) (search linear depth 40) tt

-- two halves, 0 and 1, that are not the same
beside : (side half : ℤ) (i j : ℕ) → i < 2 → j < 2 → i ≢ j
    → ((side +ℤ pos i *ℤ half +ℤ half) ≤ℤ (side +ℤ pos j *ℤ half)) ⊎ ((side +ℤ pos j *ℤ half +ℤ half) ≤ℤ (side +ℤ pos i *ℤ half))
beside side half zero zero h k n = absurd (n refl)
beside side half zero (suc zero) h k n = inl (lin≤ (side ∷ half ∷ []) none! (search linear depth 40) tt)
beside side half (suc zero) zero h k n = inr (lin≤ (side ∷ half ∷ []) none! (search linear depth 40) tt)
beside side half (suc zero) (suc zero) h k n = absurd (n refl)
beside side half zero (suc (suc j)) h k n = absurd (omega arith)
beside side half (suc zero) (suc (suc j)) h k n = absurd (omega arith)
beside side half (suc (suc i)) j h k n = absurd (omega arith)

-- ---- an edge in quarter (i, j)
module _ (e : Edge) (c : Cell) (half : ℤ) {i j : ℕ} (h : i < 2) (k : j < 2) (o : OnCell (quarter c half i j) e) where
  pub other_column : (a b : ℕ) → a < 2 → i ≢ a → Inside e (quarter c half a b) → ⊥
  other_column a b l n s =
      beside_outside (x_axis e) (quarter c half i j).left half e.x1 (quarter c half a b).left (steps e) s.step (nonneg (ay e)) o.x0 o.x1
      (x_end e (quarter c half i j).left) s.on (beside c.left half i a h l n) s.x

  pub other_row : (a b : ℕ) → b < 2 → j ≢ b → Inside e (quarter c half a b) → ⊥
  other_row a b l n s =
      beside_outside (y_axis e) (quarter c half i j).top half e.y1 (quarter c half a b).top (steps e) s.step (nonneg (ax e)) o.y0 o.y1
      (y_end e (quarter c half i j).top) s.on (beside c.top half j b k l n) s.y
