-- A direction that moves, in its own steps: after t of them it is p − |t − m| from the nearer side, `scale` times over; p is half of the width, and m the
-- step at which it crosses the middle.
--
-- Main results
--   from-middle                    how far past a side
--   near_before, near_after        how far from the nearer side
--   within_peak                    between the sides it is at most p from the middle
--   tent-sum                       the sum over a run on one side of the middle
--   near-turned                    and the same against the distance in the other direction
use Rattle.std.specs.Prelude.{◌≡◌, [], ◌∷◌, ℤ, pos, negsuc, ◌+ℤ◌, ◌-ℤ◌, ◌*ℤ◌, ◌≤ℤ◌}
use Rattle.std.proofs.Common.{sym, ◌∙◌, ap, ap₂}
use Rattle.integers.proofs.Theorems.Ring.{read, ring, comb, ◌⊗◌}
use Rattle.integers.proofs.Theorems.Order.{≤ℤ_trans, ≤ℤ_antisym}
use Rattle.integers.proofs.Theorems.Linear.{le, eq, ◌&◌, linear, lin≤}
use Rattle.integers.specs.MinMax.{min}
use Rattle.integers.proofs.Theorems.MinMax.{min_eqˡ, min_eqʳ}
use Rattle.integers.proofs.Theorems.Tent.{tent-inside}
use Rattle.integers.specs.Within.{Within}
use Rattle.edge.specs.declared.Axis.{Axis}
use Rattle.edge.specs.Walk.{beyond, near}
use Rattle.edge.specs.Cuts.{to_middle}
use Rattle.edge.specs.Code.{Closed}
use Rattle.edge.proofs.Lemmas.OneDirection.{Beside, short, beyond_it, single}
use Rattle.slanted.specs.Under.{under, turned}
use Rattle.slanted.specs.Pieces.{Moving, onward, back}
use Rattle.slanted.proofs.Laws.Sums.{under_none, under_up, under-down, turned_before, turned_after, turned_none}

sign-square : {a : Axis} → Moving a → a.sign *ℤ a.sign ≡ pos 1
sign-square (onward e) = ap₂ ◌*ℤ◌ e e
sign-square (back e) = ap₂ ◌*ℤ◌ e e

lower_side : (p z : ℤ) {u m : ℤ} → m ≡ p +ℤ p → u ≡ p +ℤ z → z ≤ℤ pos 0 → min u (m -ℤ u) ≡ p +ℤ z
lower_side p z {u} {m} d e h = min_eqˡ (lin≤ (u ∷ m ∷ p ∷ z ∷ []) (eq d & eq e & le h) (search linear depth 40) tt) ∙ e

upper_side : (p z : ℤ) {u m : ℤ} → m ≡ p +ℤ p → u ≡ p -ℤ z → z ≤ℤ pos 0 → min u (m -ℤ u) ≡ p +ℤ z
upper_side p z {u} {m} d e h =
    min_eqʳ (lin≤ (u ∷ m ∷ p ∷ z ∷ []) (eq d & eq e & le h) (search linear depth 40) tt)
    ∙ ap₂ ◌-ℤ◌ d e ∙ ring (p ∷ z ∷ []) (search read depth 40) tt

at_most : {x y : ℤ} → x ≤ℤ y → (x -ℤ y) ≤ℤ pos 0
at_most {x} {y} h = lin≤ (x ∷ y ∷ []) (le h) (search linear depth 40) tt

onto : (p t m : ℤ) → p +ℤ (t -ℤ m) ≡ p -ℤ (m -ℤ t)
onto p t m = ring (p ∷ t ∷ m ∷ []) (search read depth 40) tt

onto' : (p t m : ℤ) → p -ℤ (t -ℤ m) ≡ p +ℤ (m -ℤ t)
onto' p t m = ring (p ∷ t ∷ m ∷ []) (search read depth 40) tt

within_turned : (p t m : ℤ) → Within p (m -ℤ t) → Within p (t -ℤ m)
within_turned p t m r = record {
  low = lin≤ (p ∷ t ∷ m ∷ []) (le r.high) (search linear depth 40) tt;
  high = lin≤ (p ∷ t ∷ m ∷ []) (le r.low) (search linear depth 40) tt;
}

ends_up : (p m u v : ℤ) → ((p +ℤ (u -ℤ m)) +ℤ (p +ℤ (v -ℤ m))) *ℤ (v -ℤ u) ≡ (v -ℤ u) *ℤ (pos 2 *ℤ p +ℤ (u +ℤ v -ℤ pos 2 *ℤ m))
ends_up p m u v = ring (p ∷ m ∷ u ∷ v ∷ []) (search read depth 40) tt

ends_down : (p m u v : ℤ) → ((p +ℤ (m -ℤ u)) +ℤ (p +ℤ (m -ℤ v))) *ℤ (v -ℤ u) ≡ (v -ℤ u) *ℤ (pos 2 *ℤ p -ℤ (u +ℤ v -ℤ pos 2 *ℤ m))
ends_down p m u v = ring (p ∷ m ∷ u ∷ v ∷ []) (search read depth 40) tt

up : (p m u v : ℤ) → (p +ℤ (v -ℤ m)) -ℤ (p +ℤ (u -ℤ m)) ≡ v -ℤ u
up p m u v = ring (p ∷ m ∷ u ∷ v ∷ []) (search read depth 40) tt

down : (p m u v : ℤ) → (p +ℤ (m -ℤ v)) -ℤ (p +ℤ (m -ℤ u)) ≡ u -ℤ v
down p m u v = ring (p ∷ m ∷ u ∷ v ∷ []) (search read depth 40) tt

module _ {a : Axis} (mv : Moving a) (side half : ℤ) {w : ℤ} (even : w ≡ half +ℤ half) where
  abbrev peak : ℤ
  peak = a.scale *ℤ half

  abbrev middle : ℤ
  middle = to_middle a side half

  -- `scale` times over, as below
  pub from-middle : (t : ℤ) → beyond a side t ≡ peak +ℤ a.sign *ℤ (t -ℤ middle)
  from-middle t =
      comb (a.scale ∷ a.start ∷ a.sign ∷ side ∷ half ∷ t ∷ []) ((a.scale *ℤ (side -ℤ a.start) +ℤ a.scale *ℤ half) ⊗ sign-square mv) (search read depth 40) tt

  at_onward : a.sign ≡ pos 1 → (t : ℤ) → beyond a side t ≡ peak +ℤ (t -ℤ middle)
  at_onward e t =
      from-middle t ∙ ap (λ s. peak +ℤ s *ℤ (t -ℤ middle)) e ∙ ring (a.scale ∷ a.start ∷ a.sign ∷ side ∷ half ∷ t ∷ []) (search read depth 40) tt

  at_back : a.sign ≡ negsuc 0 → (t : ℤ) → beyond a side t ≡ peak -ℤ (t -ℤ middle)
  at_back e t =
      from-middle t ∙ ap (λ s. peak +ℤ s *ℤ (t -ℤ middle)) e ∙ ring (a.scale ∷ a.start ∷ a.sign ∷ side ∷ half ∷ t ∷ []) (search read depth 40) tt

  double : a.scale *ℤ w ≡ peak +ℤ peak
  double = ap (λ z. a.scale *ℤ z) even ∙ ring (a.scale ∷ half ∷ []) (search read depth 40) tt

  near_is : {t : ℤ} → Closed a side w t → near a side w t ≡ min (beyond a side t) (a.scale *ℤ w -ℤ beyond a side t)
  near_is k = tent-inside k.low k.high

  pub near_before : {t : ℤ} → Closed a side w t → t ≤ℤ middle → near a side w t ≡ peak +ℤ (t -ℤ middle)
  near_before {t} k h = near_is k ∙ go mv
    where
      z≤0 : (t -ℤ middle) ≤ℤ pos 0
      z≤0 = at_most h

      go : Moving a → min (beyond a side t) (a.scale *ℤ w -ℤ beyond a side t) ≡ peak +ℤ (t -ℤ middle)
      go (onward e) = lower_side peak (t -ℤ middle) double (at_onward e t) z≤0
      go (back e) = upper_side peak (t -ℤ middle) double (at_back e t) z≤0

  pub near_after : {t : ℤ} → Closed a side w t → middle ≤ℤ t → near a side w t ≡ peak +ℤ (middle -ℤ t)
  near_after {t} k h = near_is k ∙ go mv
    where
      z≤0 : (middle -ℤ t) ≤ℤ pos 0
      z≤0 = at_most h

      go : Moving a → min (beyond a side t) (a.scale *ℤ w -ℤ beyond a side t) ≡ peak +ℤ (middle -ℤ t)
      go (onward e) = upper_side peak (middle -ℤ t) double (at_onward e t ∙ onto peak t middle) z≤0
      go (back e) = lower_side peak (middle -ℤ t) double (at_back e t ∙ onto' peak t middle) z≤0

  -- between the sides it is at most half of the width from the middle
  pub within_peak : {t : ℤ} → Closed a side w t → Within peak (t -ℤ middle)
  within_peak {t} k = go mv
    where
      ends : (p y : ℤ) {x z : ℤ} → x ≡ p +ℤ y → z ≡ p +ℤ p → pos 0 ≤ℤ x → x ≤ℤ z → Within p y
      ends p y {x} {z} e d l h = record {
        low = lin≤ (p ∷ x ∷ z ∷ y ∷ []) (eq e & eq d & le l) (search linear depth 40) tt;
        high = lin≤ (p ∷ x ∷ z ∷ y ∷ []) (eq e & eq d & le h) (search linear depth 40) tt;
      }

      go : Moving a → Within peak (t -ℤ middle)
      go (onward e) = ends peak (t -ℤ middle) (at_onward e t) double k.low k.high
      go (back e) =
          let r = ends peak (middle -ℤ t) (at_back e t ∙ onto' peak t middle) double k.low k.high in
          within_turned peak t middle r

  -- ---- a run on one side of the middle, or of one step
  -- twice the sum, by the ends
  pub tent-sum : {u v : ℤ} → u ≤ℤ v → Closed a side w u → Closed a side w v → Beside middle u v
      → (near a side w u +ℤ near a side w v) *ℤ (v -ℤ u) ≡ under peak middle u v
  tent-sum {u} {v} h i j (short k) =
      ap₂ (λ x y. (x +ℤ y) *ℤ (v -ℤ u)) (near_before i (≤ℤ_trans h k)) (near_before j k) ∙ ends_up peak middle u v ∙ sym (under_up peak h k)
  tent-sum {u} {v} h i j (beyond_it k) =
      ap₂ (λ x y. (x +ℤ y) *ℤ (v -ℤ u)) (near_after i k) (near_after j (≤ℤ_trans k h)) ∙ ends_down peak middle u v ∙ sym (under-down peak h k)
  tent-sum {u} {v} h i j (single k) =
      ap (λ z. (near a side w u +ℤ near a side w z) *ℤ (z -ℤ u)) (≤ℤ_antisym k h) ∙ ring (near a side w u ∷ u ∷ []) (search read depth 40) tt
      ∙ sym (ap (under peak middle u) (≤ℤ_antisym k h) ∙ under_none peak middle u)

  -- The distance goes up by one a step, and down, as the sign does that is turned at the middle. n by the steps is what lies under another tent.
  pub near-turned : (p m n : ℤ) {u v : ℤ} → u ≤ℤ v → Closed a side w u → Closed a side w v → Beside middle u v → n *ℤ (v -ℤ u) ≡ under p m u v
      → n *ℤ (near a side w v -ℤ near a side w u) ≡ turned p m u v middle
  near-turned p m n {u} {v} h i j (short k) e =
      ap (λ z. n *ℤ z) (ap₂ ◌-ℤ◌ (near_before j k) (near_before i (≤ℤ_trans h k)) ∙ up peak middle u v) ∙ e ∙ sym (turned_before p m h k)
  near-turned p m n {u} {v} h i j (beyond_it k) e =
      ap (λ z. n *ℤ z) (ap₂ ◌-ℤ◌ (near_after j (≤ℤ_trans k h)) (near_after i k) ∙ down peak middle u v)
      ∙ comb (n ∷ u ∷ v ∷ under p m u v ∷ []) (negsuc 0 ⊗ e) (search read depth 40) tt
      ∙ sym (turned_after p m v k)
  near-turned p m n {u} {v} h i j (single k) e =
      ap (λ z. n *ℤ (near a side w z -ℤ near a side w u)) (≤ℤ_antisym k h) ∙ ring (n ∷ near a side w u ∷ []) (search read depth 40) tt
      ∙ sym (ap (λ z. turned p m u z middle) (≤ℤ_antisym k h) ∙ turned_none p m u middle)
