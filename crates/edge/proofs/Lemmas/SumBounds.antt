-- How large the sums along a walk in two directions are, by the walk's length and by the cell's width.
--
-- Main results
--   SumBounds                               both bounds of a sum
--   past-past, near-past, near-near         the sums that the integrals are made of have them
use Rattle.std.specs.Prelude.{◌≡◌, refl, [], ◌∷◌, ℕ, zero, suc, ℤ, pos, negsuc, ◌+ℤ◌, ◌-ℤ◌, ◌*ℤ◌, ◌≤ℤ◌}
use Rattle.std.proofs.Common.{sym, ap, subst}
use Rattle.integers.proofs.Theorems.Ring.{read, ring}
use Rattle.integers.proofs.Theorems.Order.{≤ℤ_of_≡, ≤ℤ-mul, ≤ℤ-mul-nonneg}
use Rattle.integers.proofs.Theorems.Linear.{none!, le, ◌&◌, linear, lin≤}
use Rattle.integers.specs.Magnitude.{abs}
use Rattle.integers.specs.Within.{Within}
use Rattle.integers.proofs.Theorems.Within.{bounds, within_is, within_le, within_add, within_neg, within_mul, within_of_abs, within_self}
use Rattle.integers.proofs.Theorems.MinMax.{min_moves}
use Rattle.integers.specs.Clamp.{clamp}
use Rattle.integers.proofs.Theorems.Clamp.{clamp_low, clamp_high, clamp-mono, clamp_moves}
use Rattle.integers.specs.Tent.{tent}
use Rattle.integers.proofs.Theorems.Tent.{tent-nonneg, tent_half}
use Rattle.integers.specs.Trapezoid.{S}
use Rattle.integers.proofs.Theorems.Trapezoid.{S-zero, S-suc}
use Rattle.edge.specs.declared.Axis.{Axis}
use Rattle.edge.specs.Walk.{beyond, past, near}
use Rattle.edge.proofs.Lemmas.Ends.{Direction, forward, still, backward, direction_within}
use Rattle.edge.specs.Integrals.{along}

-- x is a sum of n steps: M bounds two neighbouring values of what is summed, and the sum runs over the moves of direction b
pub record SumBounds (b : Axis) (w M : ℤ) (n : ℕ) (x : ℤ) : Type 0 where
  pub by_length : Within (M *ℤ (abs b.sign *ℤ pos n)) x
  pub by_width : Within (M *ℤ (b.scale *ℤ w)) x

-- ---- a trapezoid sum: neighbours of f add up to at most M, and no step of g is longer than that of r
S-bound : {M : ℤ} (f g r : ℕ → ℤ) → ((t : ℕ) → Within M (f t +ℤ f (suc t))) → ((t : ℕ) → Within (r (suc t) -ℤ r t) (g (suc t) -ℤ g t)) → (n : ℕ)
    → Within (M *ℤ (r n -ℤ r 0)) (S f g n)
S-bound {M} f g r p q zero =
    within_is (ring (M ∷ r 0 ∷ []) (search read depth 40) tt) (sym (S-zero f g)) (within_self (≤ℤ_of_≡ refl))
S-bound {M} f g r p q (suc n) =
    within_is (ring (M ∷ r 0 ∷ r n ∷ r (suc n) ∷ []) (search read depth 40) tt) (sym (S-suc f g n))
    (within_add (S-bound f g r p q n) (within_mul (p n) (q n)))

-- ---- clamp and tent
-- the tent is the smaller of the clamp and its distance to the width, and so moves by no more than the clamp
tent-follows : {b : ℤ} (m v v' : ℤ) → Within b (clamp v' (pos 0) m -ℤ clamp v (pos 0) m) → Within b (tent m v' -ℤ tent m v)
unfolding tent
tent-follows m v v' k =
    let c = clamp v (pos 0) m in
    let c' = clamp v' (pos 0) m in
    min_moves c (m -ℤ c) c' (m -ℤ c') k (within_is refl (ring (m ∷ c ∷ c' ∷ []) (search read depth 40) tt) (within_neg k))

-- the clamp moves with the sign of the step, or rests
clamp_runs : {s : ℤ} → Direction s → (m v : ℤ)
    → Within (s *ℤ clamp (v +ℤ s) (pos 0) m -ℤ s *ℤ clamp v (pos 0) m) (clamp (v +ℤ s) (pos 0) m -ℤ clamp v (pos 0) m)
clamp_runs forward m v =
    let c = clamp v (pos 0) m in
    let c' = clamp (v +ℤ pos 1) (pos 0) m in
    let rises : c ≤ℤ c' = clamp-mono (pos 0) m (lin≤ (v ∷ []) none! (search linear depth 40) tt) in
    within_is (ring (c ∷ c' ∷ []) (search read depth 40) tt) refl (within_self (lin≤ (c ∷ c' ∷ []) (le rises) (search linear depth 40) tt))
clamp_runs still m v =
    let c = clamp v (pos 0) m in
    let c' = clamp (v +ℤ pos 0) (pos 0) m in
    within_is (ring (c ∷ c' ∷ []) (search read depth 40) tt) refl (clamp_moves (pos 0) m v (pos 0) (within_self (≤ℤ_of_≡ refl)))
clamp_runs backward m v =
    let c = clamp v (pos 0) m in
    let c' = clamp (v +ℤ negsuc 0) (pos 0) m in
    let falls : c' ≤ℤ c = clamp-mono (pos 0) m (lin≤ (v ∷ []) none! (search linear depth 40) tt) in
    within_is (ring (c ∷ c' ∷ []) (search read depth 40) tt) (ring (c ∷ c' ∷ []) (search read depth 40) tt)
    (within_neg (within_self {k = c -ℤ c'} (lin≤ (c ∷ c' ∷ []) (le falls) (search linear depth 40) tt)))

-- ---- one direction
module _ (a : Axis) (side : ℤ) {w : ℤ} (scale≥0 : pos 0 ≤ℤ a.scale) (w≥0 : pos 0 ≤ℤ w) where
  m≥0 : pos 0 ≤ℤ (a.scale *ℤ w)
  m≥0 = ≤ℤ-mul-nonneg scale≥0 w≥0

  past_low : (t : ℤ) → pos 0 ≤ℤ past a side w t
  past_low t = clamp_low (beyond a side t) (pos 0) (a.scale *ℤ w)

  past_high : (t : ℤ) → past a side w t ≤ℤ (a.scale *ℤ w)
  past_high t = clamp_high m≥0 (beyond a side t)

  past_neighbours : (t t' : ℤ) → Within (pos 2 *ℤ (a.scale *ℤ w)) (past a side w t +ℤ past a side w t')
  past_neighbours t t' =
      let c = past a side w t in
      let c' = past a side w t' in
      record {
        low = lin≤ (c ∷ c' ∷ a.scale ∷ w ∷ []) (le m≥0 & le (past_low t) & le (past_low t')) (search linear depth 40) tt;
        high = lin≤ (c ∷ c' ∷ a.scale ∷ w ∷ []) (le (past_high t) & le (past_high t')) (search linear depth 40) tt;
      }

  past-run : (t t' : ℤ) → Within (a.scale *ℤ w) (past a side w t' -ℤ past a side w t)
  past-run t t' =
      let c = past a side w t in
      let c' = past a side w t' in
      record {
        low = lin≤ (c ∷ c' ∷ a.scale ∷ w ∷ []) (le (past_high t) & le (past_low t')) (search linear depth 40) tt;
        high = lin≤ (c ∷ c' ∷ a.scale ∷ w ∷ []) (le (past_low t) & le (past_high t')) (search linear depth 40) tt;
      }

  near_neighbours : (t t' : ℤ) → Within (a.scale *ℤ w) (near a side w t +ℤ near a side w t')
  near_neighbours t t' =
      let c = near a side w t in
      let c' = near a side w t' in
      let m = a.scale *ℤ w in
      record {
        low = lin≤ (c ∷ c' ∷ a.scale ∷ w ∷ [])
            (le m≥0 & le (tent-nonneg m≥0 (beyond a side t)) & le (tent-nonneg m≥0 (beyond a side t'))) (search linear depth 40) tt;
        high = lin≤ (c ∷ c' ∷ a.scale ∷ w ∷ []) (le (tent_half m (beyond a side t)) & le (tent_half m (beyond a side t'))) (search linear depth 40) tt;
      }

  -- g takes no longer steps than the clamp does
  abbrev Follows : (ℤ → ℤ) → Type 0
  Follows g = (b : ℤ) (t : ℕ) → Within b (past a side w (pos (suc t)) -ℤ past a side w (pos t)) → Within b (g (pos (suc t)) -ℤ g (pos t))

  past-follows : Follows (past a side w)
  past-follows b t k = k

  near-follows : Follows (near a side w)
  near-follows b t k = tent-follows (a.scale *ℤ w) (beyond a side (pos t)) (beyond a side (pos (suc t))) k

  beyond-suc : (t : ℕ) → beyond a side (pos t) +ℤ a.sign ≡ beyond a side (pos (suc t))
  beyond-suc t = ring (a.scale ∷ a.start ∷ a.sign ∷ side ∷ pos t ∷ []) (search read depth 40) tt

  sum-bounds : Direction a.sign → (f g : ℤ → ℤ) {M : ℤ} → ((t : ℕ) → Within M (f (pos t) +ℤ f (pos (suc t)))) → Follows g → (n : ℕ)
      → SumBounds a w M n (along f g n)
  sum-bounds d f g {M} p q n = record {
    by_length = within_is (ring (M ∷ abs s ∷ pos n ∷ []) (search read depth 40) tt) refl (S-bound f' g' (λ t. pos t *ℤ abs s) p short n);
    by_width = within_le narrow (S-bound f' g' (λ t. s *ℤ c t) p monotone n);
  }
    where
      s : ℤ
      s = a.sign

      f' : ℕ → ℤ
      f' t = f (pos t)

      g' : ℕ → ℤ
      g' t = g (pos t)

      c : ℕ → ℤ
      c t = past a side w (pos t)

      -- a step is no longer than the sign
      short : (t : ℕ) → Within (pos (suc t) *ℤ abs s -ℤ pos t *ℤ abs s) (g (pos (suc t)) -ℤ g (pos t))
      short t =
          q _ t (within_is (ring (abs s ∷ pos t ∷ []) (search read depth 40) tt) (ap (λ v. clamp v (pos 0) (a.scale *ℤ w) -ℤ c t) (beyond-suc t))
          (clamp_moves (pos 0) (a.scale *ℤ w) (beyond a side (pos t)) s (within_of_abs (≤ℤ_of_≡ refl))))

      -- held, the walk runs one way, so its steps add up to how far it gets
      monotone : (t : ℕ) → Within (s *ℤ c (suc t) -ℤ s *ℤ c t) (g (pos (suc t)) -ℤ g (pos t))
      monotone t =
          q _ t (subst (λ v. Within (s *ℤ clamp v (pos 0) (a.scale *ℤ w) -ℤ s *ℤ c t) (clamp v (pos 0) (a.scale *ℤ w) -ℤ c t)) (beyond-suc t)
          (clamp_runs d (a.scale *ℤ w) (beyond a side (pos t))))

      -- and it gets no farther than the width
      narrow : (M *ℤ (s *ℤ c n -ℤ s *ℤ c 0)) ≤ℤ (M *ℤ (a.scale *ℤ w))
      narrow =
          let M≥0 : pos 0 ≤ℤ M = lin≤ (M ∷ f (pos 0) ∷ f (pos 1) ∷ []) (bounds (p 0)) (search linear depth 40) tt in
          let run = within_mul (direction_within d) (past-run (pos 0) (pos n)) in
          lin≤ (M ∷ s ∷ c n ∷ c 0 ∷ a.scale ∷ w ∷ []) (le (≤ℤ-mul M≥0 run.high)) (search linear depth 40) tt

-- ---- two directions: one is summed over the moves of the other
module _ (a b : Axis) (p q : ℤ) {w : ℤ} (a≥0 : pos 0 ≤ℤ a.scale) (b≥0 : pos 0 ≤ℤ b.scale) (w≥0 : pos 0 ≤ℤ w) (d : Direction b.sign) (n : ℕ) where
  pub past-past : SumBounds b w (pos 2 *ℤ (a.scale *ℤ w)) n (along (past a p w) (past b q w) n)
  past-past =
      sum-bounds b q b≥0 w≥0 d (past a p w) (past b q w) (λ t. past_neighbours a p a≥0 w≥0 (pos t) (pos (suc t))) (past-follows b q b≥0 w≥0) n

  pub near-past : SumBounds b w (a.scale *ℤ w) n (along (near a p w) (past b q w) n)
  near-past =
      sum-bounds b q b≥0 w≥0 d (near a p w) (past b q w) (λ t. near_neighbours a p a≥0 w≥0 (pos t) (pos (suc t))) (past-follows b q b≥0 w≥0) n

  pub near-near : SumBounds b w (a.scale *ℤ w) n (along (near a p w) (near b q w) n)
  near-near =
      sum-bounds b q b≥0 w≥0 d (near a p w) (near b q w) (λ t. near_neighbours a p a≥0 w≥0 (pos t) (pos (suc t))) (near-follows b q b≥0 w≥0) n
