-- One direction of a walk between two sides: the held coordinate is linear along it, and the distance to the nearer side is linear up to the middle
-- and from the middle on. Beyond the sides the held coordinate rests, so that it is linear between the crossings of both.
--
-- Main results
--   ClosedRun, between_run              the walk is between the sides, or on them, from step u to step v: so where its steps are strictly between them
--   past_linear                         there the held coordinate is linear
--   OneHalf, near_linear                and where it does not cross the middle either, so is the distance to the nearer side
--   BesideThrice, besideˡ, besideʳ      at cuts p ≤ u ≤ v ≤ q, with the crossing of a line at u or at v, each of the three runs is on one side of it
--   past-closed, near_thrice            in a closed run cut at the crossing of the middle, `past` and `near` are linear on all three runs
--   past_thrice                         in any run cut at the crossings of both sides, so is `past`
use Rattle.std.specs.Prelude.{◌≡◌, [], ◌∷◌, ◌⊎◌, ℤ, pos, neg_ℤ, ◌+ℤ◌, ◌-ℤ◌, ◌*ℤ◌, ◌≤ℤ◌, ◌<ℤ◌}
use Rattle.std.proofs.Common.{◌∙◌, ap, subst, inl, inr}
use Rattle.std.specs.Int.Signed.{≤ℤ_refl}
use Rattle.integers.proofs.Theorems.Ring.{read, ring}
use Rattle.integers.proofs.Theorems.Order.{≤ℤ_or_<ℤ, ≤ℤ_trans, ≤ℤ_of_<ℤ, add_one_≤ℤ}
use Rattle.integers.proofs.Theorems.Linear.{le, lt, eq, ◌&◌, linear, lin≤, lin≡}
use Rattle.integers.specs.MinMax.{min, max}
use Rattle.integers.proofs.Theorems.MinMax.{min_eqˡ, min_eqʳ, min-≤ˡ, min-≤ʳ, min-greatest, max-≥ˡ, max-≥ʳ, max_least}
use Rattle.integers.specs.Clamp.{clamp}
use Rattle.integers.proofs.Theorems.Clamp.{clamp_low, clamp_high, clamp-below, clamp-inside, clamp-above}
use Rattle.integers.proofs.Theorems.Tent.{tent-inside}
use Rattle.edge.specs.declared.Axis.{Axis}
use Rattle.edge.specs.Walk.{beyond, past, near}
use Rattle.edge.specs.Inside.{Between}
use Rattle.edge.proofs.Lemmas.Ends.{Direction, forward, still, backward, Steady, steady_within}
use Rattle.edge.proofs.Lemmas.Steps.{between_ends}
use Rattle.edge.specs.Code.{Closed}
use Rattle.edge.proofs.Lemmas.Runs.{LinearOn, LinearThrice, Ordered}
use Rattle.edge.specs.Cuts.{to_middle}

-- ---- linear runs
linear_point : (f : ℤ → ℤ) {u v : ℤ} → v ≤ℤ u → LinearOn f u v
linear_point f {u} {v} h = record {
  offset = f u;
  slope = pos 0;
  line = λ t i j. ap f {y = u} (lin≡ (t ∷ u ∷ v ∷ []) (le h & le i & le j) (search linear depth 40) (tt, tt)) ∙ ring (f u ∷ t ∷ []) (search read depth 40) tt;
}

-- the walk is between the sides, or on them, from u to v
pub record ClosedRun (a : Axis) (side w u v : ℤ) : Type 0 where
  pub at : (t : ℤ) → u ≤ℤ t → t ≤ℤ v → Closed a side w t

-- the last step ends at q
pub between_run : (a : Axis) → Steady a → (side w : ℤ) {p q : ℤ} → p <ℤ q → ((t : ℤ) → p ≤ℤ t → (t +ℤ pos 1) ≤ℤ q → Between a side w t)
    → ClosedRun a side w p q
between_run a s side w {p} {q} some between = record { at = λ t h j. go t h j (≤ℤ_or_<ℤ q t) }
  where
    go : (t : ℤ) → p ≤ℤ t → t ≤ℤ q → (q ≤ℤ t) ⊎ (t <ℤ q) → Closed a side w t
    go t h j (inr i) = (between_ends a side w t (steady_within s) (between t h (add_one_≤ℤ i))).0
    go t h j (inl i) =
        let b = between (t -ℤ pos 1) (lin≤ (t ∷ p ∷ q ∷ []) (le i & lt some) (search linear depth 40) tt) (lin≤ (t ∷ q ∷ []) (le j) (search linear depth 40) tt) in
        let e : t -ℤ pos 1 +ℤ pos 1 ≡ t = ring (t ∷ []) (search read depth 40) tt in
        subst (Closed a side w) e (between_ends a side w (t -ℤ pos 1) (steady_within s) b).1

pub past_linear : {a : Axis} {side w u v : ℤ} → ClosedRun a side w u v → LinearOn (past a side w) u v
past_linear {a} {side} {w} r = record {
  offset = a.scale *ℤ (a.start -ℤ side);
  slope = a.sign;
  line = λ t i j. clamp-inside (r.at t i j).low (r.at t i j).high;
}

-- from u to v the walk does not cross the middle
pub data OneHalf (a : Axis) (side half u v : ℤ) : Type 0 where
  before : ((t : ℤ) → u ≤ℤ t → t ≤ℤ v → beyond a side t ≤ℤ (a.scale *ℤ half)) → OneHalf a side half u v
  behind : ((t : ℤ) → u ≤ℤ t → t ≤ℤ v → (a.scale *ℤ half) ≤ℤ beyond a side t) → OneHalf a side half u v

pub near_linear : (a : Axis) (side half : ℤ) {w u v : ℤ} → w ≡ half +ℤ half → ClosedRun a side w u v → OneHalf a side half u v → LinearOn (near a side w) u v
near_linear a side half {w} e r (before f) = record {
  offset = a.scale *ℤ (a.start -ℤ side);
  slope = a.sign;
  line = λ t i j.
      let d : a.scale *ℤ w ≡ a.scale *ℤ half +ℤ a.scale *ℤ half = ap (λ z. a.scale *ℤ z) e ∙ ring (a.scale ∷ half ∷ []) (search read depth 40) tt in
      tent-inside (r.at t i j).low (r.at t i j).high
      ∙ min_eqˡ (lin≤ (a.scale ∷ a.start ∷ a.sign ∷ side ∷ half ∷ w ∷ t ∷ []) (le (f t i j) & eq d) (search linear depth 40) tt);
}
near_linear a side half {w} e r (behind f) = record {
  offset = a.scale *ℤ w -ℤ a.scale *ℤ (a.start -ℤ side);
  slope = neg_ℤ a.sign;
  line = λ t i j.
      let d : a.scale *ℤ w ≡ a.scale *ℤ half +ℤ a.scale *ℤ half = ap (λ z. a.scale *ℤ z) e ∙ ring (a.scale ∷ half ∷ []) (search read depth 40) tt in
      tent-inside (r.at t i j).low (r.at t i j).high
      ∙ min_eqʳ (lin≤ (a.scale ∷ a.start ∷ a.sign ∷ side ∷ half ∷ w ∷ t ∷ []) (le (f t i j) & eq d) (search linear depth 40) tt)
      ∙ ring (a.scale ∷ a.start ∷ a.sign ∷ side ∷ w ∷ t ∷ []) (search read depth 40) tt;
}

one_half : (k x side half : ℤ) {s u v : ℤ} → Direction s → (v ≤ℤ to_middle (record { scale = k; start = x; sign = s }) side half) ⊎ (to_middle (record { scale = k; start = x; sign = s }) side half ≤ℤ u)
    → OneHalf (record { scale = k; start = x; sign = s }) side half u v
one_half k x side half {s} {u} {v} forward (inl h) = before (λ t i j. lin≤ (k ∷ x ∷ side ∷ half ∷ t ∷ v ∷ []) (le h & le j) (search linear depth 40) tt)
one_half k x side half {s} {u} {v} forward (inr h) = behind (λ t i j. lin≤ (k ∷ x ∷ side ∷ half ∷ t ∷ u ∷ []) (le h & le i) (search linear depth 40) tt)
one_half k x side half {s} {u} {v} backward (inl h) = behind (λ t i j. lin≤ (k ∷ x ∷ side ∷ half ∷ t ∷ v ∷ []) (le h & le j) (search linear depth 40) tt)
one_half k x side half {s} {u} {v} backward (inr h) = before (λ t i j. lin≤ (k ∷ x ∷ side ∷ half ∷ t ∷ u ∷ []) (le h & le i) (search linear depth 40) tt)
one_half k x side half {s} {u} {v} still h = go (≤ℤ_or_<ℤ (k *ℤ (x -ℤ side)) (k *ℤ half))
  where
    go : ((k *ℤ (x -ℤ side)) ≤ℤ (k *ℤ half)) ⊎ ((k *ℤ half) <ℤ (k *ℤ (x -ℤ side))) → OneHalf (record { scale = k; start = x; sign = pos 0 }) side half u v
    go (inl g) = before (λ t i j. lin≤ (k ∷ x ∷ side ∷ half ∷ t ∷ []) (le g) (search linear depth 40) tt)
    go (inr g) = behind (λ t i j. lin≤ (k ∷ x ∷ side ∷ half ∷ t ∷ []) (lt g) (search linear depth 40) tt)

-- a run on one side of m, which is M held between p and q, is on one side of M, or a single step
pub data Beside (M u v : ℤ) : Type 0 where
  short : v ≤ℤ M → Beside M u v
  beyond_it : M ≤ℤ u → Beside M u v
  single : v ≤ℤ u → Beside M u v

beside : (M p q : ℤ) {u v : ℤ} → p ≤ℤ q → p ≤ℤ u → v ≤ℤ q → (v ≤ℤ clamp M p q) ⊎ (clamp M p q ≤ℤ u) → Beside M u v
beside M p q {u} {v} pq pu vq (inl h) = go (≤ℤ_or_<ℤ v M) (≤ℤ_or_<ℤ M p)
  where
    go : (v ≤ℤ M) ⊎ (M <ℤ v) → (M ≤ℤ p) ⊎ (p <ℤ M) → Beside M u v
    go (inl i) j = short i
    go (inr i) (inl j) = single (≤ℤ_trans (subst (λ z. v ≤ℤ z) (clamp-below q j) h) pu)
    go (inr i) (inr j) = short (subst (λ z. v ≤ℤ z) (clamp-inside (≤ℤ_of_<ℤ j) (≤ℤ_trans (≤ℤ_of_<ℤ i) vq)) h)
beside M p q {u} {v} pq pu vq (inr h) = go (≤ℤ_or_<ℤ M u) (≤ℤ_or_<ℤ q M)
  where
    go : (M ≤ℤ u) ⊎ (u <ℤ M) → (q ≤ℤ M) ⊎ (M <ℤ q) → Beside M u v
    go (inl i) j = beyond_it i
    go (inr i) (inl j) = single (≤ℤ_trans vq (subst (λ z. z ≤ℤ u) (clamp-above pq j) h))
    go (inr i) (inr j) = beyond_it (subst (λ z. z ≤ℤ u) (clamp-inside (≤ℤ_trans pu (≤ℤ_of_<ℤ i)) (≤ℤ_of_<ℤ j)) h)

-- ---- three runs, cut where the walk crosses one line or another
pub record BesideThrice (M p u v q : ℤ) : Type 0 where
  pub first : Beside M p u
  pub second : Beside M u v
  pub third : Beside M v q

-- the cuts are at L and at R, held between p and q, in their order
module _ (L R : ℤ) {p q : ℤ} (pq : p ≤ℤ q) where
  abbrev l : ℤ
  l = clamp L p q

  abbrev r : ℤ
  r = clamp R p q

  -- a crossing M whose held step is one of the two cuts
  at_a_cut : (M : ℤ) → min l r ≤ℤ clamp M p q → clamp M p q ≤ℤ max l r → (max l r ≤ℤ clamp M p q) ⊎ (clamp M p q ≤ℤ min l r)
      → BesideThrice M p (min l r) (max l r) q
  at_a_cut M h k m =
      let p≤u = min-greatest (clamp_low L p q) (clamp_low R p q) in
      let v≤q = max_least (clamp_high pq L) (clamp_high pq R) in
      record {
        first = beside M p q pq (≤ℤ_refl p) (≤ℤ_trans h (clamp_high pq M)) (inl h);
        second = beside M p q pq p≤u v≤q m;
        third = beside M p q pq (≤ℤ_trans (clamp_low M p q) k) (≤ℤ_refl q) (inr k);
      }

  pub besideˡ : BesideThrice L p (min l r) (max l r) q
  besideˡ = at_a_cut L (min-≤ˡ l r) (max-≥ˡ l r) (go (≤ℤ_or_<ℤ l r))
    where
      go : (l ≤ℤ r) ⊎ (r <ℤ l) → (max l r ≤ℤ l) ⊎ (l ≤ℤ min l r)
      go (inl i) = inr (min-greatest (≤ℤ_refl l) i)
      go (inr i) = inl (max_least (≤ℤ_refl l) (≤ℤ_of_<ℤ i))

  pub besideʳ : BesideThrice R p (min l r) (max l r) q
  besideʳ = at_a_cut R (min-≤ʳ l r) (max-≥ʳ l r) (go (≤ℤ_or_<ℤ l r))
    where
      go : (l ≤ℤ r) ⊎ (r <ℤ l) → (max l r ≤ℤ r) ⊎ (r ≤ℤ min l r)
      go (inl i) = inl (max_least i (≤ℤ_refl r))
      go (inr i) = inr (min-greatest (≤ℤ_of_<ℤ i) (≤ℤ_refl r))

-- a run beside a crossing is on one side of it, or a single step
side_of : (a : Axis) → Steady a → (side half : ℤ) {u v : ℤ} → Beside (to_middle a side half) u v → OneHalf a side half u v ⊎ (v ≤ℤ u)
side_of a s side half (short z) = inl (one_half a.scale a.start side half s.signed (inl z))
side_of a s side half (beyond_it z) = inl (one_half a.scale a.start side half s.signed (inr z))
side_of a s side half (single z) = inr z

-- ---- between the sides, cut where the walk crosses the middle
module _ {a : Axis} {side w p u v q n : ℤ} (r : ClosedRun a side w p q) (o : Ordered p u v q n) where
  r₁ : ClosedRun a side w p u
  r₁ = record { at = λ t i j. r.at t i (≤ℤ_trans j (≤ℤ_trans o.b≥a o.q≥b)) }

  r₂ : ClosedRun a side w u v
  r₂ = record { at = λ t i j. r.at t (≤ℤ_trans o.a≥p i) (≤ℤ_trans j o.q≥b) }

  r₃ : ClosedRun a side w v q
  r₃ = record { at = λ t i j. r.at t (≤ℤ_trans (≤ℤ_trans o.a≥p o.b≥a) i) j }

  pub past-closed : LinearThrice (past a side w) p u v q
  past-closed = record { first = past_linear r₁; second = past_linear r₂; third = past_linear r₃ }

  pub near_thrice : Steady a → (half : ℤ) → w ≡ half +ℤ half → BesideThrice (to_middle a side half) p u v q → LinearThrice (near a side w) p u v q
  near_thrice s half e b = record { first = run r₁ b.first; second = run r₂ b.second; third = run r₃ b.third }
    where
      run : {x y : ℤ} → ClosedRun a side w x y → Beside (to_middle a side half) x y → LinearOn (near a side w) x y
      run {x} {y} c d = go (side_of a s side half d)
        where
          go : OneHalf a side half x y ⊎ (y ≤ℤ x) → LinearOn (near a side w) x y
          go (inl h) = near_linear a side half e c h
          go (inr h) = linear_point (near a side w) h

-- ---- anywhere, cut where the walk crosses the two sides, which are the middles of half widths 0 and w
past_one_side : (a : Axis) (side : ℤ) {w u v : ℤ} → pos 0 ≤ℤ (a.scale *ℤ w)
    → OneHalf a side (pos 0) u v ⊎ (v ≤ℤ u) → OneHalf a side w u v ⊎ (v ≤ℤ u) → LinearOn (past a side w) u v
past_one_side a side {w} h (inr x) y = linear_point (past a side w) x
past_one_side a side {w} h (inl x) (inr y) = linear_point (past a side w) y
past_one_side a side {w} h (inl (before f)) (inl y) = record {
  offset = pos 0;
  slope = pos 0;
  line = λ t i j.
      clamp-below (a.scale *ℤ w) (lin≤ (a.scale ∷ a.start ∷ a.sign ∷ side ∷ t ∷ []) (le (f t i j)) (search linear depth 40) tt)
      ∙ ring (t ∷ []) (search read depth 40) tt;
}
past_one_side a side {w} h (inl (behind f)) (inl (before g)) = record {
  offset = a.scale *ℤ (a.start -ℤ side);
  slope = a.sign;
  line = λ t i j. clamp-inside (lin≤ (a.scale ∷ a.start ∷ a.sign ∷ side ∷ t ∷ []) (le (f t i j)) (search linear depth 40) tt) (g t i j);
}
past_one_side a side {w} h (inl (behind f)) (inl (behind g)) = record {
  offset = a.scale *ℤ w;
  slope = pos 0;
  line = λ t i j. clamp-above h (g t i j) ∙ ring (a.scale ∷ w ∷ t ∷ []) (search read depth 40) tt;
}

pub past_thrice : (a : Axis) → Steady a → (side w : ℤ) {p u v q : ℤ} → pos 0 ≤ℤ (a.scale *ℤ w)
    → BesideThrice (to_middle a side (pos 0)) p u v q → BesideThrice (to_middle a side w) p u v q → LinearThrice (past a side w) p u v q
past_thrice a s side w h x y = record { first = run x.first y.first; second = run x.second y.second; third = run x.third y.third }
  where
    run : {u v : ℤ} → Beside (to_middle a side (pos 0)) u v → Beside (to_middle a side w) u v → LinearOn (past a side w) u v
    run b c = past_one_side a side h (side_of a s side (pos 0) b) (side_of a s side w c)
