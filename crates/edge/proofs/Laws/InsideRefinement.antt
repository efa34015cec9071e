-- Whether some part of a walk lies strictly inside a cell does not depend on the number of steps: where a step does, each part of it does, and back.
--
-- Main results
--   inside-finer, inside_coarser      some step is strictly inside exactly where, in steps r times as short, some step is
use Rattle.std.specs.Prelude.{◌≡◌, [], ◌∷◌, ◌⊎◌, ℕ, ◌+◌, ◌*◌, ◌/◌, ◌%◌, ◌<◌, ℤ, pos, negsuc, neg_ℤ, ◌+ℤ◌, ◌-ℤ◌, ◌*ℤ◌, ◌≤ℤ◌, ◌<ℤ◌}
use Rattle.std.proofs.Common.{ap, subst, inl, inr, mul-le-mul_right, lt_of_mul-lt-mul_right, div-add-mod', mod-lt, arith}
use Rattle.std.proofs.Math.Path.{subst⁻¹}
use Rattle.integers.proofs.Theorems.Ring.{read, ring, comb, ◌⊕◌, ◌⊗◌}
use Rattle.integers.proofs.Theorems.Order.{≤ℤ_or_<ℤ, ≤ℤ-mul, pos-≤ℤ, nonneg}
use Rattle.integers.proofs.Theorems.Linear.{le, lt, ◌&◌, linear, lin≤, lin<, lin⊥}
use Rattle.integers.specs.Within.{Within}
use Rattle.integers.proofs.Theorems.Within.{bounds, within_neg}
use Rattle.edge.specs.declared.Cell.{Cell}
use Rattle.edge.specs.declared.Axis.{Axis}
use Rattle.edge.specs.Walk.{beyond}
use Rattle.edge.specs.Inside.{twice_middle, Between, SomeStepInside}
use Rattle.edge.proofs.Laws.Refinement.{finer, Pace, moving, standing, Subdivided}

-- ---- a step from u to u + s, where s is at most one either way
-- k times over, in k parts: both ends of part ρ added up
abbrev part_middle : ℕ → ℕ → ℤ → ℤ → ℤ
part_middle k ρ u s = pos k *ℤ u +ℤ s *ℤ pos ρ +ℤ (pos k *ℤ u +ℤ s *ℤ (pos ρ +ℤ pos 1))

-- Where one part lies past 0 so does each, of any division: u and u + s are both at least 0, or both at most 0.
middle-past : {k l ρ σ : ℕ} (u s : ℤ) → Within (pos 1) s → ρ < k → σ < l → pos 0 <ℤ part_middle k ρ u s → pos 0 <ℤ part_middle l σ u s
middle-past {k} {l} {ρ} {σ} u s w g h p = go (≤ℤ_or_<ℤ (u +ℤ (u +ℤ s)) (pos 0))
  where
    go : ((u +ℤ (u +ℤ s)) ≤ℤ pos 0) ⊎ (pos 0 <ℤ (u +ℤ (u +ℤ s))) → pos 0 <ℤ part_middle l σ u s
    go (inl q) =
        let a : u ≤ℤ pos 0 = lin≤ (u ∷ s ∷ []) (bounds w & le q) (search linear depth 40) tt in
        let b : (u +ℤ s) ≤ℤ pos 0 = lin≤ (u ∷ s ∷ []) (bounds w & le q) (search linear depth 40) tt in
        lin⊥ (u ∷ s ∷ pos k ∷ pos ρ ∷ []) (le (≤ℤ-mul a (pos-≤ℤ g)) & le (≤ℤ-mul b (nonneg ρ)) & le q & lt p) (search linear depth 40) tt
    go (inr q) =
        let a : pos 0 ≤ℤ u = lin≤ (u ∷ s ∷ []) (bounds w & lt q) (search linear depth 40) tt in
        let b : pos 0 ≤ℤ (u +ℤ s) = lin≤ (u ∷ s ∷ []) (bounds w & lt q) (search linear depth 40) tt in
        lin< (u ∷ s ∷ pos l ∷ pos σ ∷ []) (le (≤ℤ-mul a (pos-≤ℤ h)) & le (≤ℤ-mul b (nonneg σ)) & lt q) (search linear depth 40) tt

-- ---- step τ of an axis b is a part of step i of a, k times over
record PartOf (a : Axis) (i : ℕ) (k : ℕ) (b : Axis) (τ : ℕ) : Type 0 where
  part : ℕ
  on : part < k
  scale : b.scale ≡ pos k *ℤ a.scale
  middle : (side : ℤ) → twice_middle b side (pos τ) ≡ part_middle k part (beyond a side (pos i)) a.sign

-- the step is its own only part
itself : (a : Axis) (i : ℕ) → PartOf a i 1 a i
itself a i = record {
  part = 0;
  on = omega arith;
  scale = ring (a.scale ∷ []) (search read depth 40) tt;
  middle = λ side. ring (a.scale ∷ a.start ∷ a.sign ∷ side ∷ pos i ∷ []) (search read depth 40) tt;
}

-- an axis that stands still is in every part at once, and part 0 will do
step_of_finer : {r k : ℕ} {a : Axis} → Pace r k a.sign → 0 < k → (i ρ : ℕ) → ρ < r → PartOf a i k (finer k a) (i * r + ρ)
step_of_finer {r} {k} {a} (moving e) h i ρ g = record {
  part = ρ;
  on = omega arith;
  scale = ring (pos k ∷ a.scale ∷ []) (search read depth 40) tt;
  middle = λ side.
      comb (a.scale ∷ a.start ∷ a.sign ∷ side ∷ pos i ∷ pos ρ ∷ pos r ∷ pos k ∷ []) ((negsuc 1 *ℤ (a.sign *ℤ pos i)) ⊗ ap pos e) (search read depth 40) tt;
}
step_of_finer {r} {k} {a} (standing e) h i ρ g = record {
  part = 0;
  on = h;
  scale = ring (pos k ∷ a.scale ∷ []) (search read depth 40) tt;
  middle = λ side.
      comb (a.scale ∷ a.start ∷ a.sign ∷ side ∷ pos i ∷ pos ρ ∷ pos r ∷ pos k ∷ []) ((pos 2 *ℤ (pos (i * r + ρ) -ℤ pos (k * i))) ⊗ e) (search read depth 40) tt;
}

-- how far before the far side: the same of a step from m − u by −s, m being the width
behind : (side w : ℤ) {a : Axis} {i k : ℕ} {b : Axis} {τ : ℕ} (p : PartOf a i k b τ)
    → pos 2 *ℤ (b.scale *ℤ w) -ℤ twice_middle b side (pos τ) ≡ part_middle k p.part (a.scale *ℤ w -ℤ beyond a side (pos i)) (neg_ℤ a.sign)
behind side w {a} {i} {k} {b} {τ} p =
    comb (a.scale ∷ a.start ∷ a.sign ∷ pos i ∷ side ∷ w ∷ pos k ∷ pos p.part ∷ b.scale ∷ b.start ∷ b.sign ∷ pos τ ∷ [])
    ((pos 2 *ℤ w) ⊗ p.scale ⊕ negsuc 0 ⊗ p.middle side) (search read depth 40) tt

-- so where one part lies between two sides, each does
between_parts : (side w : ℤ) {a : Axis} → Within (pos 1) a.sign → {i k l : ℕ} {b c : Axis} {τ υ : ℕ} → PartOf a i k b τ → PartOf a i l c υ
    → Between b side w (pos τ) → Between c side w (pos υ)
between_parts side w {a} s {i} {b = b} {c} {τ} {υ} p q h =
    let u = beyond a side (pos i) in
    let far = a.scale *ℤ w -ℤ u in
    record {
      after = subst⁻¹ (λ z. pos 0 <ℤ z) (q.middle side) (middle-past u a.sign s p.on q.on (subst (λ z. pos 0 <ℤ z) (p.middle side) h.after));
      before =
          less (subst⁻¹ (λ z. pos 0 <ℤ z) (behind side w q)
          (middle-past far (neg_ℤ a.sign) (within_neg s) p.on q.on (subst (λ z. pos 0 <ℤ z) (behind side w p) (room h.before))));
    }
  where
    room : {x y : ℤ} → x <ℤ y → pos 0 <ℤ (y -ℤ x)
    room {x} {y} h = lin< (x ∷ y ∷ []) (lt h) (search linear depth 40) tt

    less : {x y : ℤ} → pos 0 <ℤ (y -ℤ x) → x <ℤ y
    less {x} {y} h = lin< (x ∷ y ∷ []) (lt h) (search linear depth 40) tt

-- ---- walks
module _ {r k l : ℕ} {a b : Axis} (p : Subdivided r k a) (q : Subdivided r l b) (gr : 0 < r) (gk : 0 < k) (gl : 0 < l) {c : Cell} {n : ℕ} where
  pub inside-finer : SomeStepInside a b c n → SomeStepInside (finer k a) (finer l b) c (n * r)
  inside-finer s =
      let i = s.step in
      record {
        step = i * r + 0;
        on = omega (arith, mul-le-mul_right r s.on);
        x = between_parts c.left c.width p.signed (itself a i) (step_of_finer p.pace gk i 0 gr) s.x;
        y = between_parts c.top c.width q.signed (itself b i) (step_of_finer q.pace gl i 0 gr) s.y;
      }

  pub inside_coarser : SomeStepInside (finer k a) (finer l b) c (n * r) → SomeStepInside a b c n
  inside_coarser s =
      let i = s.step / r in
      record {
        step = i;
        on = lt_of_mul-lt-mul_right r (omega (arith, s.on, div-add-mod' s.step r));
        x = between_parts c.left c.width p.signed (at p.pace gk) (itself a i) s.x;
        y = between_parts c.top c.width q.signed (at q.pace gl) (itself b i) s.y;
      }
    where
      -- step τ is part τ mod r of step τ / r
      at : {m : ℕ} {d : Axis} → Pace r m d.sign → 0 < m → PartOf d (s.step / r) m (finer m d) s.step
      at {m} {d} g h =
          subst (PartOf d (s.step / r) m (finer m d)) (div-add-mod' s.step r) (step_of_finer g h (s.step / r) (s.step % r) (mod-lt s.step gr))
