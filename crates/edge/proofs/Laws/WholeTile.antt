-- An edge that lies in a cell, as every edge of an outline lies on the tile: its area there is its term of the root, and a term of its two end points.
--
-- Main results
--   stays_between           a walk whose two ends lie between two sides stays between them
--   root_boundary           the term of an end point
--   whole_tile              area = root term + the end points' terms, N times over
use Rattle.std.specs.Prelude.{◌≡◌, [], ◌∷◌, ◌⊎◌, ℕ, ◌≤◌, ℤ, pos, ◌+ℤ◌, ◌-ℤ◌, ◌*ℤ◌, ◌≤ℤ◌, ◌<ℤ◌}
use Rattle.std.proofs.Common.{◌∙◌, ap₂, inl, inr, arith}
use Rattle.integers.proofs.Theorems.Ring.{read, ring}
use Rattle.integers.proofs.Theorems.Order.{nonneg, pos-≤ℤ, ≤ℤ_or_<ℤ, ≤ℤ_of_<ℤ, ≤ℤ-mul}
use Rattle.integers.proofs.Theorems.Linear.{le, eq, ◌&◌, linear, lin≤}
use Rattle.integers.proofs.Theorems.Clamp.{clamp-inside}
use Rattle.integers.specs.Trapezoid.{Affine}
use Rattle.integers.proofs.Theorems.Trapezoid.{S-affine}
use Rattle.edge.specs.declared.Edge.{Edge}
use Rattle.edge.specs.declared.Cell.{Cell}
use Rattle.edge.specs.declared.Axis.{Axis}
use Rattle.edge.specs.Walk.{ax, ay, steps, x_axis, y_axis, beyond, past}
use Rattle.edge.specs.Nested.{OnRange, OnCell}
use Rattle.edge.proofs.Lemmas.Ends.{x_end, y_end}
use Rattle.edge.specs.Integrals.{area_num}
use Rattle.edge.proofs.Lemmas.OneDirection.{ClosedRun}
use Rattle.edge.specs.Rounded.{root_term}

-- A function of the end point alone: around a closed contour it cancels, and the root terms are left.
unfoldable pub root_boundary : Cell → ℤ → ℤ → ℤ
root_boundary c px py = px *ℤ py -ℤ pos 2 *ℤ c.left *ℤ py

-- ---- what runs from u by s at each step is not below 0 on the way where it is not at either end
nonneg-between : (u s : ℤ) {n t : ℤ} → pos 0 ≤ℤ t → t ≤ℤ n → pos 0 ≤ℤ u → pos 0 ≤ℤ (u +ℤ s *ℤ n) → pos 0 ≤ℤ (u +ℤ s *ℤ t)
nonneg-between u s {n} {t} g h p q = go (≤ℤ_or_<ℤ (pos 0) s)
  where
    go : (pos 0 ≤ℤ s) ⊎ (s <ℤ pos 0) → pos 0 ≤ℤ (u +ℤ s *ℤ t)
    go (inl k) = lin≤ (u ∷ s ∷ n ∷ t ∷ []) (le p & le (≤ℤ-mul k g)) (search linear depth 40) tt
    go (inr k) = lin≤ (u ∷ s ∷ n ∷ t ∷ []) (le q & le (≤ℤ-mul (≤ℤ_of_<ℤ k) h)) (search linear depth 40) tt

-- ---- one direction of a walk whose two ends, its start and q, lie between two sides: so does all of it
pub stays_between : (a : Axis) (side w q : ℤ) {n : ℤ} → pos 0 ≤ℤ a.scale → OnRange side w a.start → OnRange side w q
    → beyond a side n ≡ a.scale *ℤ (q -ℤ side) → ClosedRun a side w (pos 0) n
stays_between a side w q {n} g i j e = record {
  at = λ t l h.
      let k = a.scale in
      let u = k *ℤ (a.start -ℤ side) in
      let high : pos 0 ≤ℤ (k *ℤ w -ℤ u +ℤ (pos 0 -ℤ a.sign) *ℤ t) =
      nonneg-between (k *ℤ w -ℤ u) (pos 0 -ℤ a.sign) l h
      (lin≤ (k ∷ a.start ∷ side ∷ w ∷ []) (le (≤ℤ-mul g i.high)) (search linear depth 40) tt)
      (lin≤ (k ∷ a.start ∷ a.sign ∷ side ∷ w ∷ q ∷ n ∷ []) (eq e & le (≤ℤ-mul g j.high)) (search linear depth 40) tt) in
      record {
        low =
            nonneg-between u a.sign l h
            (lin≤ (k ∷ a.start ∷ side ∷ []) (le (≤ℤ-mul g i.low)) (search linear depth 40) tt)
            (lin≤ (k ∷ a.start ∷ a.sign ∷ side ∷ q ∷ n ∷ []) (eq e & le (≤ℤ-mul g j.low)) (search linear depth 40) tt);
        high = lin≤ (k ∷ a.start ∷ a.sign ∷ side ∷ w ∷ t ∷ []) (le high) (search linear depth 40) tt;
      };
}

-- it is held nowhere
record Unheld (a : Axis) (side w q : ℤ) (n : ℕ) : Type 0 where
  affine : Affine (λ t. past a side w (pos t)) (a.scale *ℤ (a.start -ℤ side)) a.sign n
  first : past a side w (pos 0) ≡ a.scale *ℤ (a.start -ℤ side)
  last : past a side w (pos n) ≡ a.scale *ℤ (q -ℤ side)

unheld : (a : Axis) (side w q : ℤ) (n : ℕ) → pos 0 ≤ℤ a.scale → OnRange side w a.start → OnRange side w q
    → beyond a side (pos n) ≡ a.scale *ℤ (q -ℤ side) → Unheld a side w q n
unheld a side w q n g i j e = record {
  affine = record { at = λ t h. free t h ∙ ring (a.scale ∷ a.start ∷ a.sign ∷ side ∷ pos t ∷ []) (search read depth 40) tt };
  first = free 0 (omega arith) ∙ ring (a.scale ∷ a.start ∷ a.sign ∷ side ∷ []) (search read depth 40) tt;
  last = free n (omega arith) ∙ e;
}
  where
    free : (t : ℕ) → t ≤ n → past a side w (pos t) ≡ beyond a side (pos t)
    free t h = let k = (stays_between a side w q g i j e).at (pos t) (nonneg t) (pos-≤ℤ h) in clamp-inside k.low k.high

-- ---- an edge: both directions are affine, so one step from end to end is the integral
pub whole_tile : {c : Cell} {e : Edge} → OnCell c e
    → area_num e c ≡ pos (steps e) *ℤ (root_term e +ℤ (root_boundary c e.x1 e.y1 -ℤ root_boundary c e.x0 e.y0))
unfolding area_num root_term root_boundary
whole_tile {c} {e} h =
    let x = unheld (x_axis e) c.left c.width e.x1 (steps e) (nonneg (ay e)) h.x0 h.x1 (x_end e c.left) in
    let y = unheld (y_axis e) c.top c.width e.y1 (steps e) (nonneg (ax e)) h.y0 h.y1 (y_end e c.top) in
    S-affine x.affine y.affine
    ∙ ap₂ ◌*ℤ◌ (ap₂ ◌+ℤ◌ x.first x.last) (ap₂ ◌-ℤ◌ y.last y.first)
    ∙ ring (pos (ax e) ∷ pos (ay e) ∷ e.x0 ∷ e.y0 ∷ e.x1 ∷ e.y1 ∷ c.left ∷ c.top ∷ []) (search read depth 40) tt
