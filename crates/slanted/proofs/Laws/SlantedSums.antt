-- h, v and d of a slanted walk with some step strictly inside a cell, as sums under its tents. The walk is cut where it crosses the two middles; on each
-- run both tents are straight, and what the runs add up to needs no cuts.
--
-- Main results
--   h_under, v_under        what lies under the tent of one direction, with the sign of the other
--   d_under                 what lies under the tent of x, turned where y crosses its middle
--   first_closed,
--   last_closed             at the first step inside, and at the last, both directions are between their sides, or on them
use Rattle.std.specs.Prelude.{◌≡◌, [], ◌∷◌, ℕ, ℤ, pos, ◌+ℤ◌, ◌-ℤ◌, ◌*ℤ◌, ◌≤ℤ◌, ◌<ℤ◌}
use Rattle.std.proofs.Common.{◌∙◌, ap, ap₂}
use Rattle.std.specs.Int.Signed.{≤ℤ_refl}
use Rattle.integers.proofs.Theorems.Ring.{read, ring, comb, ◌⊕◌, ◌⊗◌}
use Rattle.integers.proofs.Theorems.Order.{≤ℤ_trans, ≤ℤ_of_<ℤ}
use Rattle.integers.proofs.Theorems.Clamp.{clamp-inside}
use Rattle.edge.specs.declared.Axis.{Axis}
use Rattle.edge.specs.declared.Cell.{Cell}
use Rattle.edge.specs.declared.Samples.{Samples}
use Rattle.edge.specs.Walk.{past, near}
use Rattle.edge.specs.Integrals.{along, h_on, d_on}
use Rattle.edge.specs.Cuts.{span, cuts, to_middle}
use Rattle.edge.specs.Code.{Closed}
use Rattle.edge.proofs.Lemmas.Ends.{Steady}
use Rattle.edge.proofs.Lemmas.Runs.{piece, Ordered}
use Rattle.edge.proofs.Lemmas.OneDirection.{Beside, BesideThrice, besideˡ, besideʳ}
use Rattle.edge.proofs.Laws.ClosedForm.{ordered, x_closed, y_closed, near-past-closed, past-near-closed, near-near-closed}
use Rattle.slanted.specs.Under.{under, turned}
use Rattle.slanted.specs.Pieces.{Moving}
use Rattle.slanted.proofs.Laws.Sums.{under-join, turned-join}
use Rattle.slanted.proofs.Laws.Tents.{tent-sum, near-turned}

-- ---- one run
module _ {a b : Axis} (ma : Moving a) (side side' half : ℤ) {w : ℤ} (even : w ≡ half +ℤ half) {u v : ℤ} (h : u ≤ℤ v)
    (i : Closed a side w u) (j : Closed a side w v) (o : Beside (to_middle a side half) u v) (k : Closed b side' w u) (l : Closed b side' w v) where
  past-piece : piece (near a side w) (past b side' w) u v ≡ b.sign *ℤ under (a.scale *ℤ half) (to_middle a side half) u v
  past-piece =
      ap (λ z. (near a side w u +ℤ near a side w v) *ℤ z) {y = b.sign *ℤ (v -ℤ u)}
      (ap₂ ◌-ℤ◌ (clamp-inside l.low l.high) (clamp-inside k.low k.high) ∙ ring (b.scale ∷ b.start ∷ b.sign ∷ side' ∷ u ∷ v ∷ []) (search read depth 40) tt)
      ∙ ring (near a side w u ∷ near a side w v ∷ b.sign ∷ u ∷ v ∷ []) (search read depth 40) tt
      ∙ ap (λ z. b.sign *ℤ z) (tent-sum ma side half even h i j o)

  near-piece : Moving b → Beside (to_middle b side' half) u v
      → piece (near a side w) (near b side' w) u v ≡ turned (a.scale *ℤ half) (to_middle a side half) u v (to_middle b side' half)
  near-piece mb q =
      near-turned mb side' half even (a.scale *ℤ half) (to_middle a side half) (near a side w u +ℤ near a side w v) h k l q (tent-sum ma side half even h i j o)

-- ---- what three runs add
three-under : (s p m : ℤ) {x y z : ℤ} (k u v l : ℤ) → x ≡ s *ℤ under p m k u → y ≡ s *ℤ under p m u v → z ≡ s *ℤ under p m v l
    → x +ℤ y +ℤ z ≡ s *ℤ under p m k l
three-under s p m {x} {y} {z} k u v l i j o =
    comb (s ∷ x ∷ y ∷ z ∷ under p m k u ∷ under p m u v ∷ under p m v l ∷ under p m k v ∷ under p m k l ∷ [])
    (i ⊕ j ⊕ o ⊕ s ⊗ under-join p m k u v ⊕ s ⊗ under-join p m k v l) (search read depth 40) tt

three-turned : (p m t : ℤ) {x y z : ℤ} {k u v l : ℤ} → k ≤ℤ u → u ≤ℤ v → v ≤ℤ l
    → x ≡ turned p m k u t → y ≡ turned p m u v t → z ≡ turned p m v l t → x +ℤ y +ℤ z ≡ turned p m k l t
three-turned p m t f g h i j o = ap₂ ◌+ℤ◌ (ap₂ ◌+ℤ◌ i j ∙ turned-join p m t f g) o ∙ turned-join p m t (≤ℤ_trans f g) h

-- ---- a slanted walk with some step strictly inside
module _ (a b : Axis) (sa : Steady a) (sb : Steady b) (c : Cell) (half : ℤ) (even : c.width ≡ half +ℤ half) (hh : pos 0 ≤ℤ half) (n : ℕ)
    (inside : (span a b c (pos n)).first <ℤ (span a b c (pos n)).last) where
  abbrev first : ℤ
  first = (span a b c (pos n)).first

  abbrev last : ℤ
  last = (span a b c (pos n)).last

  abbrev mx : ℤ
  mx = to_middle a c.left half

  abbrev my : ℤ
  my = to_middle b c.top half

  abbrev px : ℤ
  px = a.scale *ℤ half

  abbrev py : ℤ
  py = b.scale *ℤ half

  abbrev k : Samples
  k = cuts a b c half (pos n)

  o : Ordered k.first k.second k.third k.fourth (pos n)
  o = ordered a b sa sb c half even hh n inside

  inside-closed : {t : ℤ} → (span a b c (pos n)).first ≤ℤ t → t ≤ℤ (span a b c (pos n)).last → Closed a c.left c.width t × Closed b c.top c.width t
  inside-closed {t} h j = ((x_closed a b sa sb c half even hh n inside).at t h j, (y_closed a b sa sb c half even hh n inside).at t h j)

  beside_x : BesideThrice mx first k.second k.third last
  beside_x = besideˡ mx my (≤ℤ_of_<ℤ inside)

  beside_y : BesideThrice my first k.second k.third last
  beside_y = besideʳ mx my (≤ℤ_of_<ℤ inside)

  pub first_closed : Closed a c.left c.width (span a b c (pos n)).first × Closed b c.top c.width (span a b c (pos n)).first
  first_closed = inside-closed (≤ℤ_refl first) (≤ℤ_of_<ℤ inside)

  second_closed : Closed a c.left c.width k.second × Closed b c.top c.width k.second
  second_closed = inside-closed o.a≥p (≤ℤ_trans o.b≥a o.q≥b)

  third_closed : Closed a c.left c.width k.third × Closed b c.top c.width k.third
  third_closed = inside-closed (≤ℤ_trans o.a≥p o.b≥a) o.q≥b

  pub last_closed : Closed a c.left c.width (span a b c (pos n)).last × Closed b c.top c.width (span a b c (pos n)).last
  last_closed = inside-closed (≤ℤ_of_<ℤ inside) (≤ℤ_refl last)

  module _ (ma : Moving a) (mb : Moving b) where
    pub h_under : h_on a b c n ≡ b.sign *ℤ under (a.scale *ℤ half) (to_middle a c.left half) (span a b c (pos n)).first (span a b c (pos n)).last
    h_under =
        near-past-closed a b sa sb c half even hh n inside
        ∙ three-under b.sign px mx first k.second k.third last
        (past-piece ma c.left c.top half even o.a≥p first_closed.0 second_closed.0 beside_x.first first_closed.1 second_closed.1)
        (past-piece ma c.left c.top half even o.b≥a second_closed.0 third_closed.0 beside_x.second second_closed.1 third_closed.1)
        (past-piece ma c.left c.top half even o.q≥b third_closed.0 last_closed.0 beside_x.third third_closed.1 last_closed.1)

    pub v_under : along (near b c.top c.width) (past a c.left c.width) n
        ≡ a.sign *ℤ under (b.scale *ℤ half) (to_middle b c.top half) (span a b c (pos n)).first (span a b c (pos n)).last
    v_under =
        past-near-closed a b sa sb c half even hh n inside
        ∙ three-under a.sign py my first k.second k.third last
        (past-piece mb c.top c.left half even o.a≥p first_closed.1 second_closed.1 beside_y.first first_closed.0 second_closed.0)
        (past-piece mb c.top c.left half even o.b≥a second_closed.1 third_closed.1 beside_y.second second_closed.0 third_closed.0)
        (past-piece mb c.top c.left half even o.q≥b third_closed.1 last_closed.1 beside_y.third third_closed.0 last_closed.0)

    pub d_under : d_on a b c n
        ≡ turned (a.scale *ℤ half) (to_middle a c.left half) (span a b c (pos n)).first (span a b c (pos n)).last (to_middle b c.top half)
    d_under =
        near-near-closed a b sa sb c half even hh n inside
        ∙ three-turned px mx my o.a≥p o.b≥a o.q≥b
        (near-piece ma c.left c.top half even o.a≥p first_closed.0 second_closed.0 beside_x.first first_closed.1 second_closed.1 mb beside_y.first)
        (near-piece ma c.left c.top half even o.b≥a second_closed.0 third_closed.0 beside_x.second second_closed.1 third_closed.1 mb beside_y.second)
        (near-piece ma c.left c.top half even o.q≥b third_closed.0 last_closed.0 beside_x.third third_closed.1 last_closed.1 mb beside_y.third)
