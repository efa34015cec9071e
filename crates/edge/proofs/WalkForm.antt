-- The walk of an edge, in the definitions' steps or in unit steps: what holds of every walk holds of it, and its sums, rounded, are what its edge adds.
--
-- Main results
--   every-walk                      what holds of every walk in steady directions
--   sums_on, walk-details           h, v and d along a walk; rounded, the edge's details
--   walk_area                       the area along it; rounded, the edge's
--   walk-zero                       over its divisor 0 is 0
use mathlib.Core.Path.{◌≡◌, refl, sym, ◌∙◌, subst⁻¹}
use mathlib.Core.List.{[], ◌∷◌}
use Prim.Native.Nat.{ℕ}
use lib.IntN.{ℤ, pos, nat_abs, ◌+ℤ◌, ◌*ℤ◌}
use lib.Signed.{◌≤ℤ◌}
use Rattle.integers.proofs.Theorems.Ring.{read, ring}
use Rattle.integers.specs.Rounding.{round_half_away}
use Rattle.integers.proofs.Theorems.RoundHalfAway.{round_half_away_one}
use Rattle.edge.specs.declared.Axis.{Axis}
use Rattle.edge.specs.declared.Cell.{Cell}
use Rattle.edge.specs.declared.Details.{Details}
use Rattle.edge.specs.declared.Edge.{Edge}
use Rattle.edge.specs.Walk.{steps, x_axis, y_axis}
use Rattle.edge.specs.Integrals.{area_on, h_on, v_on, d_on, area_num, h_num, v_num, d_num}
use Rattle.edge.specs.Rounded.{details, rounded_area}
use Rattle.edge.specs.Code.{rounded_by}
use Rattle.edge.specs.Octilinear.{unit_x, unit_y, unit_steps}
use Rattle.edge.specs.WalkOf.{Course, IsWalk, fine, unit}
use Rattle.edge.proofs.Lemmas.Ends.{Steady, x_steady, y_steady}
use Rattle.edge.proofs.Lemmas.Records.{details-eq}
use Rattle.edge.proofs.Laws.StepCount.{rounded_whole}
use Rattle.edge.proofs.Laws.OctilinearEdges.{unit_area, unit_h, unit_v, unit_d, area_octilinear, h_octilinear, v_octilinear, d_octilinear}
use Rattle.edge.proofs.Laws.WalkInside.{unit_x_steady, unit_y_steady}

pub every-walk : (P : Axis → Axis → ℤ → Type 0) → ((a b : Axis) → Steady a → Steady b → (n : ℕ) → P a b (pos n)) → {w : Course} → IsWalk w
    → P w.x w.y w.steps
every-walk P p {w} (fine o e) = subst⁻¹ (λ z. P z.x z.y z.steps) e (p (x_axis w.edge) (y_axis w.edge) (x_steady w.edge) (y_steady w.edge) (steps w.edge))
every-walk P p {w} (unit s e) = subst⁻¹ (λ z. P z.x z.y z.steps) e (p (unit_x w.edge) (unit_y w.edge) (unit_x_steady w.edge) (unit_y_steady w.edge) (unit_steps w.edge))

-- ---- its sums
abbrev pub sums_on : Axis → Axis → Cell → ℕ → Details
sums_on a b c n = record { h = h_on a b c n; v = v_on a b c n; d = d_on a b c n }

-- the sum along the unit walk is the value that the edge's numerator, `steps` times over, is rounded to
unit_value : (e : Edge) (q : ℤ) {z : ℤ} → z ≡ q *ℤ pos (steps e) → round_half_away q 1 ≡ round_half_away z (steps e)
unit_value e q h = round_half_away_one q ∙ sym (rounded_whole e q h)

pub walk-details : {w : Course} → IsWalk w → (c : Cell) {half : ℤ} → c.width ≡ half +ℤ half → pos 0 ≤ℤ half
    → rounded_by w.divisor (sums_on w.x w.y c (nat_abs w.steps)) ≡ details w.edge c
unfolding details h_num v_num d_num
walk-details {w} (fine o e) c even hh = subst⁻¹ (λ z. rounded_by z.divisor (sums_on z.x z.y c (nat_abs z.steps)) ≡ details w.edge c) e refl
walk-details {w} (unit s e) c even hh =
    subst⁻¹ (λ z. rounded_by z.divisor (sums_on z.x z.y c (nat_abs z.steps)) ≡ details w.edge c) e
    (details-eq (unit_value w.edge (unit_h w.edge c) (h_octilinear s c even hh)) (unit_value w.edge (unit_v w.edge c) (v_octilinear s c even hh))
    (unit_value w.edge (unit_d w.edge c) (d_octilinear s c even hh)))

pub walk_area : {w : Course} → IsWalk w → (c : Cell) → pos 0 ≤ℤ c.width
    → round_half_away (area_on w.x w.y c (nat_abs w.steps)) (nat_abs w.divisor) ≡ rounded_area w.edge c
unfolding rounded_area area_num
walk_area {w} (fine o e) c h = subst⁻¹ (λ z. round_half_away (area_on z.x z.y c (nat_abs z.steps)) (nat_abs z.divisor) ≡ rounded_area w.edge c) e refl
walk_area {w} (unit s e) c h =
    subst⁻¹ (λ z. round_half_away (area_on z.x z.y c (nat_abs z.steps)) (nat_abs z.divisor) ≡ rounded_area w.edge c) e
    (unit_value w.edge (unit_area w.edge c) (area_octilinear s c h))

pub walk-zero : {w : Course} → IsWalk w → round_half_away (pos 0) (nat_abs w.divisor) ≡ pos 0
walk-zero {w} (fine o e) =
    subst⁻¹ (λ (z : Course). round_half_away (pos 0) (nat_abs z.divisor) ≡ pos 0) e
    (rounded_whole w.edge (pos 0) (ring (pos (steps w.edge) ∷ []) (search read depth 40) tt))
walk-zero {w} (unit s e) = subst⁻¹ (λ (z : Course). round_half_away (pos 0) (nat_abs z.divisor) ≡ pos 0) e (round_half_away_one (pos 0))
