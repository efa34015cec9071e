-- The details of a slanted walk in a cell, by its six numbers, are those of its edge.
--
-- Main results
--   piece-details           for a walk that comes strictly inside the cell
--   rounded-neg             a sign turned, before rounding and after
use Rattle.std.specs.Prelude.{◌≡◌, [], ◌∷◌, ℤ, negsuc, nat_abs, ◌+ℤ◌, ◌*ℤ◌, ◌≤ℤ◌, ◌<ℤ◌}
use Rattle.std.proofs.Common.{sym, ◌∙◌, ap, arith, ltb→lt}
use Rattle.std.proofs.Math.Path.{subst⁻¹}
use Rattle.std.proofs.Math.IntN.{pos, neg_ℤ}
use Rattle.integers.proofs.Theorems.Ring.{read, ring}
use Rattle.integers.proofs.Theorems.Order.{positive}
use Rattle.integers.specs.Rounding.{round_half_away}
use Rattle.integers.proofs.Theorems.RoundHalfAway.{round_half_away-neg, round_half_away_one}
use Rattle.edge.specs.declared.Axis.{Axis}
use Rattle.edge.specs.declared.Cell.{Cell}
use Rattle.edge.specs.declared.Edge.{Edge}
use Rattle.edge.specs.Walk.{steps, x_axis, y_axis}
use Rattle.edge.specs.Integrals.{h_num, v_num, d_num}
use Rattle.edge.specs.Rounded.{details}
use Rattle.edge.specs.Octilinear.{Octilinear, unit_x, unit_y, unit_steps}
use Rattle.edge.specs.WalkOf.{Course, IsWalk, fine, unit, fine_walk, unit_walk}
use Rattle.edge.proofs.Lemmas.Ends.{x_steady, y_steady}
use Rattle.edge.proofs.Lemmas.Records.{details-eq}
use Rattle.edge.proofs.Laws.StepCount.{steps_pos, rounded_whole}
use Rattle.edge.proofs.Laws.OctilinearEdges.{h_octilinear, v_octilinear, d_octilinear}
use Rattle.edge.proofs.Laws.WalkInside.{unit_x_steady, unit_y_steady}
use Rattle.slanted.specs.Pieces.{Moving, onward, back, slope_of, piece_of, rounded_details}
use Rattle.slanted.proofs.Laws.SlantedSums.{h_under, v_under, d_under}

-- ---- a sign goes along when a number is rounded
pub rounded-neg : {n : ℤ} → pos 0 <ℤ n → (z : ℤ) → round_half_away (neg_ℤ z) (nat_abs n) ≡ neg_ℤ (round_half_away z (nat_abs n))
rounded-neg {n = negsuc n} h z = absurd h.lt
rounded-neg {n = pos n} h z = round_half_away-neg z (ltb→lt 0 n h.lt)

signed-rounded : {a : Axis} {n : ℤ} → Moving a → pos 0 <ℤ n → (z : ℤ) → a.sign *ℤ round_half_away z (nat_abs n) ≡ round_half_away (a.sign *ℤ z) (nat_abs n)
signed-rounded {a} {n} (onward e) h z =
    let r = round_half_away z (nat_abs n) in
    ap (λ s. s *ℤ r) e ∙ ring (r ∷ []) (search read depth 40) tt
    ∙ sym (ap (λ s. round_half_away (s *ℤ z) (nat_abs n)) e ∙ ap (λ y. round_half_away y (nat_abs n)) {y = z} (ring (z ∷ []) (search read depth 40) tt))
signed-rounded {a} {n} (back e) h z =
    let r = round_half_away z (nat_abs n) in
    ap (λ s. s *ℤ r) e ∙ ring (r ∷ []) (search read depth 40) tt ∙ sym (rounded-neg h z)
    ∙ sym (ap (λ s. round_half_away (s *ℤ z) (nat_abs n)) e ∙ ap (λ y. round_half_away y (nat_abs n)) {y = neg_ℤ z} (ring (z ∷ []) (search read depth 40) tt))

neg-rounded : {a : Axis} {n : ℤ} → Moving a → pos 0 <ℤ n → (z : ℤ) → neg_ℤ (a.sign *ℤ round_half_away z (nat_abs n)) ≡ round_half_away (neg_ℤ (a.sign *ℤ z)) (nat_abs n)
neg-rounded {a} m h z = ap neg_ℤ (signed-rounded m h z) ∙ sym (rounded-neg h (a.sign *ℤ z))

-- ---- a walk z of the edge e
abbrev Answers : Edge → Cell → ℤ → Course → Type 0
Answers e c half z = Moving z.x → Moving z.y → (piece_of z c half).first <ℤ (piece_of z c half).last → rounded_details (slope_of z) (piece_of z c half) ≡ details e c

module _ (e : Edge) (c : Cell) (half : ℤ) (even : c.width ≡ half +ℤ half) (hh : pos 0 ≤ℤ half) where
  fine_answers : Answers e c half (fine_walk e)
  unfolding details h_num v_num d_num rounded_details
  fine_answers ma mb inside =
      details-eq (signed-rounded mb some _ ∙ by (h_under (x_axis e) (y_axis e) (x_steady e) (y_steady e) c half even hh (steps e) inside ma mb))
      (neg-rounded ma some _ ∙ by (ap neg_ℤ (v_under (x_axis e) (y_axis e) (x_steady e) (y_steady e) c half even hh (steps e) inside ma mb)))
      (by (d_under (x_axis e) (y_axis e) (x_steady e) (y_steady e) c half even hh (steps e) inside ma mb))
    where
      some : pos 0 <ℤ pos (steps e)
      some = positive (steps_pos e)

      by : {x y : ℤ} → y ≡ x → round_half_away x (steps e) ≡ round_half_away y (steps e)
      by p = sym (ap (λ z. round_half_away z (steps e)) p)

  unit_answers : Octilinear e → Answers e c half (unit_walk e)
  unfolding details rounded_details
  unit_answers s ma mb inside =
      details-eq (signed-rounded mb some _ ∙ by (h_under (unit_x e) (unit_y e) (unit_x_steady e) (unit_y_steady e) c half even hh (unit_steps e) inside ma mb) (h_octilinear s c even hh))
      (neg-rounded ma some _ ∙ by (ap neg_ℤ (v_under (unit_x e) (unit_y e) (unit_x_steady e) (unit_y_steady e) c half even hh (unit_steps e) inside ma mb)) (v_octilinear s c even hh))
      (by (d_under (unit_x e) (unit_y e) (unit_x_steady e) (unit_y_steady e) c half even hh (unit_steps e) inside ma mb) (d_octilinear s c even hh))
    where
      some : pos 0 <ℤ pos 1
      some = positive {n = 1} (omega arith)

      by : {x q m : ℤ} → q ≡ x → m ≡ q *ℤ pos (steps e) → round_half_away x 1 ≡ round_half_away m (steps e)
      by {x} {q} p r = round_half_away_one x ∙ sym p ∙ sym (rounded_whole e q r)

pub piece-details : {w : Course} → IsWalk w → Moving w.x → Moving w.y → (c : Cell) (half : ℤ) → c.width ≡ half +ℤ half → pos 0 ≤ℤ half
    → (piece_of w c half).first <ℤ (piece_of w c half).last → rounded_details (slope_of w) (piece_of w c half) ≡ details w.edge c
piece-details {w} (fine o e) ma mb c half even hh = subst⁻¹ (Answers w.edge c half) e (fine_answers w.edge c half even hh) ma mb
piece-details {w} (unit s e) ma mb c half even hh = subst⁻¹ (Answers w.edge c half) e (unit_answers w.edge c half even hh s) ma mb
