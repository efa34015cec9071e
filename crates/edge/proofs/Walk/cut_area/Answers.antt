-- The area of a walk with some step in a cell's rows, by its cuts.
use Rattle.std.proofs.Common.{◌≡◌, refl, ℤ, pos, nat_abs, ◌*ℤ◌, ◌≤ℤ◌, ◌<ℤ◌, sym, ◌∙◌, ap, ap₂, subst}
use Rattle.std.proofs.Math.Path.{subst⁻¹}
use Rattle.integers.specs.Rounding.{round_half_away}
use Rattle.integers.proofs.Theorems.Order.{nonneg, ≤ℤ_of_≡}
use Rattle.integers.proofs.Theorems.Bits.{back_is, result_is}
use Rattle.edge.specs.declared.Axis.{Axis}
use Rattle.edge.specs.declared.Samples.{Samples}
use Rattle.edge.specs.declared.Span.{Span}
use Rattle.edge.specs.Cuts.{rows, side_cuts}
use Rattle.edge.specs.Room.{crossing_limit}
use Rattle.edge.specs.Code.{SamplesWithin, SamplesClosed, beyond_at, held_at, piece_sum, area_at}
use Rattle.edge.proofs.Lemmas.Records.{cuts_at_eq}
use Rattle.edge.proofs.Lemmas.CrossedCells.{middle_across, reach_across, past_across, closed_across}
use Rattle.edge.proofs.Sizes.{width≥0, width_within}
use Rattle.edge.proofs.WalkRoom.{steps_within, divisor_pos, divisor_within}
use Rattle.edge.proofs.CutForm.{ordered_within}
use Rattle.edge.proofs.AreaForm.{InRows, cut_area, cuts_in_rows}
use Rattle.edge.proofs.Laws.WalkKnown.{is_walk}
use Rattle.edge.proofs.Walk.cut_area.Goals as goal
use Rattle.edge.proofs.Walk.cut_area.Goals.{After-cuts_of-k}

pub middle-requires : goal.middle-requires
middle-requires c = let p = c.requires.0 in (nonneg 0, subst⁻¹ (λ z. pos 0 ≤ℤ z) c.across-x.ensures.2 (width≥0 p))

pub middle-requires-2 : goal.middle-requires-2
middle-requires-2 c =
    let p = c.requires.0 in
    let w = back_is tt (width_within p) in
    (subst⁻¹ (λ z. pos 0 ≤ℤ z) w (width≥0 p), ≤ℤ_of_≡ (w ∙ sym c.across-x.ensures.2))

-- ---- the cuts
module _ (c : After-cuts_of-k) where
  some : (rows c.args.self.y c.args.c c.args.self.steps).first <ℤ (rows c.args.self.y c.args.c c.args.self.steps).last
  some = subst (λ (z : Span). z.first <ℤ z.last) c.requires.1 c.requires.2

  cuts_are : c.cuts_of-k.result ≡ side_cuts c.args.self.x c.args.self.y c.args.c c.args.self.steps
  cuts_are =
      let p = c.requires in
      c.cuts_of-k.ensures
      ∙ cuts_at_eq p.1 (result_is c.middle.type_inv (c.middle.ensures ∙ middle_across c.across-x.ensures refl))
      (result_is c.middle-2.type_inv (c.middle-2.ensures ∙ middle_across c.across-x.ensures (back_is tt (width_within p.0))))

  in_rows : InRows c.args.self.y c.args.c c.args.self.steps (side_cuts c.args.self.x c.args.self.y c.args.c c.args.self.steps)
  in_rows = cuts_in_rows c.args.c (width≥0 c.requires.0) (is_walk c.args.self) some

pub area_numerator-requires : goal.area_numerator-requires
area_numerator-requires c =
    let k = (goal.at.area_numerator-requires c).After-cuts_of-k in
    let p = c.requires in
    let a = c.args in (
      subst⁻¹ (SamplesWithin (pos crossing_limit)) (cuts_are k) (ordered_within (in_rows k).order (steps_within (is_walk c.args.self) p.0.edge)),
      closed_across c.down.ensures (subst⁻¹ (SamplesClosed a.self.y a.c.top a.c.width) (cuts_are k) (in_rows k).y),
    )

pub round_one-requires : goal.round_one-requires
round_one-requires c =
    let p = c.requires in
    subst⁻¹ (λ z. pos 0 <ℤ z) (back_is tt (divisor_within (is_walk c.args.self) p.0.edge)) (divisor_pos (is_walk c.args.self))

-- the area's numerator, of the walk's own directions
area_across : {a a' b b' : Axis} {p p' q q' v v' w w' : ℤ} → (a ≡ a') × (p ≡ p') × (v ≡ v') → (b ≡ b') × (q ≡ q') × (w ≡ w') → (k : Samples)
    → piece_sum (held_at (a.scale *ℤ v) (beyond_at a p k)) (beyond_at b q k) ≡ piece_sum (held_at (a'.scale *ℤ v') (beyond_at a' p' k)) (beyond_at b' q' k)
area_across i j k = ap₂ piece_sum (ap₂ held_at (reach_across i) (past_across i k)) (past_across j k)

pub returns : goal.returns
returns c =
    let k = (goal.at.returns c).After-cuts_of-k in
    let a = c.args in
    let p = c.requires in
    result_is c.round_one.type_inv (c.round_one.ensures
    ∙ ap₂ (λ z n. round_half_away z (nat_abs n)) (result_is c.area_numerator.type_inv (c.area_numerator.ensures ∙ area_across c.across-x.ensures c.down.ensures c.cuts_of-k.result ∙ ap (area_at a.self.x a.self.y a.c) (cuts_are k)))
    (back_is tt (divisor_within (is_walk c.args.self) p.0.edge))
    ∙ cut_area a.c (width≥0 p.0) (is_walk c.args.self) (some k))
