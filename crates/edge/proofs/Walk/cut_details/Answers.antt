-- The details of a walk that comes strictly inside a cell, by its cuts.
use Rattle.std.proofs.Common.{◌≡◌, ℤ, pos, ◌*ℤ◌, ◌<ℤ◌, ◌∙◌, ap, ap₂, subst, to_z-of_z}
use Rattle.std.proofs.Math.Path.{subst⁻¹}
use Rattle.integers.proofs.Theorems.Bits.{back_is, result_is}
use Rattle.edge.specs.declared.Axis.{Axis}
use Rattle.edge.specs.declared.Samples.{Samples}
use Rattle.edge.specs.declared.Span.{Span}
use Rattle.edge.specs.Cuts.{span, cuts}
use Rattle.edge.specs.Room.{crossing_limit}
use Rattle.edge.specs.Code.{SamplesWithin, SamplesClosed, beyond_at, numerators_of, numerators_at, rounded_by}
use Rattle.edge.proofs.Lemmas.Records.{cuts_at_eq}
use Rattle.edge.proofs.Lemmas.CrossedCells.{lies_between, middle_across, reach_across, past_across, closed_across}
use Rattle.edge.proofs.WalkRoom.{steps_within, divisor_pos, divisor_within}
use Rattle.edge.proofs.CutForm.{InCell, ordered_within, cuts_in_cell, cut-details}
use Rattle.edge.proofs.Laws.WalkKnown.{is_walk}
use Rattle.edge.proofs.Walk.cut_details.Goals as goal
use Rattle.edge.proofs.Walk.cut_details.Goals.{After-cuts_of-k}

pub middle-requires : goal.middle-requires
middle-requires c = let p = c.requires in lies_between (to_z-of_z c.ranges.half) c.across-x.ensures.2 p.1 p.2

pub middle-requires-2 : goal.middle-requires-2
middle-requires-2 c = let p = c.requires in lies_between (to_z-of_z c.ranges.half) c.down-y.ensures.2 p.1 p.2

-- ---- the cuts
module _ (c : After-cuts_of-k) where
  inside : (span c.args.self.x c.args.self.y c.args.c c.args.self.steps).first <ℤ (span c.args.self.x c.args.self.y c.args.c c.args.self.steps).last
  inside = subst (λ (z : Span). z.first <ℤ z.last) c.requires.3 c.requires.4

  cuts_are : c.cuts_of-k.result ≡ cuts c.args.self.x c.args.self.y c.args.c c.args.half c.args.self.steps
  cuts_are =
      let p = c.requires in
      let half = to_z-of_z c.ranges.half in
      c.cuts_of-k.ensures
      ∙ cuts_at_eq p.3 (result_is c.middle.type_inv (c.middle.ensures ∙ middle_across c.across-x.ensures half))
      (result_is c.middle-2.type_inv (c.middle-2.ensures ∙ middle_across c.down-y.ensures half))

  in_cell : InCell c.args.self.x c.args.self.y c.args.c c.args.self.steps (cuts c.args.self.x c.args.self.y c.args.c c.args.half c.args.self.steps)
  in_cell = cuts_in_cell c.args.c c.args.half c.requires.1 c.requires.2 (is_walk c.args.self) inside

pub numerators-requires : goal.numerators-requires
numerators-requires c =
    let k = (goal.at.numerators-requires c).After-cuts_of-k in
    let p = c.requires in
    let a = c.args in (
      subst⁻¹ (SamplesWithin (pos crossing_limit)) (cuts_are k) (ordered_within (in_cell k).order (steps_within (is_walk c.args.self) p.0.edge)),
      closed_across c.across-x.ensures (subst⁻¹ (SamplesClosed a.self.x a.c.left a.c.width) (cuts_are k) (in_cell k).x),
      closed_across c.down-y.ensures (subst⁻¹ (SamplesClosed a.self.y a.c.top a.c.width) (cuts_are k) (in_cell k).y),
    )

pub round_all-requires : goal.round_all-requires
round_all-requires c =
    let p = c.requires in
    subst⁻¹ (λ z. pos 0 <ℤ z) (back_is tt (divisor_within (is_walk c.args.self) p.0.edge)) (divisor_pos (is_walk c.args.self))

-- the numerators, of the walk's own directions
numerators_across : {a a' b b' : Axis} {p p' q q' v v' w w' : ℤ} → (a ≡ a') × (p ≡ p') × (v ≡ v') → (b ≡ b') × (q ≡ q') × (w ≡ w') → (k : Samples)
    → numerators_of (a.scale *ℤ v) (b.scale *ℤ w) (beyond_at a p k) (beyond_at b q k) ≡ numerators_of (a'.scale *ℤ v') (b'.scale *ℤ w') (beyond_at a' p' k) (beyond_at b' q' k)
numerators_across {a} {a'} {b} {b'} {p} {p'} {q} {q'} {v} {v'} {w} {w'} i j k =
    ap₂ (λ m n. numerators_of m n (beyond_at a p k) (beyond_at b q k)) (reach_across i) (reach_across j)
    ∙ ap₂ (numerators_of (a'.scale *ℤ v') (b'.scale *ℤ w')) (past_across i k) (past_across j k)

pub returns : goal.returns
returns c =
    let k = (goal.at.returns c).After-cuts_of-k in
    let a = c.args in
    let p = c.requires in
    c.round_all.ensures
    ∙ ap₂ rounded_by (back_is tt (divisor_within (is_walk c.args.self) p.0.edge)) (c.numerators.ensures ∙ numerators_across c.across-x.ensures c.down-y.ensures c.cuts_of-k.result ∙ ap (numerators_at a.self.x a.self.y a.c) (cuts_are k))
    ∙ cut-details a.c a.half p.1 p.2 (is_walk c.args.self) (inside k)
