-- What the questions before say of the points, the counts and the marks, where each is answered yes.
use Rattle.std.proofs.Common.{◌≡◌, List, ℕ, ◌*◌, ◌≤◌, eqb, length, ℤ, pos, ◌*ℤ◌, sym, ◌∙◌, ap, arith, w64, to_z, FitsSigned}
use mathlib.Core.Path.{subst⁻¹}
use mir.Facts.{to_z_pos}
use Rattle.integers.specs.Units.{steps_per_pixel, greatest_sheet_side, greatest_sheet_coordinate}
use Rattle.integers.proofs.Theorems.Order.{≤ℤ_trans, pos-≤ℤ}
use Rattle.integers.proofs.Theorems.Machine.{known}
use Rattle.integers.specs.ListSum.{All}
use Rattle.integers.proofs.Theorems.ListSum.{all_map}
use Rattle.integers.specs.Tests.{every, between}
use Rattle.integers.proofs.Theorems.Below.{both}
use Rattle.integers.proofs.Theorems.Tests.{eqb_means}
use Rattle.curve.specs.Curve.{OnSheet}
use Rattle.accuracy.specs.Outline.{edge_count}
use Rattle.placement.specs.Placed.{placed}
use Rattle.placement.proofs.Laws.PlacedPoints.{placed-length}
use Rattle.chords.specs.Sides.{numbers}
use Rattle.chords.proofs.Laws.SidesWithin.{numbers_even}
use Rattle.tile.specs.Questions.{Yes, question6}
use Rattle.tile.proofs.Theorems.Refusals.{question4_means, question6_means}
use Rattle.curves.specs.MarkedQuestions.{is_mark, question16}
use Rattle.curves.proofs.marked_refusal.Goals as goal

pub all_within-requires : goal.all_within-requires
all_within-requires c =
    let enough : length c.args.points.now ≡ numbers c.args.marks.now = (eqb_means _ _).0 (sym c.is_size.ensures ∙ c.if-not-is_size.false) in
    omega (arith, enough, numbers_even c.args.marks.now)

pub invariant_of-outline : goal.invariant_of-outline
invariant_of-outline c =
    let a = c.args in
    record { as_many = placed-length a.placement a.points.now ∙ (eqb_means _ _).0 (sym c.is_size.ensures ∙ c.if-not-is_size.false) }

marked : (counts marks : List ℕ) → Yes (question16 counts marks) → length marks ≡ edge_count counts
marked counts marks y = (eqb_means _ _).0 (both (every is_mark marks) (eqb (length marks) (edge_count counts)) y).1

-- question 6's limit, as the code has it
module _ (reach : ℕ) (h : reach ≤ greatest_sheet_side) where
  limit_is : pos steps_per_pixel *ℤ to_z w64 reach ≡ pos (steps_per_pixel * reach)
  limit_is = ap (λ z. pos steps_per_pixel *ℤ z) (to_z_pos w64 (omega (arith, h)))

  limit-fits : FitsSigned w64 (pos steps_per_pixel *ℤ to_z w64 reach)
  limit-fits = subst⁻¹ (FitsSigned w64) limit_is (record { sfits = omega (arith, h) })

  on_sheet : (drawn : List ℤ) → Yes (question6 reach drawn) → All OnSheet drawn
  on_sheet drawn y =
      let wide : steps_per_pixel * reach ≤ greatest_sheet_coordinate = omega (arith, h) in
      all_map (λ z k. (k.0, ≤ℤ_trans k.1 (pos-≤ℤ wide))) drawn ((question6_means reach drawn).0 y)

pub outline_chords-edges-requires : goal.outline_chords-edges-requires
outline_chords-edges-requires c =
    let a = c.args in
    let drawn = placed a.placement a.points.now in (
      marked a.counts.now a.marks.now (sym c.is_marked.ensures ∙ c.if-not-is_marked.false),
      all_map (λ n h. h.1) a.counts.now ((question4_means a.counts.now).0 (sym c.are_counts.ensures ∙ c.if-not-are_counts.false)),
      on_sheet a.reach c.requires drawn
          (ap (λ high. every (between (pos 0) high) drawn) (sym (known (limit-fits a.reach c.requires) (limit_is a.reach c.requires))) ∙ sym c.all_within.ensures
          ∙ c.if-not-all_within.false),
    )
