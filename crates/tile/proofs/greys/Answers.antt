-- What is not refused can be drawn, and the side is 2^depth.
use Rattle.std.proofs.Common.{◌^◌, ◌≤◌, length, sym, ◌∙◌, ap}
use mathlib.Core.Path.{subst⁻¹}
use Rattle.integers.specs.Units.{greatest_depth}
use Rattle.haar.specs.Greys.{grey_of}
use Rattle.haar.specs.Plane.{picture_in}
use Rattle.tile.proofs.Theorems.Refusals.{drawing_refusals}
use Rattle.tile.proofs.Laws.Sides.{side_depth, side_power}
use Rattle.tile.proofs.Laws.IfDone.{if_done_lem}
use Rattle.tile.proofs.Laws.Answers.{drawable-picture}
use Rattle.tile.proofs.greys.Goals as goal

pub greys-requires : goal.greys-requires
greys-requires c =
    let a = c.args in
    let done = sym c.in_ok-draw_refusal.ensures in
    let yes = (drawing_refusals a.side a.level a.table.now (length a.picture.now)).accepted.0 done in (
      drawable-picture a.side a.level a.table.now (length a.picture.now) done,
      subst⁻¹ (λ depth. depth ≤ greatest_depth) c.depth_of.ensures (side_depth a.side yes.0),
    )

pub returns-clause-picture_after : goal.returns-clause-picture_after
returns-clause-picture_after c =
    let a = c.args in
    let done = sym c.in_ok-draw_refusal.ensures in
    let yes = (drawing_refusals a.side a.level a.table.now (length a.picture.now)).accepted.0 done in
    let side_is = ap (λ depth. 2 ^ depth) c.depth_of.ensures ∙ sym (side_power a.side yes.0) in
    c.greys.ensures ∙ ap (λ side. picture_in (grey_of side) a.table.now a.level) side_is ∙ sym (if_done_lem _ _ done)
