-- What is not refused can be drawn, and the side is 2^depth.
use Rattle.std.proofs.Common.{suc, ◌^◌, length, sym, ◌∙◌, ap, ap₂}
use mathlib.Core.Path.{subst⁻¹}
use Rattle.haar.specs.Greys.{grey_of}
use Rattle.haar.specs.Pyramid.{pyramid_in, DrawablePyramid}
use Rattle.tile.proofs.Theorems.Refusals.{pyramid_refusals}
use Rattle.tile.proofs.Theorems.AllLevels.{level_by_level}
use Rattle.tile.proofs.Laws.Sides.{side_power}
use Rattle.tile.proofs.Laws.IfDone.{if_done_lem}
use Rattle.tile.proofs.Laws.Answers.{drawable-pyramid}
use Rattle.tile.proofs.pyramid.Goals as goal

pub pyramid-requires : goal.pyramid-requires
pyramid-requires c =
    let a = c.args in
    subst⁻¹ (λ depth. DrawablePyramid a.table.now depth (length a.pictures.now)) c.depth_of.ensures
    (drawable-pyramid a.side a.table.now (length a.pictures.now) (sym c.in_ok-pyramid_refusal.ensures))

pub returns-clause-pictures_after : goal.returns-clause-pictures_after
returns-clause-pictures_after c =
    let a = c.args in
    let done = sym c.in_ok-pyramid_refusal.ensures in
    let yes = (pyramid_refusals a.side a.table.now (length a.pictures.now)).accepted.0 done in
    let side_is = ap (λ depth. 2 ^ depth) c.depth_of.ensures ∙ sym (side_power a.side yes.0) in
    c.pyramid.ensures ∙ ap₂ (λ side depth. pyramid_in (grey_of side) a.table.now (suc depth)) side_is c.depth_of.ensures ∙ sym (if_done_lem _ _ done)

pub returns-clause-level_by_level : goal.returns-clause-level_by_level
returns-clause-level_by_level c =
    let a = c.args in
    level_by_level a.side a.table.now a.pictures.now _ (returns-clause-pictures_after c)
