-- The steps from 0 to n that are in both.
use Rattle.std.proofs.Common.{refl, ◌∙◌, rules, to_z-of_z, SFits, w64}
use Rattle.edge.proofs.Lemmas.Records.{span-eq}
use Rattle.edge.proofs.Laws.Methods.{min-answer, max-answer, min_exchange, max_exchange}
use Rattle.edge.proofs.meet.Goals as goal

pub returns : goal.returns
returns c =
    let r = c.args.r in
    let s = c.args.s in
    let rf : SFits w64 r.first = search rules in
    let sf : SFits w64 s.first = search rules in
    let rl : SFits w64 r.last = search rules in
    let sl : SFits w64 s.last = search rules in
    span-eq (max-answer c.max-2.type_inv c.max-2.ensures.value (max-answer c.max.type_inv c.max.ensures.value (to_z-of_z rf) (to_z-of_z sf)) refl ∙ max_exchange _ _)
    (min-answer c.min-2.type_inv c.min-2.ensures.value (min-answer c.min.type_inv c.min.ensures.value (to_z-of_z rl) (to_z-of_z sl)) (to_z-of_z c.ranges.n) ∙ min_exchange _ _)
