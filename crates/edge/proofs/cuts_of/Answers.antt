-- The cuts, held between the first step and the last.
use Rattle.std.proofs.Common.{rules, to_z-of_z, SFits, w64}
use Rattle.edge.proofs.Lemmas.Records.{samples_eq}
use Rattle.edge.proofs.Laws.Methods.{min-answer, max-answer, clamp-answer}
use Rattle.edge.proofs.cuts_of.Goals as goal

pub returns : goal.returns
returns c =
    let s = c.args.s in
    let f : SFits w64 s.first = search rules in
    let l : SFits w64 s.last = search rules in
    let a = clamp-answer c.clamp-a.type_inv c.clamp-a.ensures.value (to_z-of_z c.ranges.x) (to_z-of_z f) (to_z-of_z l) in
    let b = clamp-answer c.clamp-b.type_inv c.clamp-b.ensures.value (to_z-of_z c.ranges.y) (to_z-of_z f) (to_z-of_z l) in
    samples_eq (to_z-of_z f) (min-answer c.min.type_inv c.min.ensures.value a b) (max-answer c.max.type_inv c.max.ensures.value a b) (to_z-of_z l)
