-- Each number, held between 0 and m.
use Rattle.std.specs.Int.{int_min, int_max}
use Rattle.std.proofs.Common.{◌≡◌, pos, ◌∙◌, rules}
use Rattle.edge.proofs.Lemmas.Records.{samples_eq}
use Rattle.edge.proofs.Laws.Methods.{clamp_is}
use Rattle.edge.proofs.hold_at.Goals as goal

pub returns : goal.returns
returns c =
    let u = c.args.u in
    let m = c.args.m in
    let a : c.map.result.first ≡ int_max (pos 0) (int_min u.first m) = search rules in
    let b : c.map.result.second ≡ int_max (pos 0) (int_min u.second m) = search rules in
    let d : c.map.result.third ≡ int_max (pos 0) (int_min u.third m) = search rules in
    let e : c.map.result.fourth ≡ int_max (pos 0) (int_min u.fourth m) = search rules in
    samples_eq (a ∙ clamp_is u.first (pos 0) m) (b ∙ clamp_is u.second (pos 0) m) (d ∙ clamp_is u.third (pos 0) m) (e ∙ clamp_is u.fourth (pos 0) m)
