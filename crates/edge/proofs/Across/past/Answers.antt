-- How far past a side a direction is, at the four cuts.
use Rattle.std.proofs.Common.{◌≡◌, rules}
use Rattle.edge.specs.Walk.{beyond}
use Rattle.edge.proofs.Lemmas.Records.{samples_eq}
use Rattle.edge.proofs.Across.past.Goals as goal

pub returns : goal.returns
returns c =
    let k = c.args.k in
    let x = c.args.self in
    let a : c.map.result.first ≡ beyond x.axis x.side k.first = search rules in
    let b : c.map.result.second ≡ beyond x.axis x.side k.second = search rules in
    let d : c.map.result.third ≡ beyond x.axis x.side k.third = search rules in
    let e : c.map.result.fourth ≡ beyond x.axis x.side k.fourth = search rules in
    samples_eq a b d e
