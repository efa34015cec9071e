-- Each number's distance to the nearer of 0 and m.
use Rattle.std.proofs.Common.{◌≡◌, ◌-ℤ◌, rules}
use Rattle.integers.specs.MinMax.{min}
use Rattle.edge.proofs.Lemmas.Records.{samples_eq}
use Rattle.edge.proofs.near_at.Goals as goal

pub returns : goal.returns
returns c =
    let u = c.args.u in
    let m = c.args.m in
    let a : c.map.result.first ≡ min u.first (m -ℤ u.first) = search rules in
    let b : c.map.result.second ≡ min u.second (m -ℤ u.second) = search rules in
    let d : c.map.result.third ≡ min u.third (m -ℤ u.third) = search rules in
    let e : c.map.result.fourth ≡ min u.fourth (m -ℤ u.fourth) = search rules in
    samples_eq a b d e
