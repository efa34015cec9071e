-- Some step is strictly inside just where the first is before the last.
use Rattle.std.proofs.Common.{◌∙◌, ap, ap₂, rules, to_z-of_z, SFits, w64}
use Rattle.std.proofs.Math.Path.{subst⁻¹}
use Rattle.std.specs.Int.Signed.{lt_z}
use Rattle.edge.specs.declared.Span.{Span}
use Rattle.edge.specs.Inside.{Inside}
use Rattle.edge.specs.WalkOf.{Decides}
use Rattle.edge.proofs.Laws.WalkInside.{span_decides}
use Rattle.edge.proofs.Laws.WalkKnown.{is_walk}
use Rattle.edge.proofs.Walk.comes_inside.Goals as goal

pub returns : goal.returns
returns c =
    let t = c.span_in-s.result in
    let e = c.span_in-s.ensures in
    let i : SFits w64 t.first = search rules in
    let j : SFits w64 t.last = search rules in
    subst⁻¹ (λ b. Decides b (Inside c.args.self.edge c.args.c))
    (ap₂ lt_z (to_z-of_z i ∙ ap (λ (z : Span). z.first) e) (to_z-of_z j ∙ ap (λ (z : Span). z.last) e))
    (span_decides (is_walk c.args.self) c.args.c)
