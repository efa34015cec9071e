-- The cuts where some step is inside, and else nothing.
use Rattle.std.proofs.Common.{[], ◌∷◌, ◌≤ℤ◌, ◌<ℤ◌, sym, rules, SFits, w64}
use Rattle.std.proofs.Math.Path.{subst⁻¹}
use Rattle.integers.proofs.Theorems.Linear.{le, lt, ◌&◌, linear, lin⊥}
use Rattle.integers.proofs.Theorems.Machine.{tests}
use Rattle.edge.specs.declared.Span.{Span}
use Rattle.edge.proofs.Laws.Zero.{details-zero}
use Rattle.edge.proofs.Laws.WalkInside.{span_of_inside}
use Rattle.edge.proofs.Sizes.{width≥0}
use Rattle.edge.proofs.Laws.WalkKnown.{is_walk}
use Rattle.edge.proofs.Walk.details_over.Goals as goal

pub returns-else-s : goal.returns-else-s
returns-else-s c =
    let t = c.args.s in
    let p = c.requires in
    let i : SFits w64 t.first = search rules in
    let j : SFits w64 t.last = search rules in
    let l : t.last ≤ℤ t.first = search tests in
    sym (details-zero c.args.self.edge c.args.c (width≥0 p.0)
    (λ k. lin⊥ (t.first ∷ t.last ∷ []) (le l & lt (subst⁻¹ (λ (z : Span). z.first <ℤ z.last) p.1 (span_of_inside (is_walk c.args.self) c.args.c k))) (search linear depth 40) tt))
