-- Nothing where no step is in the rows; the cuts otherwise.
use Rattle.std.proofs.Common.{◌≤ℤ◌, sym, subst, rules, SFits, w64}
use Rattle.integers.proofs.Theorems.Machine.{tests}
use Rattle.edge.specs.declared.Span.{Span}
use Rattle.edge.proofs.Sizes.{width≥0}
use Rattle.edge.proofs.AreaForm.{no_area}
use Rattle.edge.proofs.Laws.WalkKnown.{is_walk}
use Rattle.edge.proofs.Walk.area_in.Goals as goal

pub returns-else-s : goal.returns-else-s
returns-else-s c =
    let t = c.rows_of-s.result in
    let i : SFits w64 t.first = search rules in
    let j : SFits w64 t.last = search rules in
    let l : t.last ≤ℤ t.first = search tests in
    sym (no_area c.args.c (width≥0 c.requires) (is_walk c.args.self) (subst (λ (z : Span). z.last ≤ℤ z.first) c.rows_of-s.ensures l))
