-- A cell's own details, and then its quarters, in a loop: one level less at each call.
use Rattle.std.proofs.Common.{◌≡◌, ◌∙◌, ap, List, ℕ, suc, ◌-◌, ◌≤◌, ℤ, ◌≤ℤ◌, SFits, w64, arith, rules}
use Rattle.std.proofs.Math.Path.{subst⁻¹}
use Rattle.integers.proofs.Theorems.Machine.{tests}
use Rattle.edge.specs.declared.Edge.{Edge}
use Rattle.edge.proofs.Laws.WalkKnown.{is_walk}
use Rattle.rasterize.specs.declared.Node.{Node}
use Rattle.rasterize.specs.Added.{added}
use Rattle.rasterize.specs.Contribution.{contribution}
use Rattle.rasterize.specs.Ready.{SmallDetails}
use Rattle.rasterize.proofs.Laws.OnSheet.{on_sheet_room, on_sheet_details}
use Rattle.rasterize.proofs.Laws.ReadyCells.{ready-suc, ready-splits, ready_own, ready_first, ready-room}
use Rattle.rasterize.proofs.QuarterLoop.{as_numbered_lem, own_added, own_end, not-inside_of_span, quarters_start, quarters_asks, quarters-step, quarters-skip, quarters_end}
use Rattle.rasterize.proofs.cells.+add_node.Goals as goal
use Rattle.rasterize.proofs.cells.+add_node.Goals.{then-inside, else-inside}

-- the whole of what is added, with the number of levels as it was given
as-given : (before : List ℤ) {after : List ℤ} (e : Edge) (c : Node) {left : ℕ} → 1 ≤ left → after ≡ added before (contribution e (suc (left - 1)) c)
    → after ≡ added before (contribution e left c)
as-given before e c {left} h k =
    let all : suc (left - 1) ≡ left = omega arith in
    k ∙ ap (λ n. added before (contribution e n c)) all

pub details_over-w-requires : goal.details_over-w-requires
details_over-w-requires t c =
    let r = c.requires in
    (on_sheet_room (ready-suc r.0 r.1).on_sheet, r.2)

pub add_details-requires : goal.add_details-requires
add_details-requires t c =
    let r = ready-suc c.requires.0 c.requires.1 in
    (ready_first r c.first_detail.ensures, ready_own r, subst⁻¹ SmallDetails c.details_over-w.ensures (on_sheet_details r.on_sheet))

pub loop-q-init : goal.loop-q-init
loop-q-init t c = quarters_start _ _ _

pub quarter_of-quarter-requires : goal.quarter_of-quarter-requires
quarter_of-quarter-requires t c = (ready-splits (ready-suc c.requires.0 c.requires.1), c.loop-q-test.true)

pub span_in-inside-requires : goal.span_in-inside-requires
span_in-inside-requires t c =
    let r = c.requires in
    ready-room (ready-suc r.0 r.1) (omega (arith, c.if-left-gt1.true)) c.loop-q-test.true c.quarter_of-quarter.ensures

pub add_node-requires : goal.add_node-requires
add_node-requires t c =
    let r = c.requires in
    let own = own_added c.details_over-w.ensures c.first_detail.ensures c.add_details.ensures in (
      omega (arith, c.decreases, r.0),
      (
        omega (arith, c.if-left-gt1.true),
        quarters_asks (ready-suc r.0 r.1) own as_numbered_lem c.loop-q.invariant c.loop-q-test.true c.quarter_of-quarter.ensures,
        c.span_in-inside.ensures,
      ),
    )

pub loop-q-preserved : goal.loop-q-preserved
loop-q-preserved t c =
    let r = c.requires in
    let k = c.quarter_of-quarter.ensures in
    elim c.if-inside.branch [
      | then-inside w ↦ quarters-step c.loop-q.invariant c.loop-q-test.true k (w.table-is ∙ w.add_node.ensures)
      | else-inside w ↦ (let s = c.span_in-inside.result in
          let f : SFits w64 s.first = search rules in
          let h : SFits w64 s.last = search rules in
          let l : s.last ≤ℤ s.first = search tests in
          quarters-skip (ready-suc r.0 r.1).on_sheet as_numbered_lem c.loop-q.invariant c.loop-q-test.true k (not-inside_of_span _ (is_walk c.args.walk) c.span_in-inside.ensures l) w.table-is)
    ]

pub returns-after-loop-q : goal.returns-after-loop-q
returns-after-loop-q t c =
    let own = own_added c.details_over-w.ensures c.first_detail.ensures c.add_details.ensures in
    as-given _ _ _ c.requires.0 (quarters_end own as_numbered_lem c.loop-q-test.false c.loop-q.invariant)

pub returns-else-left-gt1 : goal.returns-else-left-gt1
returns-else-left-gt1 t c =
    let own = own_added c.details_over-w.ensures c.first_detail.ensures c.add_details.ensures in
    let last : c.args.left - 1 ≡ 0 = omega (arith, c.if-left-gt1.false) in
    as-given _ _ _ c.requires.0 (own_end own last)
