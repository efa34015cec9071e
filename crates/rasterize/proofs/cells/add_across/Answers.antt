-- The walk and its steps inside: a slanted one by its piece, and another by itself.
use Rattle.std.proofs.Common.{◌≡◌, List, ℕ, ℤ}
use Rattle.std.proofs.Math.Path.{subst⁻¹}
use Rattle.edge.specs.declared.Edge.{Edge}
use Rattle.rasterize.specs.declared.Node.{Node}
use Rattle.rasterize.specs.Ready.{Ready}
use Rattle.rasterize.proofs.Laws.OnSheet.{on_sheet_room}
use Rattle.rasterize.proofs.Laws.ReadyCells.{ready-suc}
use Rattle.rasterize.proofs.cells.add_across.Goals as goal

-- the walk's edge, w, is the edge
walk-ready : {t : List ℤ} {w e : Edge} {left : ℕ} {c : Node} → w ≡ e → Ready t e left c → Ready t w left c
walk-ready {t} {left = left} {c = c} same r = subst⁻¹ (λ e. Ready t e left c) same r

pub of-walk-requires : goal.of-walk-requires
of-walk-requires c = (on_sheet_room (ready-suc c.requires.0 c.requires.1).on_sheet).edge

pub span_in-span-requires : goal.span_in-span-requires
span_in-span-requires c =
    let w = c.of-walk.ensures in
    on_sheet_room (ready-suc c.requires.0 (walk-ready w c.requires.1)).on_sheet

pub add_piece-requires : goal.add_piece-requires
add_piece-requires c =
    let w = c.of-walk.ensures in
    let m = c.is_slanted.ensures.yes c.if-is_slanted.true in
    (c.requires.0, walk-ready w c.requires.1, c.span_in-span.ensures, m.0, m.1)

pub add_walk-requires : goal.add_walk-requires
add_walk-requires c =
    let w = c.of-walk.ensures in
    (c.requires.0, walk-ready w c.requires.1, c.span_in-span.ensures)
