-- The walk: a slanted one by its piece, all of its steps lying inside, and another by itself.
use Rattle.std.proofs.Common.{◌≡◌, List, ℕ, ◌≤◌, ℤ}
use Rattle.std.proofs.Math.Path.{subst⁻¹}
use Rattle.edge.specs.declared.Edge.{Edge}
use Rattle.edge.specs.Nested.{OnCell}
use Rattle.edge.specs.Room.{Room}
use Rattle.rasterize.specs.declared.Node.{Node}
use Rattle.rasterize.specs.Ready.{Ready}
use Rattle.rasterize.proofs.Laws.OnSheet.{on_sheet_room}
use Rattle.rasterize.proofs.Laws.ReadyCells.{ready-suc}
use Rattle.rasterize.proofs.cells.add_on.Goals as goal

-- the walk's edge, w, is the edge
module _ {t : List ℤ} {w e : Edge} {left : ℕ} {c : Node} (same : w ≡ e) (h : 1 ≤ left) (r : Ready t e left c) where
  walk-ready : Ready t w left c
  walk-ready = subst⁻¹ (λ e. Ready t e left c) same r

  walk-room : Room w c.square
  walk-room = on_sheet_room (ready-suc h walk-ready).on_sheet

pub of-walk-requires : goal.of-walk-requires
of-walk-requires c = (on_sheet_room (ready-suc c.requires.0 c.requires.1).on_sheet).edge

pub span_on-span-requires : goal.span_on-span-requires
span_on-span-requires c =
    let r = c.requires in
    let w = c.of-walk.ensures in
    (walk-room w r.0 r.1, subst⁻¹ (OnCell c.args.c.square) w r.2)

pub add_piece-requires : goal.add_piece-requires
add_piece-requires c =
    let r = c.requires in
    let w = c.of-walk.ensures in
    let m = c.is_slanted.ensures.yes c.if-is_slanted.true in
    (r.0, walk-ready w r.0 r.1, c.span_on-span.ensures, m.0, m.1)

pub span_in-span-requires : goal.span_in-span-requires
span_in-span-requires c =
    let r = c.requires in
    let w = c.of-walk.ensures in
    walk-room w r.0 r.1

pub add_walk-requires : goal.add_walk-requires
add_walk-requires c =
    let r = c.requires in
    let w = c.of-walk.ensures in
    (r.0, walk-ready w r.0 r.1, c.span_in-span.ensures)
