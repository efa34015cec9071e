-- From cell to cell, as long as the edge lies in one quarter.
use Rattle.std.proofs.Common.{◌≡◌, ◌∙◌, ap, ap₂, List, ℕ, ◌+◌, ◌-◌, ◌<◌, ◌≤◌, ℤ, pos, ◌-ℤ◌, ◌≤ℤ◌, w64, to_z, arith}
use Rattle.std.proofs.Math.Path.{subst⁻¹}
use Rattle.std.proofs.lemmas.Int.{to_z_pos}
use Rattle.integers.proofs.Theorems.Order.{nonneg, pos-≤ℤ}
use Rattle.integers.specs.Magnitude.{abs}
use Rattle.integers.specs.Within.{Within}
use Rattle.integers.proofs.Theorems.Within.{within_le, within_self}
use Rattle.integers.specs.Bits.{back}
use Rattle.integers.proofs.Theorems.Bits.{back_is, within_back, fits_within}
use Rattle.integers.specs.Held.{Held}
use Rattle.integers.proofs.Theorems.Held.{held_number, held_sub, held_back, held_within}
use Rattle.edge.specs.declared.Details.{Details}
use Rattle.edge.specs.declared.Edge.{Edge}
use Rattle.edge.specs.Walk.{dx, dy}
use Rattle.edge.specs.Room.{coordinate_limit, extent_limit, Measured}
use Rattle.edge.proofs.Laws.Cells.{sheet_measured}
use Rattle.edge.specs.Code.{quarter_details}
use Rattle.edge.specs.Rounded.{details}
use Rattle.rasterize.specs.declared.Node.{Node}
use Rattle.rasterize.specs.declared.stages.Stage.{Stage}
use Rattle.rasterize.specs.Ready.{SmallDetails, Ready}
use Rattle.rasterize.specs.Stages.{StageRoom}
use Rattle.rasterize.proofs.Laws.OnSheet.{on_sheet_details}
use Rattle.rasterize.proofs.Laws.ReadyCells.{ready_own, ready_first}
use Rattle.rasterize.proofs.Descending.{OnWay, way_room, way_ready, way_details, way_first, way_step}
use Rattle.rasterize.proofs.stages.descend.Goals as goal

measured : {t : List ℤ} {e : Edge} {left : ℕ} {c : Node} → Ready t e left c → Measured e
measured r = sheet_measured r.on_sheet.is_sheet r.on_sheet.edge_on

-- one direction of the edge
run : {p q : ℤ} → Within (pos coordinate_limit) p → Within (pos coordinate_limit) q → Held extent_limit (back q -ℤ back p) (q -ℤ p)
run i j = held_sub (held_number tt j) (held_number tt i)

width : {p : Stage} → StageRoom p → Held coordinate_limit (to_z w64 p.width) (pos p.width)
width {p} r = record { is = to_z_pos w64 p.width (omega (arith, r.wide)); within = within_le (pos-≤ℤ r.wide) (within_self (nonneg p.width)) }

details-same : {w w' u u' v v' x x' y y' : ℤ} → w ≡ w' → u ≡ u' → v ≡ v' → x ≡ x' → y ≡ y' → quarter_details w u v x y ≡ quarter_details w' u' v' x' y'
details-same {w} {w'} {u} {u'} {v} {v'} {x} {x'} {y} {y'} i j k l m =
    ap₂ (λ w u. quarter_details w u v x y) i j ∙ ap₂ (λ v x. quarter_details w' u' v x y) k l ∙ ap (λ y. quarter_details w' u' v' x' y) m

-- the details, without bits
details-are : {e : Edge} {start : Node} {all : ℕ} {before table : List ℤ} {p : Stage} (o : OnWay e start all before p table) → Measured e
    → p.level < start.level + all → (abs (dx e) ≤ℤ abs p.left) × (abs (dy e) ≤ℤ abs p.above) → {w : Details}
    → w ≡ quarter_details (to_z w64 p.width) (back p.left) (back p.above) (back (back e.x1 -ℤ back e.x0)) (back (back e.y1 -ℤ back e.y0))
    → w ≡ details e o.cell.square
details-are o m h l k =
    let r = way_room o in
    way_details o h l
    (k ∙ details-same (width r).is (back_is tt r.left) (back_is tt r.above) (held_back tt (run m.x0 m.x1)).is (held_back tt (run m.y0 m.y1)).is)

-- the level below the last, counted from the first cell
above : {level first depth : ℕ} → level < depth → first ≤ depth → level < first + (depth - first)
above h k = omega arith

pub holds_in_quarter-requires : goal.holds_in_quarter-requires
holds_in_quarter-requires c = (way_room c.loop-p.invariant, measured c.requires.1)

pub node-requires : goal.node-requires
node-requires c = way_room c.loop-p.invariant

pub quarter_details-w-requires : goal.quarter_details-w-requires
quarter_details-w-requires c =
    let r = way_room c.loop-p.invariant in
    let m = measured c.requires.1 in (
      within_le (pos-≤ℤ (omega arith)) (held_within (width r)),
      within_back (fits_within tt r.left) r.left,
      within_back (fits_within tt r.above) r.above,
      held_within (held_back tt (run m.x0 m.x1)),
      held_within (held_back tt (run m.y0 m.y1)),
    )

pub add_details-requires : goal.add_details-requires
add_details-requires c =
    let o = c.loop-p.invariant in
    let h = above c.loop-p-test.true c.requires.0 in
    let l = c.holds_in_quarter.ensures.yes c.if-not-holds_in_quarter.false in
    let r = way_ready o h l in (
      ready_first r (way_first o h l c.first_detail_across.ensures),
      ready_own r,
      subst⁻¹ SmallDetails (details-are o (measured c.requires.1) h l c.quarter_details-w.ensures) (on_sheet_details r.on_sheet),
    )

pub quarter-p-requires : goal.quarter-p-requires
quarter-p-requires c = way_room c.loop-p.invariant

pub loop-p-preserved : goal.loop-p-preserved
loop-p-preserved c =
    let o = c.loop-p.invariant in
    let h = above c.loop-p-test.true c.requires.0 in
    let l = c.holds_in_quarter.ensures.yes c.if-not-holds_in_quarter.false in
    way_step o h l (details-are o (measured c.requires.1) h l c.quarter_details-w.ensures) (way_first o h l c.first_detail_across.ensures)
    c.add_details.ensures c.quarter-p.ensures

pub node-requires-2 : goal.node-requires-2
node-requires-2 c = way_room c.loop-p.invariant
