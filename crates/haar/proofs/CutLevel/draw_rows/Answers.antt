-- Each cell's children ask for its figure, which is still where it was.
use Rattle.std.proofs.Common.{◌≡◌, ℕ, ◌+◌, ◌*◌, ◌-◌, ◌/◌, length, arith}
use Rattle.integers.specs.Bits.{back}
use Rattle.integers.proofs.Theorems.Bits.{result_is}
use Rattle.haar.specs.Pairs.{Refinable}
use Rattle.haar.proofs.TwoRows.{NextCell, next_cell, parent_inside, parent_is, parent_refinable, rows_step}
use Rattle.haar.proofs.CutLevel.draw_rows.Goals.{In-loop-x, After-parent-f}
use Rattle.haar.proofs.CutLevel.draw_rows.Goals as goal

next : (g : _) (c : In-loop-x g) → NextCell c.cells_across-n.result c.args.y c.loop-x.x (length c.loop-x.picture)
next g c =
    let r = c.requires in
    next_cell c.args.self.now.drawable.shallow r.room c.cells_across-n.ensures r.parents.y_below c.loop-x.invariant c.loop-x-test.true c.loop-x.auto.x

pub parent-f-requires : goal.parent-f-requires
parent-f-requires g c =
    parent_inside g.met.D.Drawing.keeps c.args.drawing.now c.requires.parents c.loop-x.invariant c.cells_across-n.ensures (next g (goal.at.parent-f-requires g c).In-loop-x)

refinable : (g : _) (c : After-parent-f g) → NextCell c.cells_across-n.result c.args.y c.loop-x.x (length c.loop-x.picture) → (cy : ℕ) → cy / 2 ≡ c.args.y
    → Refinable c.args.self.now.table.now c.args.self.now.level (c.loop-x.x - 1) cy (back c.parent-f.result)
refinable g c k cy e =
    let r = c.requires.parents in
    let v = c.loop-x.invariant in
    let n = c.cells_across-n.ensures in
    let keeps = g.met.D.Drawing.keeps in
    parent_refinable keeps c.args.drawing.now r v n k cy e (result_is c.parent-f.type_inv (parent_is keeps c.args.drawing.now r v n k c.parent-f.ensures))

pub children_in_row-upper-requires : goal.children_in_row-upper-requires
children_in_row-upper-requires g c = refinable g c (next g (goal.at.children_in_row-upper-requires g c).In-loop-x) (2 * c.args.y) (omega arith)

pub children_in_row-lower-requires : goal.children_in_row-lower-requires
children_in_row-lower-requires g c =
    let at = goal.at.children_in_row-lower-requires g c in
    refinable g at.After-parent-f (next g at.In-loop-x) (2 * c.args.y + 1) (omega arith)

pub put_pair-requires : goal.put_pair-requires
put_pair-requires g c = let k = next g (goal.at.put_pair-requires g c).In-loop-x in (omega arith, omega arith)

pub put_pair-requires-in-loop-x : goal.put_pair-requires-in-loop-x
put_pair-requires-in-loop-x g c = let k = next g (goal.at.put_pair-requires-in-loop-x g c).In-loop-x in (omega arith, omega arith)

pub loop-x-preserved : goal.loop-x-preserved
loop-x-preserved g c =
    rows_step c.cells_across-n.ensures (next g (goal.at.loop-x-preserved g c).In-loop-x) c.loop-x.invariant (omega arith) (omega arith)
    c.children_in_row-upper.ensures c.children_in_row-lower.ensures c.put_pair.ensures c.put_pair-in-loop-x.ensures
