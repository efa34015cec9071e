-- Both ends.
use Rattle.contours.specs.Runs.{run_square}
use Rattle.contours.proofs.CellTests.{on_back}
use Rattle.contours.proofs.lies_on_cell.Goals as goal

pub returns-then-is_on_cell : goal.returns-then-is_on_cell
returns-then-is_on_cell c =
    let m = c.requires.2 in
    let from = on_back (run_square c.args.c) m.x0 m.y0 c.is_on_cell.ensures in
    let to = on_back (run_square c.args.c) m.x1 m.y1 c.is_on_cell-then-is_on_cell.ensures in
    record {
      yes = λ h. let a = from.yes c.if-is_on_cell.true in
          let b = to.yes h in
          record { x0 = a.0; y0 = a.1; x1 = b.0; y1 = b.1 };
      no = λ h o. to.no h (o.x1, o.y1);
    }
