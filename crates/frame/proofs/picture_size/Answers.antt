-- The cells across, squared.
use Rattle.std.proofs.Common.{◌*◌, ◌^◌, cond, sym, ◌∙◌, ap, ap₂}
use borrow.Author.Tests.{le-leb}
use Rattle.integers.specs.Units.{greatest_depth}
use Rattle.haar.proofs.Laws.Cells.{level_square}
use Rattle.frame.proofs.picture_size.Goals as goal

pub returns : goal.returns
returns c =
    let level = c.args.level in
    let e = c.cells_across-n.ensures in
    ap₂ ◌*◌ e e ∙ level_square level ∙ sym (ap (λ b. cond b (4 ^ level) 0) (le-leb level greatest_depth c.if-level-gt-GREATEST_DEPTH.false))
