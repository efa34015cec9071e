-- What the figures would be without rounding: 4^L times the exact areas.
--
-- Main results
--   exact_table depth es          the table with its details as they are before rounding, `denominator es` times over
--   exact_figure                  its figures are 4^L times the exact areas
use Rattle.std.specs.Prelude.{◌≡◌, List, ℕ, suc, ◌/◌, ◌^◌, ◌<◌, ◌≤◌, pos, ◌+ℤ◌, ◌*ℤ◌}
use Rattle.std.proofs.Common.{sym, ◌∙◌, ap, ap₂, arith}
use Rattle.edge.specs.declared.Edge.{Edge}
use Rattle.haar.specs.Cells.{Cell, Below, parent, child_number}
use Rattle.haar.specs.Table.{Coefficients}
use Rattle.haar.specs.Figures.{signed_details, figure}
use Rattle.haar.specs.Plane.{dimensions, at}
use Rattle.haar.proofs.Laws.Areas.{figure_area}
use Rattle.haar.proofs.Laws.Quarters.{parent_at, signed_details-quarter}
use Rattle.accuracy.specs.Outline.{ClosedEdges}
use Rattle.accuracy.specs.ExactArea.{exact_area_num}
use Rattle.accuracy.specs.ExactDetails.{exact_detail_num}
use Rattle.accuracy.proofs.Laws.OutlineQuarter.{outline_quarter}

abbrev pub exact_table : ℕ → List Edge → Coefficients dimensions
exact_table depth es = record { root = exact_area_num depth es 0 (at 0 0); detail = exact_detail_num depth es }

-- level 0 has one cell
only_cell : (cell : Cell dimensions) → Below dimensions 1 cell → cell ≡ at 0 0
only_cell (cx, (cy, rest)) (i, (j, none)) =
    let x : cx ≡ 0 = omega arith in
    let y : cy ≡ 0 = omega arith in
    ap₂ at x y

-- the quarter law, with the signs that figures go by
quarter_by_signs : {es : List Edge} → ClosedEdges es → (depth j : ℕ) → j < depth → (cell : Cell dimensions)
    → pos 4 *ℤ exact_area_num depth es (suc j) cell
    ≡ exact_area_num depth es j (parent dimensions cell)
    +ℤ signed_details dimensions (exact_detail_num depth es j (parent dimensions cell)) (child_number dimensions cell)
quarter_by_signs {es} closed depth j h (cx, (cy, rest)) =
    let q = at (cx / 2) (cy / 2) in
    outline_quarter closed depth j cx cy h
    ∙ ap (λ z. exact_area_num depth es j q +ℤ z) (sym (signed_details-quarter (exact_detail_num depth es j q) cx cy))
    ∙ ap (λ (q : Cell dimensions). exact_area_num depth es j q +ℤ signed_details dimensions (exact_detail_num depth es j q) (child_number dimensions (at cx cy)))
    (sym (parent_at cx cy))

pub exact_figure : {depth : ℕ} {es : List Edge} → ClosedEdges es → (level : ℕ) → level ≤ depth → (cell : Cell dimensions) → Below dimensions (2 ^ level) cell
    → figure dimensions (exact_table depth es) level cell ≡ pos (4 ^ level) *ℤ exact_area_num depth es level cell
exact_figure {depth} {es} closed =
    figure_area {n = dimensions} {t = exact_table depth es} {a = exact_area_num depth es} (record {
      whole = λ cell b. ap (exact_area_num depth es 0) (only_cell cell b);
      part = λ j h cell b. quarter_by_signs closed depth j h cell;
    })
