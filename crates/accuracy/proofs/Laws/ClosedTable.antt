-- The table of an outline by the closed form of its edges' details. The definition of a detail is a sum over the steps of a walk, too long to compute;
-- the closed form has at most three terms, so that the table of a given outline can be computed.
--
-- Main results
--   closed_table                  the table, by the closed form
--   outline_table-closed          it is the outline's table
use Rattle.std.specs.Prelude.{◌≡◌, List, ℕ, ◌*◌, ◌/◌, ◌-◌, ◌^◌, ℤ, pos}
use Rattle.std.proofs.Common.{ap, arith}
use Rattle.std.proofs.Math.Path.{fun_ext}
use Rattle.integers.specs.Units.{steps_per_pixel}
use Rattle.integers.proofs.Theorems.Order.{nonneg}
use Rattle.integers.proofs.Theorems.ListSum.{all_of, total_cong}
use Rattle.integers.specs.ListSum.{total}
use Rattle.edge.specs.declared.Edge.{Edge}
use Rattle.edge.specs.Rounded.{root_term}
use Rattle.edge.proofs.Laws.ClosedDetails.{closed_details, details-closed}
use Rattle.haar.specs.Cells.{Cell}
use Rattle.haar.specs.Table.{Coefficients}
use Rattle.haar.specs.Plane.{dimensions}
use Rattle.accuracy.specs.Outline.{signed_area}
use Rattle.accuracy.specs.Tile.{square}
use Rattle.accuracy.specs.ExactDetails.{numbered}
use Rattle.accuracy.specs.OutlineTable.{edge_table, outline_table}

-- half of a cell's width
abbrev half_width : ℕ → ℕ → ℕ
half_width depth level = steps_per_pixel / 2 * 2 ^ (depth - level)

-- what one edge adds to a detail
abbrev closed_detail : ℕ → ℕ → Cell dimensions → ℕ → Edge → ℤ
closed_detail depth j cell k e = numbered (closed_details e (square depth j cell) (pos (half_width depth j))) k

-- What has to be unfolded to compute it stands on the `unfolding` line, so a proof that computes it names `closed_table` alone.
unfoldable pub closed_table : ℕ → List Edge → Coefficients dimensions
unfolding closed_details root_term total numbered
closed_table depth es = record { root = signed_area es; detail = λ j cell k. total (closed_detail depth j cell k) es }

edge-closed : (depth j : ℕ) (cell : Cell dimensions) (k : ℕ) (e : Edge) → (edge_table depth e).detail j cell k ≡ closed_detail depth j cell k e
edge-closed depth j (cx, (cy, rest)) k e =
    ap (λ w. numbered w k) (details-closed e (square depth j (cx, (cy, rest))) (pos (half_width depth j)) (ap pos (omega arith)) (nonneg (half_width depth j)))

detail_closed : (depth : ℕ) (es : List Edge) (j : ℕ) (cell : Cell dimensions) (k : ℕ)
    → (outline_table depth es).detail j cell k ≡ total (closed_detail depth j cell k) es
detail_closed depth es j cell k =
    total_cong (λ e. (edge_table depth e).detail j cell k) (closed_detail depth j cell k) es (all_of (edge-closed depth j cell k) es)

pub outline_table-closed : (depth : ℕ) (es : List Edge) → outline_table depth es ≡ closed_table depth es
unfolding closed_table
outline_table-closed depth es =
    ap (λ f. record { root = signed_area es; detail = f }) (fun_ext λ j. fun_ext λ cell. fun_ext λ k. detail_closed depth es j cell k)
