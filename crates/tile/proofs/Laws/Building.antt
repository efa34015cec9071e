-- From a cleared table to the table of edges, whatever kind of outline they are of.
--
-- Main results
--   cleared_fits                 a cleared table has room for the most edges
--   cleared_built                with edges added, it is their table
use Rattle.std.specs.Prelude.{◌≡◌, List, ℕ, ◌+◌, ◌*◌, ◌^◌, ◌≤◌, length, replicate, ℤ, pos, ◌*ℤ◌}
use Rattle.std.proofs.Common.{◌∙◌, ap, arith}
use Rattle.std.proofs.Math.Path.{subst⁻¹}
use Rattle.std.proofs.lemmas.List.{length-replicate}
use Rattle.integers.specs.Units.{greatest_depth, most_edges}
use Rattle.edge.specs.declared.Edge.{Edge}
use Rattle.haar.specs.Cells.{children}
use Rattle.haar.specs.Entries.{entries}
use Rattle.haar.specs.Plane.{dimensions}
use Rattle.rasterize.specs.declared.View.{View}
use Rattle.rasterize.specs.Added.{added, entry_of}
use Rattle.rasterize.specs.Ready.{visits, Fits}
use Rattle.rasterize.specs.Views.{view_table}
use Rattle.rasterize.proofs.Laws.Adding.{added-zeros}
use Rattle.rasterize.proofs.Laws.Spare.{spare_zeros}
use Rattle.tile.specs.Questions.{Yes, depth_of, question1}
use Rattle.tile.proofs.Laws.Sides.{side_depth, side_cells}
use Rattle.tile.proofs.Laws.Room.{room}

module _ (side : ℕ) (table : List ℤ) {cleared : List ℤ} (is_side : Yes (question1 side)) (long : length table ≡ side * side)
    (zeros : cleared ≡ replicate (length table) (pos 0)) {depth : ℕ} (d : depth ≡ depth_of side) where
  cells : length table ≡ children dimensions ^ depth_of side
  cells = long ∙ side_cells side is_side

  pub cleared_fits : (n : ℕ) → n ≤ most_edges → Fits cleared depth n
  cleared_fits n few =
      subst⁻¹ (λ k. Fits cleared k n) d
      (subst⁻¹ (λ l. Fits l (depth_of side) n) zeros (record {
        shallow = side_depth side is_side;
        exact = length-replicate (length table) (pos 0) ∙ cells;
        spare = spare_zeros (length table) (n + visits greatest_depth) (omega (arith, room n (omega (arith, few))));
      }))

  pub cleared_built : (view : View) (es : List Edge) {after : List ℤ} → after ≡ added cleared (λ i. pos 1 *ℤ entry_of depth (view_table view depth es) i)
      → after ≡ entries dimensions (depth_of side) (view_table view (depth_of side) es)
  cleared_built view es e =
      e ∙ ap (λ n. added cleared (λ i. pos 1 *ℤ entry_of n (view_table view n es) i)) d
      ∙ ap (λ l. added l (λ i. pos 1 *ℤ entry_of (depth_of side) (view_table view (depth_of side) es) i)) (zeros ∙ ap (λ n. replicate n (pos 0)) cells)
      ∙ added-zeros (depth_of side) (view_table view (depth_of side) es)
