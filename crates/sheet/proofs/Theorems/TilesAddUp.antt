-- Laws of what specs/TilesAddUp.antt defines. The head of that file lists the main results.
use Rattle.std.specs.Prelude.{◌≡◌, refl, List, [], ◌∷◌, ℕ, ◌*◌, ◌/◌, ◌<◌, eqb, length, get_or, replicate, ℤ, pos}
use Rattle.std.proofs.Common.{◌∙◌, ap, arith, lit<}
use Rattle.integers.specs.ListSum.{All, tally}
use Rattle.integers.specs.RangeSum.{Σ<}
use Rattle.integers.proofs.Theorems.RangeSum.{Σ_cong}
use Rattle.edge.specs.declared.Edge.{Edge}
use Rattle.edge.specs.Octilinear.{Octilinear, level, upright}
use Rattle.haar.specs.Plane.{dimensions}
use Rattle.haar.proofs.Laws.Entries.{entries-root}
use Rattle.placement.specs.declared.Placement.{Placement}
use Rattle.placement.specs.declared.Placement.TheVariants.{None}
use Rattle.placement.specs.Placed.{placed}
use Rattle.accuracy.specs.Outline.{signed_area, contours_of, points_of, through, contour_edges, outline_edges}
use Rattle.accuracy.specs.Tile.{cell_width}
use Rattle.accuracy.specs.OutlineTable.{tile_root, tile_table}
use Rattle.accuracy.proofs.Laws.SheetTiles.{tiles_add_up}
use Rattle.tile.specs.Questions.{depth_of}
use Rattle.tile.specs.Outcomes.{edges_of}
use Rattle.tile.proofs.Laws.IfDone.{if_done_lem}
use Rattle.tile.proofs.Laws.Sides.{side_power}
use Rattle.tile.proofs.Laws.Accepted.{side_width}
use Rattle.sheet.specs.SheetOutcomes.{tile_at, seen_from_tile, tile_entries, sheet_refusal}
use Rattle.sheet.proofs.Theorems.SheetRefusals.{sheet_refusals, question15_means}
use Rattle.sheet.proofs.Theorems.SheetTheorem.{sheet_accepted}
use Rattle.sheet.proofs.Laws.Places.{sheet_power, sheet_tile_side, sheet_covers}
use Rattle.sheet.specs.TilesAddUp.{built_root, square}

module _ (sheet side : ℕ) (points : List ℤ) (counts : List ℕ) (placement : Placement) where
  -- question 15 alone reads the place, and question 2 the table's length
  pub accepted_everywhere : (column row column' row' : ℕ) (before other : List ℤ) → sheet_refusal (tile_at sheet side column row) points counts placement before ≡ 0
      → column' < sheet / side → row' < sheet / side → length other ≡ length before
      → sheet_refusal (tile_at sheet side column' row') points counts placement other ≡ 0
  accepted_everywhere column row column' row' before other done x y e =
      let yes = (sheet_refusals (tile_at sheet side column row) points counts placement before).accepted.0 done in
      (sheet_refusals (tile_at sheet side column' row') points counts placement other).accepted.1
      (yes.0, ((question15_means (tile_at sheet side column' row')).1 (x, y), (ap (λ n. eqb n (side * side)) e ∙ yes.1.1.0, yes.1.1.1)))

  -- `before` is what the table of each tile held
  module _ (before : ℕ → ℕ → List ℤ)
      (done : (column row : ℕ) → column < sheet / side → row < sheet / side
      → sheet_refusal (tile_at sheet side column row) points counts placement (before column row) ≡ 0) where
    abbrev es : List Edge
    es = edges_of (placed placement points) counts

    root_is : (column row : ℕ) → column < sheet / side → row < sheet / side
        → built_root (tile_at sheet side column row) points counts placement (before column row)
        ≡ tile_root (depth_of side) (seen_from_tile (tile_at sheet side column row) es)
    root_is column row x y =
        let place = tile_at sheet side column row in
        ap (λ t. get_or t 0 (pos 0)) (if_done_lem (tile_entries place es) (before column row) (done column row x y))
        ∙ entries-root dimensions (depth_of side) (tile_table (depth_of side) (seen_from_tile place es))

    pub roots_add_up : 0 < sheet / side → All Octilinear es
        → Σ< (sheet / side) (λ row. Σ< (sheet / side) (λ column. built_root (tile_at sheet side column row) points counts placement (before column row)))
        ≡ signed_area es
    roots_add_up some octilinear =
        let a = sheet_accepted (tile_at sheet side 0 0) points counts placement (before 0 0) (done 0 0 some some) in
        let yes14 = a.site.0 in
        let m = sheet / side in
        let covers : cell_width (depth_of sheet) 0 ≡ m * cell_width (depth_of side) 0 =
        omega (
          arith,
          side_width sheet (sheet_power sheet side yes14),
          ap (λ n. m * n) (side_width side (side_power side (sheet_tile_side sheet side yes14))),
          sheet_covers sheet side yes14,
        ) in
        Σ_cong m _ _ (λ row y. Σ_cong m _ _ (λ column x. root_is column row x y))
        ∙ tiles_add_up (depth_of sheet) m (depth_of side) covers a.on_sheet.closed a.on_sheet.on_tile octilinear

pub square-accepted : sheet_refusal (tile_at 4 2 0 0) square (4 ∷ []) None (replicate 4 (pos 0)) ≡ 0
unfolding placed tally
square-accepted = refl

square_octilinear : All Octilinear (edges_of (placed None square) (4 ∷ []))
unfolding placed contours_of points_of through contour_edges outline_edges
square_octilinear = (level refl, (upright refl, (level refl, (upright refl, tt))))

pub square-roots :
    Σ< 2 (λ row. Σ< 2 (λ column. built_root (tile_at 4 2 column row) square (4 ∷ []) None (replicate 4 (pos 0)))) ≡ signed_area (edges_of (placed None square) (4 ∷ []))
square-roots =
    let before = replicate 4 (pos 0) in
    roots_add_up 4 2 square (4 ∷ []) None (λ column row. before)
    (λ column row x y. accepted_everywhere 4 2 square (4 ∷ []) None 0 0 column row before before square-accepted x y refl) (lit< tt) square_octilinear
