-- Demand 3 of one tile of a sheet, from the outline on the sheet to what is drawn of the tile.
--
-- It is the claim of `tile` (`FaithfulTo`), with the edges as they are seen from the tile's corner, the tile's own rounded root, and "4^L × edges / 2" for the
-- limit of a figure's miss. `build_on_sheet` has it in its contract, and `figures`, `greys` and `cell` have in theirs that they answer and leave what it
-- speaks of.
--
-- Definitions
--   exact_area_on_sheet             01's exact area of a cell of the tile, at its place on the sheet, of the outline as it lies there: the numerator
--   FaithfulOnSheet                 what is promised of the table that building on a sheet left
use Rattle.std.specs.Prelude.{◌≡◌, List, ℕ, ℤ}
use Rattle.integers.specs.ListSum.{All}
use Rattle.integers.specs.Fraction.{numer}
use Rattle.edge.specs.declared.Edge.{Edge}
use Rattle.edge.specs.Walk.{steps}
use Rattle.edge.specs.Integrals.{area_num}
use Rattle.edge.specs.Octilinear.{Octilinear}
use Rattle.haar.specs.Plane.{at}
use Rattle.placement.specs.declared.Placement.{Placement}
use Rattle.placement.specs.Placed.{placed}
use Rattle.accuracy.specs.Outline.{edge_count, signed_area}
use Rattle.accuracy.specs.Tile.{EdgeOnTile}
use Rattle.accuracy.specs.ExactArea.{denominator, exact_area_num}
use Rattle.accuracy.specs.OutlineTable.{tile_root}
use Rattle.accuracy.specs.Accurate.{twice_tile_miss_limit}
use Rattle.accuracy.specs.Sheet.{cell_on_sheet}
use Rattle.tile.specs.Questions.{depth_of}
use Rattle.tile.specs.Outcomes.{edges_of}
use Rattle.tile.specs.Faithful.{FaithfulTo}
use Rattle.sheet.specs.declared.SheetTile.{SheetTile}
use Rattle.sheet.specs.SheetOutcomes.{seen_from_tile, sheet_refusal}

-- "The exact area is 01's, cell by cell, with edges beyond the tile": of every edge of the outline, and of the square at its place
abbrev pub exact_area_on_sheet : SheetTile → List Edge → ℕ → ℕ → ℕ → ℤ
exact_area_on_sheet place es level cx cy =
    numer steps (λ e. area_num e (cell_on_sheet (depth_of place.side) place.column place.row level (at cx cy))) es

pub record FaithfulOnSheet (place : SheetTile) (points : List ℤ) (counts : List ℕ) (placement : Placement) (before after : List ℤ) : Type 0 where
  -- "so a figure may miss by 4^L × edges / 2 and a tile's figures add up to 4^L times its own rounded root". In square steps that is a quarter for each edge, so
  -- `close` and `area` say the same here.
  pub faithful : FaithfulTo place.side (seen_from_tile place (edges_of (placed placement points) counts))
      (tile_root (depth_of place.side) (seen_from_tile place (edges_of (placed placement points) counts))) twice_tile_miss_limit
      (sheet_refusal place points counts placement before) (edge_count counts) after
  -- the exact area that it measures by is the one on the sheet
  pub at_place : (level cx cy : ℕ)
      → (exact_area_num (depth_of place.side) (seen_from_tile place (edges_of (placed placement points) counts)) level (at cx cy)
      ≡ exact_area_on_sheet place (edges_of (placed placement points) counts) level cx cy)
      × (denominator (seen_from_tile place (edges_of (placed placement points) counts)) ≡ denominator (edges_of (placed placement points) counts))
  -- and its edges are level, upright or at 45 degrees, where nothing is missed, if those of the outline on the sheet are
  pub octilinear : All Octilinear (edges_of (placed placement points) counts) → All Octilinear (seen_from_tile place (edges_of (placed placement points) counts))
  -- a letter that lies wholly on the tile, wherever that is on the sheet, has its exact signed area for the root
  pub wholly_on : All (EdgeOnTile (depth_of place.side)) (seen_from_tile place (edges_of (placed placement points) counts))
      → tile_root (depth_of place.side) (seen_from_tile place (edges_of (placed placement points) counts)) ≡ signed_area (edges_of (placed placement points) counts)
