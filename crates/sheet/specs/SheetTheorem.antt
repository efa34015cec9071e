-- Demand 3 holds of building on a sheet, for every input.
--
-- Main results (the laws among them are in proofs/Theorems/SheetTheorem.antt)
--   AcceptedOnSheet,
--   sheet_accepted               what the answers say of an outline that is accepted
--   sheet_faithful               what is left is drawn as `FaithfulOnSheet` says
use Rattle.std.specs.Prelude.{◌≡◌, List, ℕ, ◌*◌, ◌≤◌, length, ℤ}
use Rattle.integers.specs.Units.{most_edges}
use Rattle.placement.specs.declared.Placement.{Placement}
use Rattle.placement.specs.Placed.{placed}
use Rattle.accuracy.specs.Outline.{edge_count}
use Rattle.accuracy.specs.Tile.{ClosedOnTile}
use Rattle.tile.specs.Questions.{Yes, depth_of, question12}
use Rattle.tile.specs.Outcomes.{edges_of}
use Rattle.sheet.specs.declared.SheetTile.{SheetTile}
use Rattle.sheet.specs.declared.Site.TheVariants.{OnSheet}
use Rattle.sheet.specs.Sites.{SiteYes}

-- of the outline as placed
pub record AcceptedOnSheet (place : SheetTile) (points : List ℤ) (counts : List ℕ) (placement : Placement) (table : List ℤ) : Type 0 where
  pub site : SiteYes (OnSheet place)
  pub table_length_lem : length table ≡ place.side * place.side
  pub few_edges : edge_count counts ≤ most_edges
  pub points_length : length points ≡ 2 * edge_count counts
  pub movable : Yes (question12 placement points)
  pub on_sheet : ClosedOnTile (depth_of place.sheet) (edges_of (placed placement points) counts)
  pub counted : length (edges_of (placed placement points) counts) ≡ edge_count counts
