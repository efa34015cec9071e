-- Demand 3 holds of building with marks, for every input; and the chords are near their curves.
--
-- Main results (the laws among them are in proofs/Theorems/CurveTheorem.antt)
--   AcceptedMarked, marked_accepted   what the answers say of an outline that is accepted
--   curves_zero                       the number is 0 exactly where all questions are answered yes
--   curves_accepted                   what an accepted building says
--   edges_faithful                    edges that are accepted at a site are drawn as `FaithfulAt` says
--   curves_faithful                   what building leaves is drawn as `FaithfulCurves` says
--   roundel, roundel-accepted         an instance: four curves around the middle of a tile
use Rattle.std.specs.Prelude.{◌≡◌, List, [], ◌∷◌, ℕ, ◌+◌, ◌≤◌, length, ℤ, pos}
use Rattle.integers.specs.Units.{most_edges, most_points}
use Rattle.integers.specs.ListSum.{All}
use Rattle.placement.specs.declared.Placement.{Placement}
use Rattle.placement.specs.Placed.{placed}
use Rattle.accuracy.specs.Outline.{edge_count}
use Rattle.accuracy.specs.Tile.{ClosedOnTile}
use Rattle.curve.specs.Curve.{OnSheet as CoordinateOnSheet}
use Rattle.chords.specs.Sides.{numbers}
use Rattle.tile.specs.Questions.{Yes, depth_of, question2, question12}
use Rattle.sheet.specs.declared.Site.{Site}
use Rattle.sheet.specs.Sites.{tile_side, reach, SiteYes}
use Rattle.curves.specs.MarkedQuestions.{edges_marked}

-- ---- what the answers say; so many edges are in already
pub record AcceptedMarked (site : Site) (points : List ℤ) (counts marks : List ℕ) (placement : Placement) (already : ℕ) (table : List ℤ) : Type 0 where
  pub site_yes : SiteYes site
  pub yes2 : Yes (question2 (tile_side site) table)
  pub few_points : All (λ n. n ≤ most_points) counts
  pub marks_length : length marks ≡ edge_count counts
  pub points_length : length points ≡ numbers marks
  pub movable : Yes (question12 placement points)
  pub on_sheet : All CoordinateOnSheet (placed placement points)
  pub within : ClosedOnTile (depth_of (reach site)) (edges_marked points counts marks placement)
  pub few_edges : already + length (edges_marked points counts marks placement) ≤ most_edges

-- ---- an instance: four curves, each with its control point in a corner of a tile of one pixel; each becomes eight chords
abbrev pub roundel : List ℤ
roundel =
    pos 128 ∷ pos 0 ∷ pos 256 ∷ pos 0 ∷ pos 256 ∷ pos 128 ∷ pos 256 ∷ pos 256 ∷ pos 128 ∷ pos 256 ∷ pos 0 ∷ pos 256 ∷ pos 0 ∷ pos 128 ∷ pos 0 ∷ pos 0 ∷ []
