-- Demand 3 of an outline with curves, from its chords to what is drawn of it; and how near the chords are to the curves.
--
-- The claim is `tile`'s (`FaithfulTo`), of the edges that the outline is drawn as: "Edge counts and closeness are then those of the chords." To it comes 02's
-- distance, of every curved edge as marked: "before this rounding no chord leaves its curve by more than one step in x or y". `build_curves` has this in its
-- contract.
--
-- Definitions
--   exact_area_at                01's exact area of a cell of the tile, at its place: the numerator
--   FaithfulAt                   what is promised of edges at a site, and of the table that they left
--   FaithfulCurves               what is promised of the table that building left
use Rattle.std.specs.Prelude.{◌≡◌, List, ℕ, length, ℤ}
use Rattle.integers.specs.ListSum.{All}
use Rattle.edge.specs.declared.Edge.{Edge}
use Rattle.edge.specs.Octilinear.{Octilinear}
use Rattle.haar.specs.Plane.{at}
use Rattle.placement.specs.declared.Placement.{Placement}
use Rattle.placement.specs.Placed.{placed}
use Rattle.accuracy.specs.Outline.{signed_area}
use Rattle.accuracy.specs.Tile.{EdgeOnTile}
use Rattle.accuracy.specs.ExactArea.{denominator, exact_area_num}
use Rattle.chords.specs.Sides.{marked_contours}
use Rattle.chords.specs.NearCurves.{NearChords, outline_sides}
use Rattle.tile.specs.Questions.{depth_of}
use Rattle.tile.specs.Faithful.{FaithfulTo}
use Rattle.sheet.specs.declared.Site.{Site}
use Rattle.sheet.specs.declared.Site.TheVariants.{Alone, OnSheet}
use Rattle.sheet.specs.FaithfulOnSheet.{exact_area_on_sheet}
use Rattle.sheet.specs.Sites.{tile_side, seen_at, root_at, twice_limit_at}
use Rattle.curves.specs.MarkedQuestions.{edges_marked}
use Rattle.curves.specs.CurveOutcomes.{curves_refusal}

abbrev pub exact_area_at : Site → List Edge → ℕ → ℕ → ℕ → ℤ
exact_area_at (Alone side) es level cx cy = exact_area_num (depth_of side) es level (at cx cy)
exact_area_at (OnSheet place) es level cx cy = exact_area_on_sheet place es level cx cy

-- of edges, whatever they are made of: the claim at a site, with the exact area at its place (as P5 has it)
pub record FaithfulAt (site : Site) (es : List Edge) (number : ℕ) (after : List ℤ) : Type 0 where
  pub faithful : FaithfulTo (tile_side site) (seen_at site es) (root_at site es) (twice_limit_at site) number (length es) after
  pub at_place : (level cx cy : ℕ)
      → (exact_area_num (depth_of (tile_side site)) (seen_at site es) level (at cx cy) ≡ exact_area_at site es level cx cy) × (denominator (seen_at site es) ≡ denominator es)
  -- level, upright and 45-degree edges are that as the tile has them too, where nothing is missed
  pub octilinear : All Octilinear es → All Octilinear (seen_at site es)
  -- and a letter wholly on its tile has its signed area for the root
  pub wholly_on : All (EdgeOnTile (depth_of (tile_side site))) (seen_at site es) → root_at site es ≡ signed_area es

pub record FaithfulCurves (site : Site) (points : List ℤ) (counts marks : List ℕ) (placement : Placement) (before after : List ℤ) : Type 0 where
  pub faithful : FaithfulAt site (edges_marked points counts marks placement) (curves_refusal site points counts marks placement before) after
  -- of every curved edge of an accepted outline, control points as placed
  pub near_curves : curves_refusal site points counts marks placement before ≡ 0 → All NearChords (outline_sides (marked_contours counts marks (placed placement points)))
