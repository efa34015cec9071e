-- What is known of an accepted outline: "An outline is accepted where every question for building is answered yes."
--
-- Main results
--   side_width, on_side              question 6's coordinates are on the tile of that side, or on the sheet
--   Accepted, accepted               what the answers say of the side, the table and the outline
--   placed-accepted                  and, with a placement, of the outline as placed
--   accepted-count                   its edges are as many as the counts' sum
--   accepted_alone                   what is drawn of their table is near their exact areas
--   AcceptedEdges, accepted_edges    so they are edges that can be drawn as promised
use Rattle.std.specs.Prelude.{◌≡◌, List, ℕ, ◌*◌, ◌-◌, ◌^◌, ◌≤◌, length, ℤ, pos, ◌≤ℤ◌}
use Rattle.std.proofs.Common.{◌∙◌, ap, subst, arith}
use Rattle.integers.specs.Units.{steps_per_pixel, most_edges}
use Rattle.integers.specs.ListSum.{All}
use Rattle.edge.specs.declared.Edge.{Edge}
use Rattle.placement.specs.declared.Placement.{Placement}
use Rattle.placement.specs.Placed.{placed}
use Rattle.placement.proofs.Laws.PlacedPoints.{placed-length}
use Rattle.accuracy.specs.Outline.{contours_of, edge_count, signed_area}
use Rattle.accuracy.specs.Tile.{cell_width}
use Rattle.accuracy.specs.Accurate.{twice_miss_limit, Accurate, AccurateAlone}
use Rattle.accuracy.proofs.Theorems.Theorem.{outline_accurate}
use Rattle.accuracy.proofs.Laws.Coordinates.{contours_of-count, OnSide, contours_of_on_tile}
use Rattle.tile.specs.Questions.{Yes, depth_of, question1, question2, question5, question6}
use Rattle.tile.specs.Outcomes.{edges_of, build_refusal, placed_refusal}
use Rattle.tile.proofs.Theorems.Refusals.{building_refusals, placed_refusals, question2_means, question3_means, question5_means, question6_means}
use Rattle.tile.proofs.Laws.Sides.{side_power}
use Rattle.tile.proofs.Laws.DrawnArea.{miss_limit_cells}

pub record Accepted (side : ℕ) (points : List ℤ) (counts : List ℕ) (table : List ℤ) : Type 0 where
  pub is_side : Yes (question1 side)
  pub table_length_lem : length table ≡ side * side
  pub few_edges : edge_count counts ≤ most_edges
  pub points_length : length points ≡ 2 * edge_count counts
  pub on_tile : All (OnSide (depth_of side)) points

-- question 6's limit is the width of a tile of that side, or of a sheet
pub side_width : (side : ℕ) → side ≡ 2 ^ depth_of side → steps_per_pixel * side ≡ cell_width (depth_of side) 0
side_width side power =
    let whole : depth_of side ≡ depth_of side - 0 = omega arith in
    ap (λ s. steps_per_pixel * s) power ∙ ap (λ k. steps_per_pixel * 2 ^ k) whole

pub on_side : (side : ℕ) (points : List ℤ) → side ≡ 2 ^ depth_of side → Yes (question6 side points) → All (OnSide (depth_of side)) points
on_side side points power yes6 =
    subst (λ (w : ℕ). All (λ z. (pos 0 ≤ℤ z) × (z ≤ℤ pos w)) points) (side_width side power) ((question6_means side points).0 yes6)

-- from the answers to the questions that every kind of outline is asked, question 6's of the points that are drawn
accepted_by : (side : ℕ) (points : List ℤ) (counts : List ℕ) (table : List ℤ) → Yes (question1 side) → Yes (question2 side table) → Yes (question5 counts)
    → length points ≡ 2 * edge_count counts → Yes (question6 side points) → Accepted side points counts table
accepted_by side points counts table yes1 yes2 yes5 enough yes6 = record {
  is_side = yes1;
  table_length_lem = (question2_means side table).0 yes2;
  few_edges = (question5_means counts).0 yes5;
  points_length = enough;
  on_tile = on_side side points (side_power side yes1) yes6;
}

pub accepted : (side : ℕ) (points : List ℤ) (counts : List ℕ) (table : List ℤ) → build_refusal side points counts table ≡ 0
    → Accepted side points counts table
accepted side points counts table done =
    let yes = (building_refusals side points counts table).accepted.0 done in
    accepted_by side points counts table yes.0 yes.1.0 yes.1.1.1.0 ((question3_means points counts).0 yes.1.1.1.1.0)
    yes.1.1.1.1.1.0

pub placed-accepted : (side : ℕ) (points : List ℤ) (counts : List ℕ) (placement : Placement) (table : List ℤ)
    → placed_refusal side points counts placement table ≡ 0 → Accepted side (placed placement points) counts table
placed-accepted side points counts placement table done =
    let yes = (placed_refusals side points counts placement table).accepted.0 done in
    accepted_by side (placed placement points) counts table yes.0 yes.1.0 yes.1.1.1.0
    (placed-length placement points ∙ (question3_means points counts).0 yes.1.1.1.1.0) yes.1.1.1.1.1.1.0

-- Edges whose table can be drawn as promised, whatever kind of outline they are of, and whatever the root is. (Question 4 is not among it: how many points each
-- contour has does not matter here.)
pub record AcceptedEdges (side : ℕ) (root_of : List Edge → ℤ) (twice_limit : ℕ → ℕ → ℕ) (es : List Edge) : Type 0 where
  pub is_side : Yes (question1 side)
  pub few_edges : length es ≤ most_edges
  pub accurate : Accurate root_of twice_limit (depth_of side) es
  -- the limit is at most that of an edge's half unit, as many times over as the level has cells
  pub limited : (level edges : ℕ) → twice_limit level edges ≤ 4 ^ level * edges

module _ {side : ℕ} {points : List ℤ} {counts : List ℕ} {table : List ℤ} (a : Accepted side points counts table) where
  pub accepted-count : length (edges_of points counts) ≡ edge_count counts
  accepted-count = contours_of-count counts points (omega (arith, a.points_length))

  pub accepted_alone : AccurateAlone (depth_of side) (edges_of points counts)
  accepted_alone = (outline_accurate (depth_of side) (contours_of counts points) (contours_of_on_tile (depth_of side) counts points a.on_tile)).accurate

  pub accepted_edges : AcceptedEdges side signed_area twice_miss_limit (edges_of points counts)
  accepted_edges = record {
    is_side = a.is_side;
    few_edges = omega (arith, accepted-count, a.few_edges);
    accurate = accepted_alone.accurate;
    limited = miss_limit_cells;
  }
