-- What is known of the contour of a call whose questions about it are answered yes.
--
-- Main results
--   sign_within                  what its values are multiplied by
--   opposite, sign-opposite      and what undoes that
--   contour_count                its points are as many as the call's count
--   contour_coordinates          its coordinates are those of the call, as placed
--   few_edges                    its edges are no more than the most, with those that question 5 counts beside them
--   contour_accepted             it is a contour that building accepts
--   contour_in_view              its edges are in the tile's view
--   contour_edge-count           its edges are as many as the count
--   part_within                  what it adds to an entry, or takes from it, is at most what the most edges add
use Rattle.std.specs.Prelude.{◌≡◌, refl, true, List, [], ◌∷◌, ℕ, ◌+◌, ◌*◌, ◌/◌, ◌≤◌, length, ℤ, pos, ◌-ℤ◌, ◌*ℤ◌}
use Rattle.std.proofs.Common.{◌∙◌, ap}
use native.Mathlib.Omega.{arith}
use Rattle.std.specs.Int.Signed.{le_z_yes}
use Rattle.integers.specs.Units.{most_edges, built_entry_limit}
use Rattle.integers.specs.Within.{Within}
use Rattle.integers.specs.ListSum.{All, tally}
use Rattle.integers.proofs.Theorems.Tests.{and_true_means, leb_means}
use Rattle.placement.specs.Placed.{placed}
use Rattle.placement.proofs.Laws.PlacedPoints.{placed-length}
use Rattle.accuracy.specs.Outline.{edge_count, contour_edges}
use Rattle.accuracy.proofs.Laws.Contours.{contour_edges-length, contour_on_tile}
use Rattle.accuracy.proofs.Laws.Coordinates.{points_of-length, points_on}
use Rattle.rasterize.specs.Views.{InView}
use Rattle.tile.specs.Questions.{Yes, depth_of, question3, question4, question6}
use Rattle.tile.proofs.Theorems.Refusals.{question3_means}
use Rattle.tile.specs.Written.{coordinates_of}
use Rattle.tile.proofs.Laws.Accepted.{on_side}
use Rattle.tile.proofs.Laws.Written.{points_back}
use Rattle.sheet.specs.Sites.{tile_side, reach, view_at}
use Rattle.sheet.proofs.Laws.SiteEdges.{reach_power, site_in_view}
use Rattle.corrections.specs.declared.Change.{Change}
use Rattle.corrections.specs.declared.Change.TheVariants.{Put, Take}
use Rattle.corrections.specs.Corrections.{Tile, Call, contour_of, part, sign_of, already_in}
use Rattle.corrections.proofs.Laws.Answered.{AskedYes}
use Rattle.corrections.proofs.Laws.Accepted.{is_contour}
use Rattle.corrections.proofs.Laws.Parts.{values_within}

pub sign_within : (x : Change) → Within (pos 1) (sign_of x)
sign_within Put = record { low = le_z_yes tt; high = le_z_yes tt }
sign_within Take = record { low = le_z_yes tt; high = le_z_yes tt }

abbrev pub opposite : Change → Change
opposite Put = Take
opposite Take = Put

pub sign-opposite : (x : Change) → sign_of (opposite x) ≡ pos 0 -ℤ sign_of x
sign-opposite Put = refl
sign-opposite Take = refl

-- ---- by question 3 alone
module _ (k : Call) (yes3 : Yes (question3 k.points (k.count ∷ []))) where
  abbrev drawn : List ℤ
  drawn = placed k.placement k.points

  even : length drawn ≡ 2 * k.count
  unfolding tally
  even = placed-length k.placement k.points ∙ (question3_means k.points (k.count ∷ [])).0 yes3 ∙ omega arith

  pub contour_count : length (contour_of k) ≡ k.count
  contour_count = points_of-length drawn ∙ ap (λ n. n / 2) even ∙ omega arith

  pub contour_coordinates : coordinates_of (contour_of k) ≡ drawn
  contour_coordinates = points_back k.count drawn even

-- ---- by all of them
module _ (k : Call) (t : Tile) (yes : AskedYes k t) where
  abbrev depth : ℕ
  depth = depth_of (tile_side k.site)

  pub few_edges : already_in k.change t.edges + k.count ≤ most_edges
  unfolding tally
  few_edges = omega (arith, (leb_means (already_in k.change t.edges + edge_count (k.count ∷ [])) most_edges).0 yes.yes5)

  pub contour_accepted : is_contour (reach k.site) (contour_of k) ≡ true
  contour_accepted =
      (and_true_means (question4 (length (contour_of k) ∷ [])).answer (question6 (reach k.site) (coordinates_of (contour_of k))).answer).1 (
        ap (λ n. (question4 (n ∷ [])).answer) (contour_count k yes.yes3) ∙ yes.yes4,
        ap (λ l. (question6 (reach k.site) l).answer) (contour_coordinates k yes.yes3) ∙ yes.yes6,
      )

  pub contour_in_view : All (InView (view_at k.site) depth) (contour_edges (contour_of k))
  contour_in_view =
      let wide = depth_of (reach k.site) in
      let points = placed k.placement k.points in
      site_in_view k.site yes.site (contour_edges (contour_of k))
      (contour_on_tile wide (contour_of k) (points_on wide points (on_side (reach k.site) points (reach_power k.site yes.site) yes.yes6)))

  pub contour_edge-count : length (contour_edges (contour_of k)) ≡ k.count
  contour_edge-count = contour_edges-length (contour_of k) ∙ contour_count k yes.yes3

  pub part_within : (i : ℕ) → Within (pos built_entry_limit) (sign_of k.change *ℤ part k.site (contour_of k) i)
  part_within i =
      values_within k.site (contour_edges (contour_of k)) (sign_within k.change) contour_in_view (omega (arith, contour_edge-count, few_edges)) i
