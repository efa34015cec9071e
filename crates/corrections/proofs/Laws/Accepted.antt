-- Contours that building accepts at a site, and what it then leaves.
--
-- Main results
--   is_contour reach c            questions 4 and 6 of one contour
--   written_accepted              building accepts contours exactly where each of them is one, and they have no more edges than the most
--   site_built                    what it then leaves, and the count that it reports
--   contours_within               the edges of such contours lie within reach
use Rattle.std.specs.Prelude.{◌≡◌, refl, ◌↔◌, Bool, true, ◌&&◌, List, [], ◌∷◌, ℕ, ◌*◌, ◌≤◌, length, ℤ, pos}
use Rattle.std.proofs.Common.{sym, ◌∙◌, ap, ap₂, subst}
use Rattle.std.proofs.Math.Path.{subst⁻¹}
use Rattle.integers.specs.Units.{steps_per_pixel, most_edges}
use Rattle.integers.specs.ListSum.{All, tally}
use Rattle.integers.specs.Tests.{every, between}
use Rattle.integers.proofs.Theorems.Tests.{and_true_means}
use Rattle.integers.proofs.Theorems.Every.{every-both}
use Rattle.placement.specs.declared.Placement.TheVariants.{None}
use Rattle.placement.proofs.Laws.PlacedPoints.{placed_none}
use Rattle.accuracy.specs.Outline.{edge_count, outline_edges}
use Rattle.accuracy.specs.Tile.{OnTile, ClosedOnTile}
use Rattle.accuracy.proofs.Laws.Contours.{outline_on_tile}
use Rattle.accuracy.proofs.Laws.Coordinates.{contours_of_on_tile}
use Rattle.tile.specs.Questions.{Yes, depth_of, question2, question4, question6}
use Rattle.tile.specs.Outcomes.{edges_of}
use Rattle.tile.proofs.Theorems.Refusals.{building_refusals, question3_means, question5_means}
use Rattle.tile.specs.Written.{Contour, coordinates_of, coordinates, counts_of}
use Rattle.tile.proofs.Laws.IfDone.{if_done_lem}
use Rattle.tile.proofs.Laws.Accepted.{on_side}
use Rattle.tile.proofs.Laws.Written.{contours_back, contours_edges, coordinates-length, counts_asked, coordinates_asked}
use Rattle.sheet.specs.declared.Site.{Site}
use Rattle.sheet.specs.declared.Site.TheVariants.{Alone, OnSheet}
use Rattle.sheet.specs.SheetOutcomes.{tile_entries}
use Rattle.sheet.proofs.Theorems.SheetRefusals.{sheet_refusals}
use Rattle.sheet.specs.Sites.{tile_side, reach, SiteYes, entries_at, site_result, site_table}
use Rattle.sheet.proofs.Laws.SiteEdges.{reach_power}

abbrev pub is_contour : ℕ → Contour → Bool
is_contour side c = (question4 (length c ∷ [])).answer && (question6 side (coordinates_of c)).answer

contours_asked : (side : ℕ) (cs : List Contour) → every (is_contour side) cs ≡ ((question4 (counts_of cs)).answer && (question6 side (coordinates cs)).answer)
contours_asked side cs =
    every-both (λ c. (question4 (length c ∷ [])).answer) (λ c. (question6 side (coordinates_of c)).answer) cs
    ∙ sym (ap₂ ◌&&◌ (counts_asked cs) (coordinates_asked (between (pos 0) (pos (steps_per_pixel * side))) cs))

-- questions 4 and 6, of all contours at once
both : (side : ℕ) (cs : List Contour) → (every (is_contour side) cs ≡ true) ↔ (Yes (question4 (counts_of cs)) × Yes (question6 side (coordinates cs)))
both side cs =
    let m = and_true_means (question4 (counts_of cs)).answer (question6 side (coordinates cs)).answer in
    (λ e. m.0 (sym (contours_asked side cs) ∙ e), λ h. contours_asked side cs ∙ m.1 h)

abbrev Right : Site → List Contour → List ℤ → Type 0
Right site cs before = SiteYes site × Yes (question2 (tile_side site) before) × (every (is_contour (reach site)) cs ≡ true) × (tally length cs ≤ most_edges)

pub written_accepted : (site : Site) (cs : List Contour) (before : List ℤ)
    → ((site_result site (coordinates cs) (counts_of cs) before).number ≡ 0) ↔ Right site cs before
written_accepted (Alone side) cs before =
    let all = (building_refusals side (coordinates cs) (counts_of cs) before).accepted in
    let few = question5_means (counts_of cs) in
    let enough = (question3_means (coordinates cs) (counts_of cs)).1 (coordinates-length cs) in (
      λ done. (let y = all.0 done in
          (y.0, y.1.0, (both side cs).1 (y.1.1.0, y.1.1.1.1.1.0), subst (λ n. n ≤ most_edges) (contours_edges cs) (few.0 y.1.1.1.0))),
      λ h. (let right = (both side cs).0 h.2 in
          all.1 (h.0, (h.1, (right.0, (few.1 (subst⁻¹ (λ n. n ≤ most_edges) (contours_edges cs) h.3), (enough, (right.1, tt))))))),
    )
written_accepted (OnSheet place) cs before =
    let all = (sheet_refusals place (coordinates cs) (counts_of cs) None before).accepted in
    let few = question5_means (counts_of cs) in
    let enough = (question3_means (coordinates cs) (counts_of cs)).1 (coordinates-length cs) in
    let still = ap (λ l. (question6 place.sheet l).answer) (placed_none (coordinates cs)) in (
      λ done. (let y = all.0 done in (
        (y.0, y.1.0),
        y.1.1.0,
        (both place.sheet cs).1 (y.1.1.1.0, sym still ∙ y.1.1.1.1.1.1.1.0),
        subst (λ n. n ≤ most_edges) (contours_edges cs) (few.0 y.1.1.1.1.0),
      )),
      λ h. (let right = (both place.sheet cs).0 h.2 in
          all.1 (
            h.0.0,
            (
              h.0.1,
              (h.1, (right.0, (few.1 (subst⁻¹ (λ n. n ≤ most_edges) (contours_edges cs) h.3), (enough, (refl, (still ∙ right.1, tt)))))),
            ),
          )),
    )

pub site_built : (site : Site) (points : List ℤ) (counts : List ℕ) (before : List ℤ) → (site_result site points counts before).number ≡ 0
    → (site_table site points counts before ≡ entries_at site (edges_of points counts)) × ((site_result site points counts before).edges ≡ edge_count counts)
site_built (Alone side) points counts before done = (if_done_lem _ before done, if_done_lem _ 0 done)
site_built (OnSheet place) points counts before done =
    (if_done_lem _ before done ∙ ap (λ l. tile_entries place (edges_of l counts)) (placed_none points), if_done_lem _ 0 done)

pub contours_within : (site : Site) → SiteYes site → (cs : List Contour) → every (is_contour (reach site)) cs ≡ true
    → ClosedOnTile (depth_of (reach site)) (outline_edges cs)
contours_within site y cs right =
    let depth = depth_of (reach site) in
    let on = contours_of_on_tile depth (counts_of cs) (coordinates cs) (on_side (reach site) (coordinates cs) (reach_power site y) ((both (reach site) cs).0 right).1) in
    outline_on_tile depth cs (subst (λ ds. All (All (OnTile depth)) ds) (contours_back cs) on)
