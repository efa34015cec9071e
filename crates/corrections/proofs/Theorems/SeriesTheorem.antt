-- The law of a series of corrections holds.
--
-- Main results
--   holds-empty                  where a series may begin: the empty tile, alone or on a sheet,
--   holds_built, holds-placed    what building leaves, without and with a placement,
--   holds_on_sheet               and what building on a sheet leaves
--   series, series-from          after a series from the empty tile, or from one that holds contours, the tile holds what remains
use Rattle.std.specs.Prelude.{◌≡◌, refl, List, [], ◌∷◌, ℕ, ◌*◌, length, ℤ}
use Rattle.std.proofs.Common.{sym, ◌∙◌, ap, ap₂, subst, arith}
use Rattle.std.proofs.Math.Path.{subst⁻¹}
use Rattle.integers.specs.ListSum.{tally}
use Rattle.placement.specs.declared.Placement.{Placement}
use Rattle.placement.specs.declared.Placement.TheVariants.{None}
use Rattle.placement.specs.Placed.{placed}
use Rattle.placement.proofs.Laws.PlacedPoints.{placed_none, placed-length}
use Rattle.accuracy.specs.Outline.{contours_of, edge_count}
use Rattle.tile.specs.Questions.{Yes, question6, question12}
use Rattle.tile.specs.Outcomes.{build_refusal, build_result, build_table, placed_refusal, placed_result, placed_table}
use Rattle.tile.proofs.Theorems.Refusals.{placed_refusals, question3_means}
use Rattle.tile.proofs.Theorems.PlacedOutline.{placed_number, placed_as_built}
use Rattle.tile.specs.Written.{Contour, coordinates, counts_of}
use Rattle.tile.proofs.Laws.IfDone.{if_done_lem, if_refused}
use Rattle.tile.proofs.Laws.Accepted.{accepted}
use Rattle.tile.proofs.Laws.Written.{coordinates-back}
use Rattle.sheet.specs.declared.SheetTile.{SheetTile}
use Rattle.sheet.specs.declared.Site.{Site}
use Rattle.sheet.specs.declared.Site.TheVariants.{Alone, OnSheet}
use Rattle.sheet.specs.SheetOutcomes.{sheet_refusal, sheet_result, sheet_table}
use Rattle.sheet.proofs.Theorems.SheetRefusals.{sheet_refusals}
use Rattle.sheet.proofs.Theorems.SheetTheorem.{sheet_accepted}
use Rattle.sheet.specs.Sites.{tile_side, SiteYes, site_result, site_table}
use Rattle.corrections.specs.Corrections.{Tile, Call, tile_of, contour_of, part, correct_refusal, corrected}
use Rattle.corrections.specs.Holding.{empty_tile, HoldsContours}
use Rattle.corrections.specs.Series.{run, corrections, IsAlone, OneSite, Series}
use Rattle.corrections.proofs.Laws.Accepted.{site_built}
use Rattle.corrections.proofs.Laws.AddingUp.{adds_up_none}
use Rattle.corrections.proofs.Laws.Held.{reordered, holds_of_sums, sums_of_built, sums_of_holds}
use Rattle.corrections.proofs.Laws.Parts.{cells_at}
use Rattle.corrections.proofs.Laws.Kept.{holds_put, holds_taken, same_side}
use Rattle.corrections.proofs.Laws.Runs.{Keeps, run-keeps}

-- ---- where a series may begin
pub holds-empty : (site : Site) → SiteYes site → HoldsContours site [] (empty_tile (tile_side site))
unfolding tally
holds-empty site y = holds_of_sums (record { is_site = y; adds_up = adds_up_none (cells_at site) (part site) length; few = omega arith; right = refl })

-- what building these contours leaves
holds_at : (site : Site) (counts : List ℕ) (before points : List ℤ) → length points ≡ 2 * edge_count counts → (site_result site points counts before).number ≡ 0
    → HoldsContours site (contours_of counts points) (tile_of (site_table site points counts before) (site_result site points counts before).edges)
holds_at site counts before points long done =
    let same = coordinates-back counts points long in
    let again : (site_result site (coordinates (contours_of counts points)) (counts_of (contours_of counts points)) before).number ≡ 0 =
    ap₂ (λ l m. (site_result site l m before).number) same.0 same.1 ∙ done in
    let built = site_built site points counts before done in
    holds_of_sums (sums_of_built site (contours_of counts points) _ before again built.0 (built.1 ∙ sym (ap edge_count same.1)))

module _ (side : ℕ) (counts : List ℕ) (before : List ℤ) where
  pub holds_built : (points : List ℤ) → build_refusal side points counts before ≡ 0
      → HoldsContours (Alone side) (contours_of counts points) (tile_of (build_table side points counts before) (build_result side points counts before).edges)
  holds_built points done = holds_at (Alone side) counts before points (accepted side points counts before done).points_length done

  pub holds-placed : (points : List ℤ) (placement : Placement) → placed_refusal side points counts placement before ≡ 0
      → HoldsContours (Alone side) (contours_of counts (placed placement points))
      (tile_of (placed_table side points counts placement before) (placed_result side points counts placement before).edges)
  holds-placed points placement done =
      let asked : Yes (question12 placement points) = ((placed_refusals side points counts placement before).accepted.0 done).1.1.1.1.1.0 in
      let same = placed_as_built side points counts before placement asked in
      subst⁻¹ (HoldsContours (Alone side) (contours_of counts (placed placement points))) (ap₂ tile_of same.1 (ap (λ b. b.edges) same.0))
      (holds_built (placed placement points) (sym (placed_number side points counts before placement asked) ∙ done))

-- on a sheet, with a placement: building the points as placed, without one, leaves the same
module _ (place : SheetTile) (counts : List ℕ) (before points : List ℤ) (placement : Placement) (done : sheet_refusal place points counts placement before ≡ 0) where
  abbrev drawn : List ℤ
  drawn = placed placement points

  long : length drawn ≡ 2 * edge_count counts
  long = placed-length placement points ∙ (sheet_accepted place points counts placement before done).points_length

  done_again : sheet_refusal place drawn counts None before ≡ 0
  done_again =
      let yes = (sheet_refusals place points counts placement before).accepted.0 done in
      (sheet_refusals place drawn counts None before).accepted.1 (
        yes.0,
        (
          yes.1.0,
          (
            yes.1.1.0,
            (
              yes.1.1.1.0,
              (
                yes.1.1.1.1.0,
                (
                  (question3_means drawn counts).1 long,
                  (refl, (ap (λ l. (question6 place.sheet l).answer) (placed_none drawn) ∙ yes.1.1.1.1.1.1.1.0, tt)),
                ),
              ),
            ),
          ),
        ),
      )

  pub holds_on_sheet : HoldsContours (OnSheet place) (contours_of counts drawn)
      (tile_of (sheet_table place points counts placement before) (sheet_result place points counts placement before).edges)
  holds_on_sheet =
      let again = site_built (OnSheet place) drawn counts before done_again in
      let table : sheet_table place points counts placement before ≡ sheet_table place drawn counts None before = if_done_lem _ before done ∙ sym again.0 in
      let edges : (sheet_result place points counts placement before).edges ≡ (sheet_result place drawn counts None before).edges = if_done_lem _ 0 done ∙ sym again.1 in
      subst⁻¹ (HoldsContours (OnSheet place) (contours_of counts drawn)) (ap₂ tile_of table edges) (holds_at (OnSheet place) counts before drawn long done_again)

-- ---- the series: a call that belongs to it and is not refused has the tile's site
same_site : (site : Site) (k : Call) (t : Tile) {cs : List Contour} → OneSite site k → correct_refusal k t ≡ 0 → HoldsContours site cs t → k.site ≡ site
same_site (OnSheet place) k t one done h = one
same_site (Alone side) k t {cs} one done h = alone k.site one (same_side k t done h)
  where
    alone : (other : Site) → IsAlone other → tile_side other ≡ side → other ≡ Alone side
    alone (Alone n) one e = ap Alone e
    alone (OnSheet place) one e = absurd one

keeps : (site : Site) → Keeps corrections (OneSite site) (HoldsContours site)
keeps site = record {
  any_order = λ t p h. holds_of_sums (reordered p (sums_of_holds h));
  after_refused = λ k t n. if_refused _ t n;
  after_put = λ k t {cs} one done e h.
      let same = same_site site k t one done h in
      subst (λ (s : Site). HoldsContours s (contour_of k ∷ cs) (corrected k t)) same (holds_put k t done e (subst⁻¹ (λ (s : Site). HoldsContours s cs t) same h));
  after_taken = λ k t {others} one done e h.
      let same = same_site site k t one done h in
      subst (λ (s : Site). HoldsContours s others (corrected k t)) same
      (holds_taken k t done e (subst⁻¹ (λ (s : Site). HoldsContours s (contour_of k ∷ others) t) same h));
}

pub series-from : {site : Site} {t : Tile} {cs : List Contour} {ks : List Call} {rest : List Contour} → HoldsContours site cs t → Series site t cs ks rest
    → HoldsContours site rest (run corrections ks t)
series-from {site} h l = run-keeps (keeps site) l.0 l.1 h

pub series : (site : Site) {ks : List Call} {rest : List Contour} → SiteYes site → Series site (empty_tile (tile_side site)) [] ks rest
    → HoldsContours site rest (run corrections ks (empty_tile (tile_side site)))
series site y l = series-from (holds-empty site y) l
