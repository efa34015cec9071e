-- A call that is not refused takes a tile that holds contours to one that holds one more, or one fewer.
--
-- Main results
--   corrected_is                 the tile that such a call leaves
--   holds_put, holds_taken       what it holds
--   same_side                    it has the tile's side
--   left_in_range                the table that a call would leave is in question 9's range
use Rattle.std.specs.Prelude.{◌≡◌, List, ◌∷◌, ◌+◌, ◌≤◌, ◌*ℤ◌}
use Rattle.std.proofs.Common.{sym, ◌∙◌, arith}
use Rattle.std.proofs.Math.Path.{ap₂, subst, subst⁻¹}
use Rattle.std.proofs.Math.Bool.{◌&&◌}
use Rattle.std.proofs.Math.ListN.{length}
use Rattle.integers.specs.Units.{most_edges}
use Rattle.integers.specs.ListSum.{tally}
use Rattle.integers.specs.Tests.{every}
use Rattle.integers.proofs.Theorems.Tests.{and_true_means}
use Rattle.rasterize.specs.Added.{added}
use Rattle.tile.specs.Questions.{Yes, question9}
use Rattle.tile.proofs.Theorems.Refusals.{question2_means}
use Rattle.tile.specs.Written.{Contour}
use Rattle.tile.proofs.Laws.IfDone.{if_done_lem}
use Rattle.tile.proofs.Laws.Sides.{square_injective}
use Rattle.sheet.specs.declared.Site.{Site}
use Rattle.sheet.specs.Sites.{tile_side, reach}
use Rattle.corrections.specs.declared.Change.{Change}
use Rattle.corrections.specs.declared.Change.TheVariants.{Put, Take}
use Rattle.corrections.specs.Corrections.{Tile, Call, tile_of, contour_of, part, sign_of, already_in, would_leave, edges_after, correct_refusal, corrected}
use Rattle.corrections.specs.Holding.{HoldsContours}
use Rattle.corrections.proofs.Laws.Answered.{AskedYes, call_accepted}
use Rattle.corrections.proofs.Laws.Accepted.{is_contour}
use Rattle.corrections.proofs.Laws.AddingUp.{AddsUp, adds_up_put, adds_up_taken}
use Rattle.corrections.proofs.Laws.Held.{Sums, holds_of_sums, sums_of_holds, sums_length, sums_within}
use Rattle.corrections.proofs.Laws.Parts.{cells_at, added_in_range}
use Rattle.corrections.proofs.Laws.AskedContour.{contour_count, few_edges, contour_accepted, part_within}

module _ (k : Call) (t : Tile) (done : correct_refusal k t ≡ 0) where
  yes : AskedYes k t
  yes = ((call_accepted k t).0 done).about

  count_is : length (contour_of k) ≡ k.count
  count_is = contour_count k yes.yes3

  -- by the contour's own number of edges
  pub corrected_is : (c : Change) → k.change ≡ c
      → corrected k t ≡ tile_of (added t.table (λ i. sign_of c *ℤ part k.site (contour_of k) i)) (edges_after c (length (contour_of k)) t.edges)
  corrected_is c e =
      if_done_lem _ t done
      ∙ ap₂ (λ c n. tile_of (added t.table (λ i. sign_of c *ℤ part k.site (contour_of k) i)) (edges_after c n t.edges)) e (sym count_is)

  pub holds_put : k.change ≡ Put → {cs : List Contour} → HoldsContours k.site cs t → HoldsContours k.site (contour_of k ∷ cs) (corrected k t)
  unfolding tally
  holds_put e {cs} h =
      let s = sums_of_holds h in
      let room : t.edges + k.count ≤ most_edges = subst (λ c. already_in c t.edges + k.count ≤ most_edges) e (few_edges k t yes) in
      holds_of_sums
      (record {
        is_site = s.is_site;
        adds_up = subst⁻¹ (AddsUp (cells_at k.site) (part k.site) length (contour_of k ∷ cs)) (corrected_is Put e)
            (adds_up_put (cells_at k.site) (part k.site) length (contour_of k) s.adds_up);
        few = omega (arith, room, s.adds_up.edges_is, count_is);
        right = ap₂ ◌&&◌ (contour_accepted k t yes) s.right;
      })

  pub holds_taken : k.change ≡ Take → {others : List Contour} → HoldsContours k.site (contour_of k ∷ others) t → HoldsContours k.site others (corrected k t)
  unfolding tally
  holds_taken e {others} h =
      let s = sums_of_holds h in
      holds_of_sums
      (record {
        is_site = s.is_site;
        adds_up = subst⁻¹ (AddsUp (cells_at k.site) (part k.site) length others) (corrected_is Take e)
            (adds_up_taken (cells_at k.site) (part k.site) length (contour_of k) s.adds_up);
        few = omega (arith, s.few);
        right = ((and_true_means (is_contour (reach k.site) (contour_of k)) (every (is_contour (reach k.site)) others)).0 s.right).1;
      })

  -- A call with another side is refused: the table's length tells.
  pub same_side : {site : Site} {cs : List Contour} → HoldsContours site cs t → tile_side k.site ≡ tile_side site
  same_side {site} h =
      square_injective (tile_side k.site) (tile_side site) (sym ((question2_means (tile_side k.site) t.table).0 yes.yes2) ∙ sums_length (sums_of_holds h))

-- ---- the tile's entries and the contour's are each at most what the most edges add; whichever sites they are of
pub left_in_range : (k : Call) (t : Tile) {site : Site} {cs : List Contour} → AskedYes k t → Sums site cs t → Yes (question9 (would_leave k t))
left_in_range k t yes s = added_in_range t.table (λ i. sign_of k.change *ℤ part k.site (contour_of k) i) (sums_within s) (part_within k t yes)
