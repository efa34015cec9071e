-- A tile holds contours exactly where their values add up to its table and their edges to its record, each of them is one that building accepts, and they
-- have no more edges than the most. So what a call does with a tile that holds contours is a matter of sums (`AddingUp`).
--
-- Main results
--   Sums                         what is said of the sums
--   reordered                    in any order
--   holds_of_sums, sums_of_holds it is what `HoldsContours` says
--   sums_of_built                and what one accepted building leaves
--   sums_length                  it has them
--   sums_within, sums_in_range   the table's entries are at most what the most edges add, and so in question 9's range
use Rattle.std.specs.Prelude.{◌≡◌, refl, true, ℕ, ◌≤◌, length, get_or, replicate, ℤ, pos}
use Rattle.std.proofs.Common.{sym, ◌∙◌, ap, ap₂, subst, arith, lit≤}
use Rattle.std.proofs.Math.Path.{subst⁻¹}
use mathlib.Core.List.Perm
use mathlib.Core.List.{List, [], ◌∷◌, ◌++◌, Perm}
use Rattle.std.proofs.lemmas.List.{length-replicate}
use Rattle.integers.specs.Units.{most_edges, entry_limit, built_entry_limit}
use Rattle.integers.proofs.Theorems.Order.{pos-≤ℤ}
use Rattle.integers.specs.Within.{Within}
use Rattle.integers.proofs.Theorems.Within.{within_le}
use Rattle.integers.specs.ListSum.{total, tally, joined}
use Rattle.integers.proofs.Theorems.ListSum.{tally_perm}
use Rattle.integers.specs.Tests.{every}
use Rattle.integers.proofs.Theorems.Every.{every_perm}
use Rattle.accuracy.specs.Outline.{edge_count, contour_edges, outline_edges}
use Rattle.accuracy.proofs.Laws.Contours.{outline_edges-length}
use Rattle.accuracy.proofs.Laws.Denominator.{denominator-pos}
use Rattle.rasterize.specs.Added.{added}
use Rattle.rasterize.proofs.Laws.Adding.{added-length}
use Rattle.tile.specs.Questions.{Yes, question9}
use Rattle.tile.proofs.Theorems.Refusals.{question2_means}
use Rattle.tile.specs.Faithful.{Drawn, FaithfulTo}
use Rattle.tile.proofs.Theorems.Theorem.{table_drawn}
use Rattle.tile.specs.Written.{Contour, coordinates, counts_of}
use Rattle.tile.proofs.Laws.Answers.{in-range-entries}
use Rattle.tile.proofs.Laws.Accepted.{AcceptedEdges}
use Rattle.tile.proofs.Laws.BuiltTable.{table_within}
use Rattle.tile.proofs.Laws.Written.{contours_back, contours_edges}
use Rattle.sheet.specs.declared.Site.{Site}
use Rattle.sheet.specs.Sites.{tile_side, reach, SiteYes, seen_at, root_rule, root_at, twice_limit_at, entries_at, site_result, site_table}
use Rattle.sheet.proofs.Laws.SiteEdges.{site_accepted, entries_with, seen_length}
use Rattle.corrections.specs.Corrections.{Tile, part}
use Rattle.corrections.specs.Holding.{built_as, HoldsContours}
use Rattle.corrections.proofs.Laws.Accepted.{is_contour, written_accepted, site_built, contours_within}
use Rattle.corrections.proofs.Laws.AddingUp.{AddsUp, adds_up_perm}
use Rattle.corrections.proofs.Laws.Parts.{cells_at, parts_table}

pub record Sums (site : Site) (cs : List Contour) (t : Tile) : Type 0 where
  pub is_site : SiteYes site
  pub adds_up : AddsUp (cells_at site) (part site) length cs t
  pub few : tally length cs ≤ most_edges
  pub right : every (is_contour (reach site)) cs ≡ true

-- ---- the table of contours is the sum of their values
outline_joined : (cs : List Contour) → joined contour_edges cs ≡ outline_edges cs
unfolding joined outline_edges
outline_joined [] = refl
outline_joined (c ∷ cs) = ap (λ es. contour_edges c ++ es) (outline_joined cs)

contours_table : (site : Site) (cs : List Contour) → SiteYes site
    → added (replicate (cells_at site) (pos 0)) (λ i. total (λ c. part site c i) cs) ≡ entries_at site (outline_edges cs)
contours_table site cs y = parts_table contour_edges site cs y ∙ ap (entries_at site) (outline_joined cs)

-- ---- any order
pub reordered : {site : Site} {cs ds : List Contour} {t : Tile} → Perm cs ds → Sums site cs t → Sums site ds t
reordered {site} p s = record {
  is_site = s.is_site;
  adds_up = adds_up_perm (cells_at site) (part site) length p s.adds_up;
  few = subst (λ n. n ≤ most_edges) (tally_perm length p) s.few;
  right = sym (every_perm (is_contour (reach site)) p) ∙ s.right;
}

-- ---- from the sums to what building leaves
module _ {site : Site} {cs : List Contour} {t : Tile} (s : Sums site cs t) where
  building_accepts : (before : List ℤ) → length before ≡ cells_at site → (site_result site (coordinates cs) (counts_of cs) before).number ≡ 0
  building_accepts before e = (written_accepted site cs before).1 (s.is_site, (question2_means (tile_side site) before).1 e, s.right, s.few)

  table_is : t.table ≡ entries_at site (outline_edges cs)
  table_is = s.adds_up.table_is ∙ contours_table site cs s.is_site

  table_built : (before : List ℤ) → length before ≡ cells_at site → site_table site (coordinates cs) (counts_of cs) before ≡ t.table
  table_built before e =
      (site_built site (coordinates cs) (counts_of cs) before (building_accepts before e)).0
      ∙ ap (λ ds. entries_at site (outline_edges ds)) (contours_back cs) ∙ sym table_is

  count_built : (before : List ℤ) → length before ≡ cells_at site → site_result site (coordinates cs) (counts_of cs) before ≡ built_as 0 t.edges
  count_built before e =
      let done = building_accepts before e in
      ap₂ built_as done ((site_built site (coordinates cs) (counts_of cs) before done).1 ∙ contours_edges cs ∙ sym s.adds_up.edges_is)

  abbrev blank : List ℤ
  blank = replicate (cells_at site) (pos 0)

  few_edges : length (outline_edges cs) ≤ most_edges
  few_edges = omega (arith, outline_edges-length cs, s.few)

  few-accepted : AcceptedEdges (tile_side site) (root_rule site) (twice_limit_at site) (seen_at site (outline_edges cs))
  few-accepted = site_accepted site s.is_site (outline_edges cs) (contours_within site s.is_site cs s.right) few_edges

  is_faithful : FaithfulTo (tile_side site) (seen_at site (outline_edges cs)) (root_at site (outline_edges cs)) (twice_limit_at site) 0 t.edges t.table
  is_faithful = record {
    denominator-positive = denominator-pos (seen_at site (outline_edges cs));
    counted = λ _. seen_length site (outline_edges cs) ∙ outline_edges-length cs ∙ sym s.adds_up.edges_is;
    drawn = λ _ level shallow.
        subst (λ (l : List ℤ). Drawn (tile_side site) (seen_at site (outline_edges cs)) (root_at site (outline_edges cs)) (twice_limit_at site) l level)
        (entries_with site (outline_edges cs) ∙ sym table_is) (table_drawn few-accepted level shallow);
  }

  pub sums_length : length t.table ≡ cells_at site
  sums_length = ap length s.adds_up.table_is ∙ added-length blank _ ∙ length-replicate (cells_at site) (pos 0)

  -- no entry passes 2^38
  pub sums_within : (i : ℕ) → Within (pos built_entry_limit) (get_or t.table i (pos 0))
  sums_within i =
      subst⁻¹ (λ l. Within (pos built_entry_limit) (get_or l i (pos 0))) (table_is ∙ sym (entries_with site (outline_edges cs))) (table_within few-accepted i)

  pub sums_in_range : Yes (question9 t.table)
  sums_in_range = let larger : built_entry_limit ≤ entry_limit = lit≤ tt in in-range-entries t.table (record { each = λ i. within_le (pos-≤ℤ larger) (sums_within i) })

pub holds_of_sums : {site : Site} {cs : List Contour} {t : Tile} → Sums site cs t → HoldsContours site cs t
holds_of_sums s = record {
  count_built = λ order p. count_built (reordered p s);
  table_built = λ order p. table_built (reordered p s);
  faithful = λ order p. is_faithful (reordered p s);
}

-- ---- and back, from one building that was accepted
pub sums_of_built : (site : Site) (cs : List Contour) (t : Tile) (before : List ℤ) → (site_result site (coordinates cs) (counts_of cs) before).number ≡ 0
    → t.table ≡ entries_at site (outline_edges cs) → t.edges ≡ edge_count (counts_of cs) → Sums site cs t
sums_of_built site cs t before done table edges =
    let y = (written_accepted site cs before).0 done in
    record {
      is_site = y.0;
      adds_up = record { table_is = table ∙ sym (contours_table site cs y.0); edges_is = edges ∙ contours_edges cs };
      few = y.3;
      right = y.2;
    }

-- by building in the order that they are in
pub sums_of_holds : {site : Site} {cs : List Contour} {t : Tile} → HoldsContours site cs t → Sums site cs t
sums_of_holds {site} {cs} {t} h =
    let before = replicate (cells_at site) (pos 0) in
    let long = length-replicate (cells_at site) (pos 0) in
    let result = h.count_built cs (Perm.refl cs) before long in
    let done : (site_result site (coordinates cs) (counts_of cs) before).number ≡ 0 = ap (λ b. b.number) result in
    let built = site_built site (coordinates cs) (counts_of cs) before done in
    sums_of_built site cs t before done
    (sym (h.table_built cs (Perm.refl cs) before long) ∙ built.0 ∙ ap (λ ds. entries_at site (outline_edges ds)) (contours_back cs))
    (sym (ap (λ b. b.edges) result) ∙ built.1)
