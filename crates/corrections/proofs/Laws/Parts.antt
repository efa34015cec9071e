-- The values of contours of whatever kind add up to the table of all their edges.
--
-- Main results
--   cells_at site                 how many entries the table has
--   part_of edges site c i        what a contour adds to entry i, by its edges
--   parts_table                   so contours' values, added to a table of zeros, make the table of their edges, one after the other
--   values_within                 the values of edges in view are at most what the most edges add
--   added_in_range                two such tables, added, are in question 9's range
use Rattle.std.specs.Prelude.{◌≡◌, refl, ℕ, ◌+◌, ◌*◌, ◌<◌, ◌≤◌, length, get_or, replicate, ℤ, pos, ◌*ℤ◌}
use Rattle.std.proofs.Math.Path.{sym, ap₂}
use Rattle.std.proofs.Common.{◌∙◌, ap, subst, mul-le-mul_right, lit≤}
use mathlib.Core.List.{List, [], ◌∷◌}
use Rattle.std.proofs.Math.IntN.{◌+ℤ◌}
use Rattle.integers.specs.Units.{most_edges, entry_limit, detail_limit, built_entry_limit}
use Rattle.integers.proofs.Theorems.Order.{pos-≤ℤ}
use Rattle.integers.specs.Within.{Within}
use Rattle.integers.proofs.Theorems.Within.{within_is, within_le, within_zero, within_add}
use Rattle.integers.proofs.Theorems.Ring.{read, ring}
use Rattle.integers.specs.ListSum.{All, total, joined}
use Rattle.integers.proofs.Theorems.ListSum.{get_d_each}
use Rattle.edge.specs.declared.Edge.{Edge}
use Rattle.rasterize.specs.Added.{added, entry_of}
use Rattle.rasterize.specs.Views.{view_table, InView}
use Rattle.rasterize.proofs.Laws.Adding.{added-length, added_entry, added_same, added-zeros}
use Rattle.rasterize.proofs.Laws.Spare.{signed_within}
use Rattle.rasterize.proofs.Laws.Sums.{entry_of_append, entry_of-total, outline_entry_within}
use Rattle.tile.specs.Questions.{Yes, depth_of, question9}
use Rattle.tile.proofs.Laws.Sides.{side_cells}
use Rattle.tile.proofs.Laws.Answers.{in-range-entries}
use Rattle.sheet.specs.declared.Site.{Site}
use Rattle.sheet.specs.Sites.{tile_side, SiteYes, view_at, entries_at}
use Rattle.sheet.proofs.Laws.SiteEdges.{site_side, site_entries}

abbrev pub cells_at : Site → ℕ
cells_at site = tile_side site * tile_side site

module _ {C : Type 0} (edges : C → List Edge) (site : Site) where
  abbrev pub part_of : C → ℕ → ℤ
  part_of c i = get_or (entries_at site (edges c)) i (pos 0)

  abbrev depth : ℕ
  depth = depth_of (tile_side site)

  abbrev entry : List C → ℕ → ℤ
  entry cs i = entry_of depth (view_table (view_at site) depth (joined edges cs)) i

  part_is : (c : C) (i : ℕ) → part_of c i ≡ entry_of depth (view_table (view_at site) depth (edges c)) i
  part_is c i = ap (λ l. get_or l i (pos 0)) (sym (site_entries site (edges c)))

  parts_are : (cs : List C) (i : ℕ) → total (λ c. part_of c i) cs ≡ entry cs i
  unfolding total joined
  parts_are [] i = sym (entry_of-total (view_at site) depth [] i)
  parts_are (c ∷ cs) i = ap₂ ◌+ℤ◌ (part_is c i) (parts_are cs i) ∙ sym (entry_of_append (view_at site) depth (edges c) (joined edges cs) i)

  pub parts_table : (cs : List C) → SiteYes site
      → added (replicate (cells_at site) (pos 0)) (λ i. total (λ c. part_of c i) cs) ≡ entries_at site (joined edges cs)
  parts_table cs y =
      added_same (replicate (cells_at site) (pos 0)) (λ i. total (λ c. part_of c i) cs) (λ i. pos 1 *ℤ entry cs i) (λ i h. parts_are cs i ∙ once (entry cs i))
      ∙ ap (λ n. added (replicate n (pos 0)) (λ i. pos 1 *ℤ entry cs i)) (side_cells (tile_side site) (site_side site y))
      ∙ added-zeros depth (view_table (view_at site) depth (joined edges cs))
      ∙ site_entries site (joined edges cs)
    where
      once : (x : ℤ) → x ≡ pos 1 *ℤ x
      once x = ring (x ∷ []) (search read depth 40) tt

pub values_within : (site : Site) (es : List Edge) {sign : ℤ} → Within (pos 1) sign → All (InView (view_at site) (depth_of (tile_side site))) es → length es ≤ most_edges
    → (i : ℕ) → Within (pos built_entry_limit) (sign *ℤ get_or (entries_at site es) i (pos 0))
values_within site es s view few i =
    signed_within s
    (within_is refl (ap (λ l. get_or l i (pos 0)) (site_entries site es))
    (within_le (pos-≤ℤ (mul-le-mul_right detail_limit few)) (outline_entry_within (view_at site) (depth_of (tile_side site)) es view i)))

pub added_in_range : (table : List ℤ) (g : ℕ → ℤ) → ((i : ℕ) → Within (pos built_entry_limit) (get_or table i (pos 0))) → ((i : ℕ) → Within (pos built_entry_limit) (g i))
    → Yes (question9 (added table g))
added_in_range table g t w =
    let large : built_entry_limit + built_entry_limit ≤ entry_limit = lit≤ tt in
    in-range-entries (added table g)
    (record {
      each = get_d_each (Within (pos entry_limit)) (pos 0) (within_zero entry_limit) (added table g)
          (λ i h. within_le (pos-≤ℤ large) (within_is refl (sym (added_entry table g i (subst (λ n. i < n) (added-length table g) h))) (within_add (t i) (w i))));
    })
