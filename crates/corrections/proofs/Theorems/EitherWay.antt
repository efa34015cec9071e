-- Tiles that hold contours, alone or on a sheet, and the same ones traced the other way round (02, P4): the edges of one those of the other, each walked
-- backwards, in whatever order. As building and lawful corrections leave them (`holds_built`, `holds_on_sheet`, `series` of `SeriesTheorem`), the records are the
-- same, the tables opposite, and every grey is the same.
--
-- Main results
--   either_way_held_edges,
--   either_way_held_table,
--   either_way_held_greys
use Rattle.std.specs.Prelude.{◌≡◌, refl, List, ℕ, ◌*◌, replicate, ℤ, pos}
use Rattle.std.proofs.Common.{sym, ◌∙◌, ap, subst₂}
use mathlib.Core.List.Perm
use Rattle.std.proofs.lemmas.List.{length-replicate}
use Rattle.edge.specs.declared.Edge.{Edge}
use Rattle.placement.specs.declared.Placement.TheVariants.{None}
use Rattle.placement.proofs.Laws.PlacedPoints.{placed_none}
use Rattle.accuracy.specs.Outline.{outline_edges}
use Rattle.accuracy.proofs.Laws.Reversal.{EdgesReversed, length-reversed, from_tile-reversed}
use Rattle.tile.specs.Questions.{depth_of}
use Rattle.tile.specs.Outcomes.{edges_of, greys_picture}
use Rattle.tile.specs.EitherWay.{opposite}
use Rattle.tile.proofs.Theorems.EitherWay.{opposite_greys, either_way_table}
use Rattle.tile.specs.Written.{Contour, coordinates, counts_of}
use Rattle.tile.proofs.Laws.Written.{contours_back}
use Rattle.sheet.specs.declared.Site.{Site}
use Rattle.sheet.specs.declared.Site.TheVariants.{Alone, OnSheet}
use Rattle.sheet.specs.Sites.{tile_side, seen_at, site_result, site_table}
use Rattle.sheet.proofs.Theorems.EitherWayOnSheet.{either_way_on_sheet_table}
use Rattle.corrections.specs.Corrections.{Tile}
use Rattle.corrections.specs.Holding.{HoldsContours}

-- ---- at a site of either kind
seen_back : (site : Site) (es : List Edge) {fs : List Edge} → EdgesReversed es fs → EdgesReversed (seen_at site es) (seen_at site fs)
seen_back (Alone side) es back = back
seen_back (OnSheet place) es back = from_tile-reversed (depth_of place.side) place.column place.row es back

site_back : (site : Site) (points : List ℤ) (counts : List ℕ) (points' : List ℤ) (counts' : List ℕ) (before : List ℤ)
    → (site_result site points counts before).number ≡ 0 → (site_result site points' counts' before).number ≡ 0
    → EdgesReversed (edges_of points counts) (edges_of points' counts') → site_table site points' counts' before ≡ opposite (site_table site points counts before)
site_back (Alone side) points counts points' counts' before done done' back = either_way_table side points counts before points' counts' before done done' back
site_back (OnSheet place) points counts points' counts' before done done' back =
    either_way_on_sheet_table place points counts None before points' counts' None before done
    (subst₂ (λ k l. EdgesReversed (edges_of k counts) (edges_of l counts')) (sym (placed_none points)) (sym (placed_none points')) back) done'

module _ (site : Site) (cs ds : List Contour) (t u : Tile) (held : HoldsContours site cs t) (held' : HoldsContours site ds u)
    (back : EdgesReversed (outline_edges cs) (outline_edges ds)) where
  pub either_way_held_edges : u.edges ≡ t.edges
  either_way_held_edges =
      sym ((held'.faithful ds (Perm.refl ds)).counted refl)
      ∙ length-reversed (seen_at site (outline_edges cs)) (seen_back site (outline_edges cs) back)
      ∙ (held.faithful cs (Perm.refl cs)).counted refl

  pub either_way_held_table : u.table ≡ opposite t.table
  either_way_held_table =
      let blank = replicate (tile_side site * tile_side site) (pos 0) in
      let long = length-replicate (tile_side site * tile_side site) (pos 0) in
      sym (held'.table_built ds (Perm.refl ds) blank long)
      ∙ site_back site (coordinates cs) (counts_of cs) (coordinates ds) (counts_of ds) blank
      (ap (λ b. b.number) (held.count_built cs (Perm.refl cs) blank long))
      (ap (λ b. b.number) (held'.count_built ds (Perm.refl ds) blank long))
      (subst₂ (λ k l. EdgesReversed (outline_edges k) (outline_edges l)) (sym (contours_back cs)) (sym (contours_back ds)) back)
      ∙ ap opposite (held.table_built cs (Perm.refl cs) blank long)

  pub either_way_held_greys : (level : ℕ) (picture : List ℕ)
      → greys_picture (tile_side site) level u.table picture ≡ greys_picture (tile_side site) level t.table picture
  either_way_held_greys level picture =
      ap (λ l. greys_picture (tile_side site) level l picture) either_way_held_table ∙ opposite_greys (tile_side site) t.table level picture
