-- Room for a contour in a table in range, and for taking it out again.
--
-- Main results
--   amended_edges                the edges that the contour is drawn as
--   on_sheet, in_view            its coordinates are on a sheet; its edges are in the tile's view
--   fits_contour, fits_again     there is room for them, and for taking them out again
--   opposite-fits, back_within   the opposite of a sign is one
use mathlib.Core.Path.{◌≡◌, subst}
use mathlib.Core.List.{List}
use Prim.Native.Nat.{ℕ, ◌+◌, ◌*◌, ◌≤◌}
use native.Mathlib.Omega.{arith}
use lib.ListN.{length}
use lib.IntN.{ℤ, pos, ◌-ℤ◌}
use mir.Syntax.{w64}
use mir.Val.{SFits}
use mir.Facts.{sfits_lit}
use Rattle.integers.specs.Units.{steps_per_pixel, greatest_sheet_coordinate}
use Rattle.integers.proofs.Theorems.Order.{≤ℤ_trans, pos-≤ℤ}
use Rattle.integers.specs.Within.{Within}
use Rattle.integers.specs.ListSum.{All}
use Rattle.integers.proofs.Theorems.ListSum.{all_map}
use Rattle.edge.specs.declared.Edge.{Edge}
use Rattle.curve.specs.Curve.{OnSheet}
use Rattle.rasterize.specs.Added.{added}
use Rattle.rasterize.specs.Ready.{Fits}
use Rattle.rasterize.specs.Views.{InView}
use Rattle.rasterize.specs.Laws.Sums.{edges_part}
use Rattle.rasterize.proofs.Laws.Fitting.{fits_le, fits_edges}
use Rattle.chords.specs.Sides.{numbers, MarkedContour}
use Rattle.chords.specs.Chords.{contour_chords}
use Rattle.chords.proofs.Laws.ClosedChords.{contour_on}
use Rattle.tile.specs.Questions.{Yes, depth_of, question9}
use Rattle.tile.proofs.Theorems.Refusals.{question6_means}
use Rattle.tile.proofs.Laws.Accepted.{on_side}
use Rattle.tile.proofs.Laws.Room.{in_range-fits}
use Rattle.sheet.specs.declared.Site.{Site}
use Rattle.sheet.specs.Sites.{tile_side, reach, view_at}
use Rattle.sheet.proofs.Laws.SiteEdges.{site_side, reach_power, reach-le, site_in_view}
use Rattle.corrections.specs.declared.Change.{Change}
use Rattle.corrections.specs.declared.Change.TheVariants.{Put, Take}
use Rattle.corrections.specs.Corrections.{Tile, sign_of}
use Rattle.corrections.specs.Amending.{Amendable}
use Rattle.corrections.proofs.Laws.AskedContour.{sign_within, opposite, sign-opposite}

-- ---- the contour
module _ {site : Site} {change : Change} {contour : MarkedContour} {n : ℕ} {t : Tile} (a : Amendable site change contour n t) where
  abbrev drawn : List ℤ
  drawn = contour.coordinates

  abbrev depth : ℕ
  depth = depth_of (tile_side site)

  abbrev pub amended_edges : List Edge
  amended_edges = contour_chords contour

  pub on_sheet : All OnSheet drawn
  on_sheet =
      let wide : steps_per_pixel * reach site ≤ greatest_sheet_coordinate = omega (arith, reach-le site a.site_yes) in
      all_map (λ z h. (h.0, ≤ℤ_trans h.1 (pos-≤ℤ wide))) drawn ((question6_means (reach site) drawn).0 a.yes6)

  pub in_view : length contour.coordinates ≡ numbers contour.marks → All (InView (view_at site) depth) amended_edges
  in_view h =
      site_in_view site a.site_yes amended_edges
      (contour_on (depth_of (reach site)) contour
      (h, on_side (reach site) drawn (reach_power site a.site_yes) a.yes6))

  -- ---- room
  module _ (yes9 : Yes (question9 t.table)) where
    fits_twice : Fits t.table depth (length amended_edges + length amended_edges)
    fits_twice = in_range-fits (tile_side site) _ t.table (site_side site a.site_yes) a.yes2 yes9 (omega (arith, a.counted, a.few))

    pub fits_contour : Fits t.table depth (length amended_edges)
    fits_contour = fits_le (omega arith) fits_twice

    -- with the contour's edges added
    pub fits_again : length contour.coordinates ≡ numbers contour.marks
        → Fits (added t.table (edges_part (view_at site) depth (sign_of change) amended_edges)) depth (length amended_edges)
    fits_again h = fits_edges (sign_within change) (view_at site) amended_edges (length amended_edges) (in_view h) fits_twice

-- ---- the sign
pub back_within : (x : Change) → Within (pos 1) (pos 0 -ℤ sign_of x)
back_within x = subst (Within (pos 1)) (sign-opposite x) (sign_within (opposite x))

pub opposite-fits : (x : Change) → SFits w64 (pos 0 -ℤ sign_of x)
opposite-fits Put = sfits_lit tt
opposite-fits Take = sfits_lit tt
