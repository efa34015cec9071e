-- The tiles of a sheet.
--
-- Main results
--   from-tile-closed,
--   from-tile-length             closed edges are closed as seen from any tile, and as many
--   from-tile_octilinear         level, upright or at 45 degrees as before
--   from-tile_on                 edges on the sheet are on the sheet as it is seen from there
--   from-tile-signed             and enclose the same signed area
--   from-tile_area               the exact area of a tile's cell is 01's, of the edges as they are and of the cell at its place on the sheet
--   tiles_add_up                 "For outlines of level, upright and 45 degree edges the tiles' roots add up to the outline's area."
use Rattle.std.specs.Prelude.{◌≡◌, refl, List, [], ◌∷◌, map, ℕ, ◌*◌, length, ℤ, ◌+ℤ◌, ◌-ℤ◌, ◌*ℤ◌, ◌≤ℤ◌}
use Rattle.std.proofs.Math.Path.{sym, subst⁻¹}
use Rattle.std.proofs.Common.{◌∙◌, ap, ap₂, subst}
use Rattle.std.proofs.lemmas.List.{length-map}
use Rattle.std.proofs.Math.IntN.{pos}
use Rattle.integers.proofs.Theorems.Ring.{read, ring, comb}
use Rattle.integers.proofs.Theorems.Order.{nonneg}
use Rattle.integers.proofs.Theorems.Linear.{le, linear, lin≤}
use Rattle.integers.specs.RangeSum.{Σ<}
use Rattle.integers.proofs.Theorems.RangeSum.{Σ_cong, Σ_scale}
use Rattle.integers.specs.ListSum.{All, total}
use Rattle.integers.proofs.Theorems.ListSum.{all_of, all_map, all_image, total_cong, total-add, total-map, total-range}
use Rattle.integers.specs.Fraction.{common, numer}
use Rattle.integers.specs.Rounding.{round_half_away}
use Rattle.edge.specs.declared.Edge.{Edge}
use Rattle.edge.specs.declared.Cell.{Cell as Square}
use Rattle.edge.specs.Walk.{steps}
use Rattle.edge.specs.Integrals.{area_num}
use Rattle.edge.specs.Rounded.{root_term, rounded_area}
use Rattle.edge.specs.Octilinear.{Octilinear}
use Rattle.edge.specs.Nested.{OnRange, OnCell, seen_from, moved}
use Rattle.edge.proofs.Laws.StepCount.{rounded_whole, whole_kept}
use Rattle.edge.proofs.Laws.WholeTile.{root_boundary, whole_tile}
use Rattle.edge.proofs.Laws.OctilinearEdges.{unit_area, area_octilinear}
use Rattle.edge.proofs.Laws.Translation.{steps_seen, octilinear_seen, area_seen, rounded_area_seen}
use Rattle.edge.proofs.Laws.Tiling.{tile_in, area_tiles}
use Rattle.haar.specs.Cells.{Cell}
use Rattle.haar.specs.Plane.{dimensions}
use Rattle.accuracy.specs.Outline.{signed_area, gain, ClosedEdges}
use Rattle.accuracy.specs.Tile.{cell_width, square, tile, EdgeOnTile}
use Rattle.accuracy.specs.ExactArea.{denominator, exact_area_num}
use Rattle.accuracy.specs.OutlineTable.{tile_root}
use Rattle.accuracy.specs.Sheet.{corner, from_tile, seen_sheet, cell_on_sheet}
use Rattle.accuracy.proofs.Laws.OnTile.{on_cell}

-- ---- as seen from a tile
pub from-tile-closed : (depth tx ty : ℕ) {es : List Edge} → ClosedEdges es → ClosedEdges (from_tile depth tx ty es)
from-tile-closed depth tx ty {es} closed = record {
  cancels = λ f.
      total-map (gain f) (seen_from (corner depth tx) (corner depth ty)) es
      ∙ closed.cancels (λ x y. f (x -ℤ corner depth tx) (y -ℤ corner depth ty));
}

pub from-tile-length : (depth tx ty : ℕ) (es : List Edge) → length (from_tile depth tx ty es) ≡ length es
from-tile-length depth tx ty es = length-map es (seen_from (corner depth tx) (corner depth ty))

pub from-tile_octilinear : (depth tx ty : ℕ) (es : List Edge) → All Octilinear es → All Octilinear (from_tile depth tx ty es)
from-tile_octilinear depth tx ty es octilinear =
    let a = corner depth tx in
    let b = corner depth ty in
    all_image Octilinear (seen_from a b) es (all_map (octilinear_seen a b) es octilinear)

-- a coordinate on the sheet, as seen from a
seen_range : (a : ℤ) {w z : ℤ} → pos 0 ≤ℤ z → z ≤ℤ w → OnRange (pos 0 -ℤ a) w (z -ℤ a)
seen_range a {w} {z} low high = record {
  low = lin≤ (a ∷ z ∷ []) (le low) (search linear depth 40) tt;
  high = lin≤ (a ∷ z ∷ w ∷ []) (le high) (search linear depth 40) tt;
}

pub from-tile_on : (wide depth tx ty : ℕ) (e : Edge) → EdgeOnTile wide e → OnCell (seen_sheet wide depth tx ty) (seen_from (corner depth tx) (corner depth ty) e)
from-tile_on wide depth tx ty e on = record {
  x0 = seen_range (corner depth tx) on.start.x_low on.start.x_high;
  y0 = seen_range (corner depth ty) on.start.y_low on.start.y_high;
  x1 = seen_range (corner depth tx) on.end.x_low on.end.x_high;
  y1 = seen_range (corner depth ty) on.end.y_low on.end.y_high;
}

-- closed edges enclose the same area wherever they are seen from: a term of the signed area differs by a gain
pub from-tile-signed : (depth tx ty : ℕ) {es : List Edge} → ClosedEdges es → signed_area (from_tile depth tx ty es) ≡ signed_area es
unfolding root_term
from-tile-signed depth tx ty {es} closed =
    total-map root_term (seen_from a b) es
    ∙ total_cong (λ e. root_term (seen_from a b e)) (λ e. root_term e +ℤ gain f e) es (all_of moved_term es)
    ∙ total-add root_term (gain f) es
    ∙ comb (total root_term es ∷ total (gain f) es ∷ []) (closed.cancels f) (search read depth 40) tt
  where
    a : ℤ
    a = corner depth tx

    b : ℤ
    b = corner depth ty

    f : ℤ → ℤ → ℤ
    f x y = b *ℤ x -ℤ a *ℤ y

    moved_term : (e : Edge) → root_term (seen_from a b e) ≡ root_term e +ℤ gain f e
    moved_term e = ring (e.x0 ∷ e.y0 ∷ e.x1 ∷ e.y1 ∷ a ∷ b ∷ []) (search read depth 40) tt

numer-map : (f g : Edge → ℤ) (k : Edge → Edge) → ((e : Edge) → steps (k e) ≡ steps e) → ((e : Edge) → f (k e) ≡ g e) → (es : List Edge)
    → (common steps (map k es) ≡ common steps es) × (numer steps f (map k es) ≡ numer steps g es)
unfolding numer common
numer-map f g k s h [] = (refl, refl)
numer-map f g k s h (e ∷ es) =
    let rest = numer-map f g k s h es in (
      ap₂ ◌*◌ (s e) rest.0,
      ap₂ (λ a c. a *ℤ pos c +ℤ pos (steps (k e)) *ℤ numer steps f (map k es)) (h e) rest.0
          ∙ ap₂ (λ n z. g e *ℤ pos (common steps es) +ℤ pos n *ℤ z) (s e) rest.1,
    )

module _ (depth tx ty : ℕ) (es : List Edge) where
  abbrev a : ℤ
  a = corner depth tx

  abbrev b : ℤ
  b = corner depth ty

  pub from-tile_area : (level : ℕ) (cell : Cell dimensions)
      → (denominator (from_tile depth tx ty es) ≡ denominator es)
      × (exact_area_num depth (from_tile depth tx ty es) level cell ≡ numer steps (λ e. area_num e (cell_on_sheet depth tx ty level cell)) es)
  from-tile_area level cell =
      numer-map (λ e. area_num e (square depth level cell)) (λ e. area_num e (cell_on_sheet depth tx ty level cell)) (seen_from a b)
      (steps_seen a b) (λ e. area_seen a b e (square depth level cell)) es

  pub from-tile-root : tile_root depth (from_tile depth tx ty es) ≡ total (λ e. rounded_area e (tile_in (pos 0) (pos 0) (pos (cell_width depth 0)) tx ty)) es
  from-tile-root =
      total-map (λ e. rounded_area e (tile depth)) (seen_from a b) es
      ∙ total_cong _ _ es (all_of (λ e. rounded_area_seen a b e (tile depth) ∙ ap (rounded_area e) place) es)
    where
      at_place : (t : ℕ) → corner depth t +ℤ pos 0 ≡ pos 0 +ℤ pos t *ℤ pos (cell_width depth 0)
      at_place t = ring (pos t ∷ pos (cell_width depth 0) ∷ []) (search read depth 40) tt

      place : moved a b (tile depth) ≡ tile_in (pos 0) (pos 0) (pos (cell_width depth 0)) tx ty
      place = ap₂ (λ x y. record { left = x; top = y; width = pos (cell_width depth 0) }) (at_place tx) (at_place ty)

-- ---- one edge on the sheet of m × m tiles, w steps wide each
module _ (m w : ℕ) {e : Edge} (s : Octilinear e) where
  abbrev sheet : Square
  sheet = record { left = pos 0; top = pos 0; width = pos m *ℤ pos w }

  abbrev at_tile : ℕ → ℕ → Square
  at_tile i j = tile_in (pos 0) (pos 0) (pos w) i j

  abbrev parts : ℤ
  parts = Σ< m (λ j. Σ< m (λ i. rounded_area e (at_tile i j)))

  whole_part : (c : Square) → c.width ≡ pos w → area_num e c ≡ pos (steps e) *ℤ rounded_area e c
  unfolding rounded_area
  whole_part c h =
      sym (whole_kept e (unit_area e c) (area_octilinear s c (subst⁻¹ (λ z. pos 0 ≤ℤ z) h (nonneg w))))
      ∙ ring (round_half_away (area_num e c) (steps e) ∷ pos (steps e) ∷ []) (search read depth 40) tt

  sheet_parts : area_num e sheet ≡ parts *ℤ pos (steps e)
  sheet_parts =
      area_tiles e (pos 0) (pos 0) (nonneg w) m
      ∙ Σ_cong m _ _ (λ j h. Σ_cong m _ _ (λ i k. whole_part (at_tile i j) refl) ∙ Σ_scale m (pos (steps e)) (λ i. rounded_area e (at_tile i j)))
      ∙ Σ_scale m (pos (steps e)) (λ j. Σ< m (λ i. rounded_area e (at_tile i j)))
      ∙ ring (parts ∷ pos (steps e) ∷ []) (search read depth 40) tt

  edge_parts : OnCell sheet e → parts ≡ root_term e +ℤ gain (root_boundary sheet) e
  edge_parts on =
      sym (rounded_whole e parts sheet_parts)
      ∙ rounded_whole e (root_term e +ℤ gain (root_boundary sheet) e)
      (whole_tile on ∙ ring (pos (steps e) ∷ root_term e ∷ gain (root_boundary sheet) e ∷ []) (search read depth 40) tt)

-- of every tile of a sheet of side 2^wide, which is m × m of them
pub tiles_add_up : (wide m depth : ℕ) {es : List Edge} → cell_width wide 0 ≡ m * cell_width depth 0 → ClosedEdges es → All (EdgeOnTile wide) es → All Octilinear es
    → Σ< m (λ ty. Σ< m (λ tx. tile_root depth (from_tile depth tx ty es))) ≡ signed_area es
tiles_add_up wide m depth {es} covers closed on octilinear =
    Σ_cong m _ _ (λ ty h. Σ_cong m _ _ (λ tx k. from-tile-root depth tx ty es) ∙ total-range m (λ tx e. rounded_area e (place tx ty)) es)
    ∙ total-range m (λ ty e. Σ< m (λ tx. rounded_area e (place tx ty))) es
    ∙ total_cong _ (λ e. root_term e +ℤ gain (root_boundary sheet) e) es (each es on octilinear)
    ∙ total-add root_term (gain (root_boundary sheet)) es
    ∙ comb (total root_term es ∷ total (gain (root_boundary sheet)) es ∷ []) (closed.cancels (root_boundary sheet)) (search read depth 40) tt
  where
    sheet : Square
    sheet = record { left = pos 0; top = pos 0; width = pos m *ℤ pos (cell_width depth 0) }

    place : ℕ → ℕ → Square
    place tx ty = tile_in (pos 0) (pos 0) (pos (cell_width depth 0)) tx ty

    width_is : pos (cell_width wide 0) ≡ pos m *ℤ pos (cell_width depth 0)
    width_is = ap pos covers ∙ ring (pos m ∷ pos (cell_width depth 0) ∷ []) (search read depth 40) tt

    on_sheet : (e : Edge) → EdgeOnTile wide e → OnCell sheet e
    on_sheet e h = subst (λ w. OnCell (record { left = pos 0; top = pos 0; width = w }) e) width_is (on_cell wide e h)

    each : (fs : List Edge) → All (EdgeOnTile wide) fs → All Octilinear fs
        → All (λ e. Σ< m (λ ty. Σ< m (λ tx. rounded_area e (place tx ty))) ≡ root_term e +ℤ gain (root_boundary sheet) e) fs
    each [] h o = tt
    each (e ∷ fs) h o = (edge_parts m (cell_width depth 0) o.0 (on_sheet e h.0), each fs h.1 o.1)
