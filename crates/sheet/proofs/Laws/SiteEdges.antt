-- What the answers about a site say of it, and of edges that lie within its reach.
--
-- Main results
--   site_side                    the tile's side is one of a tile's
--   reach_power                  the side that question 6 reads is a power of two
--   reach-le                     and no more than the greatest sheet's
--   site_zero                    the questions about a site are all answered yes where none is answered no
--   site_answers                 what that says
--   site_in_view                 edges within reach are in the tile's view
--   site_entries                 their table is the sum of what each adds
--   site_accepted                and can be drawn as promised
--   entries_with, seen_length    it is the table with the root that the claim speaks of; and there are as many edges
use Rattle.std.specs.Prelude.{◌≡◌, refl, List, [], ◌∷◌, ◌↔◌, ℕ, ◌+◌, ◌*◌, ◌-◌, ◌/◌, ◌^◌, ◌<◌, ◌≤◌, length, ℤ, pos, ◌+ℤ◌, ◌≤ℤ◌}
use Rattle.std.proofs.Common.{sym, ap, ap₂, arith, le_refl}
use Rattle.std.proofs.Math.Path.{fun_ext}
use Rattle.std.proofs.Math.Nat.{one-le-pow}
use Rattle.integers.specs.Units.{steps_per_pixel, greatest_tile_depth, greatest_sheet_side, greatest_sheet_coordinate, most_edges}
use Rattle.integers.proofs.Theorems.Order.{nonneg, pos-≤ℤ}
use Rattle.integers.proofs.Theorems.Linear.{le, ◌&◌, linear, lin≤}
use Rattle.integers.specs.ListSum.{All}
use Rattle.integers.proofs.Theorems.ListSum.{all_map, all_image, total-map}
use Rattle.edge.specs.declared.Edge.{Edge}
use Rattle.edge.specs.declared.Cell.{Cell as Square}
use Rattle.edge.specs.Rounded.{rounded_area}
use Rattle.edge.specs.Nested.{Contains, Sheet, OnCell, seen_from}
use Rattle.haar.specs.Entries.{entries}
use Rattle.haar.specs.Plane.{dimensions}
use Rattle.accuracy.specs.Tile.{cell_width, tile, EdgeOnTile, ClosedOnTile}
use Rattle.accuracy.specs.OutlineTable.{edge_table}
use Rattle.accuracy.specs.Sheet.{corner, seen_sheet}
use Rattle.accuracy.proofs.Theorems.Theorem.{edges_accurate, sheet_accurate}
use Rattle.accuracy.proofs.Laws.SheetTiles.{from-tile-closed, from-tile-length, from-tile_on}
use Rattle.rasterize.specs.Views.{view_table, InView}
use Rattle.rasterize.proofs.Laws.EdgesInView.{in_view_alone, in_view_from}
use Rattle.tile.specs.Questions.{Yes, depth_of, first_no, question1, question2}
use Rattle.tile.specs.Outcomes.{table_with}
use Rattle.tile.proofs.Laws.FirstNo.{first_no-zero}
use Rattle.tile.proofs.Laws.Sides.{side_power, side_depth, side_le}
use Rattle.tile.proofs.Laws.Accepted.{side_width, AcceptedEdges}
use Rattle.tile.proofs.Laws.DrawnArea.{miss_limit_cells}
use Rattle.sheet.specs.declared.SheetTile.{SheetTile}
use Rattle.sheet.specs.declared.Site.{Site}
use Rattle.sheet.specs.declared.Site.TheVariants.{Alone, OnSheet}
use Rattle.sheet.proofs.Theorems.SheetRefusals.{question15_means}
use Rattle.sheet.specs.Sites.{tile_side, reach, SiteYes, site_questions, view_at, seen_at, root_rule, root_at, twice_limit_at, entries_at}
use Rattle.sheet.proofs.Laws.Places.{sheet_power, sheet_le, sheet_tile_side, sheet_tile-depth, place_fits}

-- ---- sides
pub site_side : (site : Site) → SiteYes site → Yes (question1 (tile_side site))
site_side (Alone side) y = y
site_side (OnSheet place) y = sheet_tile_side place.sheet place.side y.0

pub reach_power : (site : Site) → SiteYes site → reach site ≡ 2 ^ depth_of (reach site)
reach_power (Alone side) y = side_power side y
reach_power (OnSheet place) y = sheet_power place.sheet place.side y.0

pub reach-le : (site : Site) → SiteYes site → reach site ≤ greatest_sheet_side
reach-le (Alone side) y = omega (arith, side_le side y)
reach-le (OnSheet place) y = sheet_le place.sheet place.side y.0

pub site_answers : (site : Site) (table : List ℤ) → All Yes (site_questions site table) ↔ (SiteYes site × Yes (question2 (tile_side site) table))
site_answers (Alone side) table = (λ y. (y.0, y.1.0), λ h. (h.0, (h.1, tt)))
site_answers (OnSheet place) table = (λ y. ((y.0, y.1.0), y.1.1.0), λ h. (h.0.0, (h.0.1, (h.1, tt))))

-- where the first "no" of the questions about a site is none, they are all answered yes
pub site_zero : (site : Site) (table : List ℤ) → first_no (site_questions site table) ≡ 0 → All Yes (site_questions site table)
site_zero (Alone side) table e = (first_no-zero (site_questions (Alone side) table) tt).0 e
site_zero (OnSheet place) table e = (first_no-zero (site_questions (OnSheet place) table) tt).0 e

-- ---- the sheet, as it is seen from a tile on it
module _ (place : SheetTile) (y : SiteYes (OnSheet place)) where
  abbrev depth : ℕ
  depth = depth_of place.side

  abbrev wide : ℕ
  wide = depth_of place.sheet

  abbrev around : Square
  around = seen_sheet wide depth place.column place.row

  -- in steps
  tile-steps : cell_width depth 0 ≡ steps_per_pixel * place.side
  tile-steps = sym (side_width place.side (side_power place.side (site_side (OnSheet place) y)))

  sheet_steps : cell_width wide 0 ≡ steps_per_pixel * place.sheet
  sheet_steps = sym (side_width place.sheet (reach_power (OnSheet place) y))

  -- a tile ends on the sheet
  ends_on : (t : ℕ) → t < place.sheet / place.side → t * cell_width depth 0 + cell_width depth 0 ≤ cell_width wide 0
  ends_on t h =
      let w : t * cell_width depth 0 ≡ t * (steps_per_pixel * place.side) = ap (λ n. t * n) tile-steps in
      omega (arith, w, tile-steps, sheet_steps, place_fits place y.0 t h)

  narrow : cell_width wide 0 ≤ greatest_sheet_coordinate
  narrow = omega (arith, sheet_steps, sheet_le place.sheet place.side y.0)

  abbrev left : ℤ
  left = corner depth place.column

  abbrev top : ℤ
  top = corner depth place.row

  abbrev width : ℤ
  width = pos (cell_width wide 0)

  abbrev tile_width : ℤ
  tile_width = pos (cell_width depth 0)

  width_narrow : width ≤ℤ pos greatest_sheet_coordinate
  width_narrow = pos-≤ℤ narrow

  across_ends : (left +ℤ tile_width) ≤ℤ width
  across_ends = pos-≤ℤ (ends_on place.column ((question15_means place).0 y.1).0)

  down_ends : (top +ℤ tile_width) ≤ℤ width
  down_ends = pos-≤ℤ (ends_on place.row ((question15_means place).0 y.1).1)

  -- it is a sheet that edges may lie on, and the tile lies on it
  around_sheet : Sheet around
  around_sheet =
      let low : 1 ≤ cell_width wide 0 = omega (arith, one-le-pow (wide - 0) 2 (omega arith)) in
      let ρ = left ∷ top ∷ width ∷ tile_width ∷ [] in
      let facts = le width_narrow & le across_ends & le down_ends & le (nonneg (place.column * cell_width depth 0)) & le (nonneg (place.row * cell_width depth 0)) & le (nonneg (cell_width depth 0)) in
      record {
        width = pos-≤ℤ low;
        left = record { low = lin≤ ρ facts (search linear depth 40) tt; high = lin≤ ρ facts (search linear depth 40) tt };
        right = lin≤ ρ facts (search linear depth 40) tt;
        top = record { low = lin≤ ρ facts (search linear depth 40) tt; high = lin≤ ρ facts (search linear depth 40) tt };
        bottom = lin≤ ρ facts (search linear depth 40) tt;
      }

  around_tile : Contains around (tile depth)
  around_tile =
      let ρ = left ∷ top ∷ width ∷ tile_width ∷ [] in
      let facts = le across_ends & le down_ends & le (nonneg (place.column * cell_width depth 0)) & le (nonneg (place.row * cell_width depth 0)) in
      record {
        left = lin≤ ρ facts (search linear depth 40) tt;
        right = lin≤ ρ facts (search linear depth 40) tt;
        top = lin≤ ρ facts (search linear depth 40) tt;
        bottom = lin≤ ρ facts (search linear depth 40) tt;
      }

  shallow : depth ≤ greatest_tile_depth
  shallow = sheet_tile-depth place.sheet place.side y.0

-- ---- edges within reach
pub site_in_view : (site : Site) → SiteYes site → (es : List Edge) → All (EdgeOnTile (depth_of (reach site))) es
    → All (InView (view_at site) (depth_of (tile_side site))) es
site_in_view (Alone side) y es on = all_map (λ e h. in_view_alone (side_depth side y) h) es on
site_in_view (OnSheet place) y es on =
    all_map (λ e h.
    in_view_from _ (around place y) (shallow place y) (around_sheet place y) (width_narrow place y) (around_tile place y)
    (from-tile_on (wide place y) (depth place y) place.column place.row e h)) es on

-- what each edge adds, added up: of the edges as the tile has them
pub site_entries : (site : Site) (es : List Edge) → entries dimensions (depth_of (tile_side site)) (view_table (view_at site) (depth_of (tile_side site)) es) ≡ entries_at site es
site_entries (Alone side) es = refl
site_entries (OnSheet place) es =
    let depth = depth_of place.side in
    let see = seen_from (corner depth place.column) (corner depth place.row) in
    ap (entries dimensions depth)
    (ap₂ (λ (r : ℤ) d. record { root = r; detail = d }) (sym (total-map (λ e. rounded_area e (tile depth)) see es))
    (fun_ext λ j. fun_ext λ cell. fun_ext λ k. sym (total-map (λ e. (edge_table depth e).detail j cell k) see es)))

pub site_accepted : (site : Site) → SiteYes site → (es : List Edge) → ClosedOnTile (depth_of (reach site)) es → length es ≤ most_edges
    → AcceptedEdges (tile_side site) (root_rule site) (twice_limit_at site) (seen_at site es)
site_accepted (Alone side) y es o few = record { is_side = y; few_edges = few; accurate = (edges_accurate o).accurate; limited = miss_limit_cells }
site_accepted (OnSheet place) y es o few =
    let same = from-tile-length (depth_of place.side) place.column place.row es in
    record {
      is_side = site_side (OnSheet place) y;
      few_edges = omega (arith, same, few);
      accurate = (sheet_accurate (around place y) (shallow place y) (nonneg (cell_width (wide place y) 0)) (width_narrow place y)
          (from-tile-closed (depth place y) place.column place.row o.closed)
          (all_image (OnCell (around place y)) (seen_from (corner (depth place y) place.column) (corner (depth place y) place.row)) es
          (all_map (λ e h. from-tile_on (wide place y) (depth place y) place.column place.row e h) es o.on_tile))).accurate;
      limited = λ level edges. le_refl (4 ^ level * edges);
    }

-- the same table, by the root that the claim speaks of
pub entries_with : (site : Site) (es : List Edge) → table_with (tile_side site) (root_at site es) (seen_at site es) ≡ entries_at site es
entries_with (Alone side) es = refl
entries_with (OnSheet place) es = refl

pub seen_length : (site : Site) (es : List Edge) → length (seen_at site es) ≡ length es
seen_length (Alone side) es = refl
seen_length (OnSheet place) es = from-tile-length (depth_of place.side) place.column place.row es
