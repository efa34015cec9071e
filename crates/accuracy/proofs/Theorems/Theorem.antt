-- Demand 3 holds of the definitions, for every outline on its tile, and for every tile of a sheet.
--
-- Main results
--   edges_accurate               for every list of closed edges on the tile
--   outline_accurate             and so for every outline: any list of contours whose points lie on the tile, of any number of points
--   sheet_accurate               and for every list of closed edges on a sheet around the tile
use Rattle.std.specs.Prelude.{◌≡◌, refl, List, ℕ, ◌+◌, ◌*◌, ◌-◌, ◌^◌, ◌≤◌, length, ℤ, pos, ◌*ℤ◌, ◌≤ℤ◌}
use Rattle.std.proofs.Common.{ap, arith}
use Rattle.std.proofs.Math.Path.{subst⁻¹}
use Rattle.std.proofs.Math.Nat.{one-le-pow, pow-le-pow_right}
use Rattle.integers.specs.Units.{greatest_depth, greatest_tile_depth, greatest_sheet_coordinate, most_edges, built_entry_limit}
use Rattle.integers.specs.Within.{Within}
use Rattle.integers.proofs.Theorems.Within.{within_is, scaled-abs_of_within}
use Rattle.integers.specs.ListSum.{All, total}
use Rattle.integers.proofs.Theorems.ListSum.{all_map}
use Rattle.edge.specs.declared.Edge.{Edge}
use Rattle.edge.specs.declared.Cell.{Cell as Square}
use Rattle.edge.specs.Rounded.{root_term, rounded_area}
use Rattle.edge.specs.Octilinear.{Octilinear}
use Rattle.edge.specs.Nested.{OnCell}
use Rattle.haar.specs.Table.{Bounded}
use Rattle.haar.specs.Plane.{dimensions, at, figure_at}
use Rattle.haar.proofs.Laws.PictureTotals.{picture-total}
use Rattle.accuracy.specs.Outline.{Point, signed_area, ClosedEdges}
use Rattle.accuracy.specs.Tile.{tile, OnTile, ClosedOnTile, CellOf}
use Rattle.accuracy.specs.ExactArea.{denominator, exact_area_num}
use Rattle.accuracy.specs.OutlineTable.{table_from, tile_root}
use Rattle.accuracy.specs.Accurate.{miss_from, twice_miss_limit, twice_tile_miss_limit, Accurate, AccurateAlone, AccurateOutline, AccurateOnSheet}
use Rattle.accuracy.proofs.Laws.Contours.{outline_edges-length, outline_on_tile}
use Rattle.accuracy.proofs.Laws.Denominator.{denominator-pos}
use Rattle.accuracy.proofs.Laws.OutlineQuarter.{outline_quarter}
use Rattle.accuracy.proofs.Laws.Differences.{outline_differences}
use Rattle.accuracy.proofs.Laws.OutlineWhole.{outline_whole}
use Rattle.accuracy.proofs.Laws.Closeness.{RootMiss, miss_within, miss_zero}
use Rattle.accuracy.proofs.Laws.Roots.{root_alone, root_misses, root_octilinear, root_wholly_on}
use Rattle.accuracy.proofs.Laws.CloseGreys.{close_greys}
use Rattle.accuracy.proofs.Laws.EntryBounds.{edge_on_tile_small, edge_on_sheet_small, built_entries}
use Rattle.accuracy.proofs.Laws.Order.{table_by_perm}
use Rattle.accuracy.proofs.Laws.Reversal.{outline_reversed}

-- ---- closed edges, and a root that is a sum over them of `part` and misses the tile's exact area by at most `share` half units for each of them
module _ {depth : ℕ} {es : List Edge} (closed : ClosedEdges es) (part : Edge → ℤ) (share : ℕ) where
  accurate_by : (twice_limit : ℕ → ℕ → ℕ) → ((level n : ℕ) → (4 ^ level - 1) * n + share * n ≡ twice_limit level n) → share ≤ 1
      → RootMiss (total part es) depth es (share * length es) → (All Octilinear es → RootMiss (total part es) depth es 0)
      → (depth ≤ greatest_depth → length es ≤ most_edges → Bounded dimensions depth built_entry_limit (λ j cell. built_entry_limit) (table_from (total part es) depth es))
      → Accurate (total part) twice_limit depth es
  accurate_by twice_limit limit once near exact bounded = record {
    denominator-positive = denominator-pos es;
    quarter = outline_quarter closed depth;
    differences = outline_differences closed depth;
    close = λ level cx cy c. scaled-abs_of_within 2 (miss_from (total part es) depth es level cx cy) (missed level cx cy c);
    equal = λ s. miss_zero closed (total part es) (exact s) s;
    greys = λ few level cx cy c.
        close_greys depth (denominator es) (figure_at (table_from (total part es) depth es) level cx cy) (pos (4 ^ level) *ℤ exact_area_num depth es level (at cx cy))
        (cells level c.level_to_depth) few (denominator-pos es) (by_edges level cx cy c);
    totals = picture-total dimensions (table_from (total part es) depth es);
    entries = bounded;
    any_order = λ fs p. table_by_perm depth part p;
  }
    where
      -- 4^level − 1 for the details and `share` for the root come to at most 4^level
      cells : (level : ℕ) → level ≤ depth → 4 ^ level - 1 + share ≤ 4 ^ depth
      cells level h = omega (arith, pow-le-pow_right {n = 4} (omega arith) h, one-le-pow level 4 (omega arith), once)

      by_edges : (level cx cy : ℕ) → CellOf depth level cx cy
          → Within (pos ((4 ^ level - 1 + share) * length es * denominator es)) (pos 2 *ℤ miss_from (total part es) depth es level cx cy)
      by_edges level cx cy c =
          let same : (4 ^ level - 1) * length es + share * length es ≡ (4 ^ level - 1 + share) * length es = omega arith in
          within_is (ap (λ n. pos (n * denominator es)) same) refl (miss_within closed (total part es) near level cx cy c)

      missed : (level cx cy : ℕ) → CellOf depth level cx cy
          → Within (pos (twice_limit level (length es) * denominator es)) (pos 2 *ℤ miss_from (total part es) depth es level cx cy)
      missed level cx cy c =
          within_is (ap (λ n. pos (n * denominator es)) (limit level (length es))) refl (miss_within closed (total part es) near level cx cy c)

-- ---- on the tile: the root is exact
alone_limit : (level n : ℕ) → (4 ^ level - 1) * n + 0 * n ≡ twice_miss_limit level n
alone_limit level n = omega arith

pub edges_accurate : {depth : ℕ} {es : List Edge} → ClosedOnTile depth es → AccurateAlone depth es
edges_accurate {depth} {es} o =
    let none : 0 * length es ≡ 0 = omega arith in
    let exact = root_alone o in
    record {
      whole = outline_whole o;
      accurate = accurate_by o.closed root_term 0 twice_miss_limit alone_limit (omega arith) (subst⁻¹ (RootMiss (signed_area es) depth es) none exact) (λ s. exact)
          (λ g few. built_entries root_term es (all_map (λ e h. edge_on_tile_small g h) es o.on_tile) few);
    }

pub outline_accurate : (depth : ℕ) (contours : List (List Point)) → All (All (OnTile depth)) contours → AccurateOutline depth contours
outline_accurate depth contours on = record {
  accurate = edges_accurate (outline_on_tile depth contours on);
  edge-count = outline_edges-length contours;
  reversed = outline_reversed depth contours;
}

-- ---- on a sheet s around the tile: each edge's part of the root is rounded
sheet_limit : (level n : ℕ) → (4 ^ level - 1) * n + 1 * n ≡ twice_tile_miss_limit level n
sheet_limit level n =
    let p : 4 ^ level ≡ 4 ^ level - 1 + 1 = omega (arith, one-le-pow level 4 (omega arith)) in
    omega (arith, ap (λ m. m * n) p)

pub sheet_accurate : {depth : ℕ} {es : List Edge} (s : Square) → depth ≤ greatest_tile_depth → pos 0 ≤ℤ s.width → s.width ≤ℤ pos greatest_sheet_coordinate
    → ClosedEdges es → All (OnCell s) es → AccurateOnSheet depth es
sheet_accurate {depth} {es} s shallow w≥0 narrow closed on =
    let once : 1 * length es ≡ length es = omega arith in
    record {
      accurate = accurate_by closed (λ e. rounded_area e (tile depth)) 1 twice_tile_miss_limit sheet_limit (omega arith)
          (subst⁻¹ (RootMiss (tile_root depth es) depth es) once (root_misses depth es)) (root_octilinear depth)
          (λ g few. built_entries (λ e. rounded_area e (tile depth)) es (all_map (λ e h. edge_on_sheet_small s shallow w≥0 narrow h) es on) few);
      wholly_on = λ h. ap (λ r. table_from r depth es) (root_wholly_on depth closed h);
    }
