-- How near a root is to the tile's exact area.
--
-- Main results
--   root_alone                   the signed area of edges on the tile is the tile's exact area
--   root_misses                  the root that is rounded for each edge misses it by at most half a unit for each
--   root_octilinear              by nothing, where every edge is level, upright or at 45 degrees
--   root_wholly_on               and where every edge lies on the tile it is the signed area
use Rattle.std.specs.Prelude.{◌≡◌, refl, List, [], ◌∷◌, ℕ, ◌*◌, length, ℤ, pos, ◌+ℤ◌, ◌-ℤ◌, ◌*ℤ◌}
use Rattle.std.proofs.Common.{sym, ◌∙◌, ap, zero-mul}
use Rattle.integers.proofs.Theorems.Ring.{read, ring, comb, ◌⊗◌}
use Rattle.integers.proofs.Theorems.Order.{nonneg}
use Rattle.integers.specs.Within.{Within}
use Rattle.integers.proofs.Theorems.Within.{within_is, within_self}
use Rattle.integers.specs.Rounding.{round_half_away}
use Rattle.integers.specs.ListSum.{All, total}
use Rattle.integers.proofs.Theorems.ListSum.{all_of, all_map, total_cong, total-add, total_const}
use Rattle.integers.specs.Fraction.{common, numer}
use Rattle.integers.proofs.Theorems.RoundedSum.{rounded, Miss, rounded_within, rounded_half, miss_none}
use Rattle.edge.specs.declared.Edge.{Edge}
use Rattle.edge.specs.declared.Cell.{Cell as Square}
use Rattle.edge.specs.Walk.{steps}
use Rattle.edge.specs.Integrals.{area_num}
use Rattle.edge.specs.Rounded.{root_term, rounded_area}
use Rattle.edge.specs.Octilinear.{Octilinear}
use Rattle.edge.proofs.Laws.StepCount.{steps_pos, rounded_whole}
use Rattle.edge.proofs.Laws.WholeTile.{root_boundary, whole_tile}
use Rattle.edge.proofs.Laws.OctilinearEdges.{unit_area, area_octilinear}
use Rattle.haar.specs.Plane.{at}
use Rattle.accuracy.specs.Outline.{signed_area, gain, ClosedEdges}
use Rattle.accuracy.specs.Tile.{cell_width, tile, EdgeOnTile, ClosedOnTile}
use Rattle.accuracy.specs.ExactArea.{denominator, exact_area_num}
use Rattle.accuracy.specs.OutlineTable.{tile_root}
use Rattle.accuracy.proofs.Laws.OnTile.{on_cell}
use Rattle.accuracy.proofs.Laws.Squares.{square-tile}
use Rattle.accuracy.proofs.Laws.OutlineWhole.{outline_whole}
use Rattle.accuracy.proofs.Laws.Closeness.{RootMiss}

-- ---- 01's tile
pub root_alone : {depth : ℕ} {es : List Edge} → ClosedOnTile depth es → RootMiss (signed_area es) depth es 0
root_alone {depth} {es} o = record {
  near = within_is (ap pos (sym (zero-mul (denominator es))))
      (comb (signed_area es ∷ exact_area_num depth es 0 (at 0 0) ∷ pos (denominator es) ∷ []) (pos 2 ⊗ outline_whole o) (search read depth 40) tt)
      (within_self (nonneg 0));
}

-- ---- a tile of a sheet
-- the exact area of the cell of level 0 is that of the tile's square
exact_tile : (depth : ℕ) (es : List Edge) → numer steps (λ e. area_num e (tile depth)) es ≡ exact_area_num depth es 0 (at 0 0)
exact_tile depth es = sym (ap (λ c. numer steps (λ e. area_num e c) es) (square-tile depth))

-- the root is the sum of rounded terms that `RoundedSum` speaks of
root-rounded : (depth : ℕ) (es : List Edge) → rounded steps (λ e. area_num e (tile depth)) es ≡ tile_root depth es
unfolding rounded rounded_area
root-rounded depth es = refl

root-near : (depth : ℕ) (es : List Edge) {b : ℤ}
    → Within b (pos 2 *ℤ (rounded steps (λ e. area_num e (tile depth)) es *ℤ pos (common steps es) -ℤ numer steps (λ e. area_num e (tile depth)) es))
    → Within b (pos 2 *ℤ (tile_root depth es *ℤ pos (denominator es) -ℤ exact_area_num depth es 0 (at 0 0)))
root-near depth es w =
    within_is refl
    (ap (λ z. pos 2 *ℤ (z *ℤ pos (denominator es) -ℤ numer steps (λ e. area_num e (tile depth)) es)) (root-rounded depth es)
    ∙ ap (λ z. pos 2 *ℤ (tile_root depth es *ℤ pos (denominator es) -ℤ z)) (exact_tile depth es)) w

pub root_misses : (depth : ℕ) (es : List Edge) → RootMiss (tile_root depth es) depth es (length es)
root_misses depth es = record { near = root-near depth es (rounded_half steps (λ e. area_num e (tile depth)) es (all_of steps_pos es)) }

pub root_octilinear : (depth : ℕ) {es : List Edge} → All Octilinear es → RootMiss (tile_root depth es) depth es 0
root_octilinear depth {es} s = record {
  near = within_is nothing refl (root-near depth es (rounded_within steps f (λ e. pos 0) es (all_map each es s)));
}
  where
    f : Edge → ℤ
    f e = area_num e (tile depth)

    each : (e : Edge) → Octilinear e → Miss steps f (pos 0) e
    each e o = miss_none steps f e (unit_area e (tile depth)) (steps_pos e) (area_octilinear o (tile depth) (nonneg (cell_width depth 0)))

    nothing : total (λ e. pos 0) es *ℤ pos (common steps es) ≡ pos (0 * denominator es)
    nothing =
        comb (total {A = Edge} (λ e. pos 0) es ∷ pos (length es) ∷ pos (common steps es) ∷ []) (pos (common steps es) ⊗ total_const (pos 0) es) (search read depth 40) tt
        ∙ ap pos (sym (zero-mul (denominator es)))

-- on the tile an edge's area is whole, its root term and a gain of its ends
pub root_wholly_on : (depth : ℕ) {es : List Edge} → ClosedEdges es → All (EdgeOnTile depth) es → tile_root depth es ≡ signed_area es
unfolding rounded_area
root_wholly_on depth {es} closed on =
    total_cong (λ e. rounded_area e c) (λ e. root_term e +ℤ gain (root_boundary c) e) es (all_map each es on)
    ∙ total-add root_term (gain (root_boundary c)) es
    ∙ comb (total root_term es ∷ total (gain (root_boundary c)) es ∷ []) (closed.cancels (root_boundary c)) (search read depth 40) tt
  where
    c : Square
    c = tile depth

    each : (e : Edge) → EdgeOnTile depth e → round_half_away (area_num e c) (steps e) ≡ root_term e +ℤ gain (root_boundary c) e
    each e h =
        rounded_whole e (root_term e +ℤ gain (root_boundary c) e)
        (whole_tile (on_cell depth e h) ∙ ring (pos (steps e) ∷ root_term e ∷ gain (root_boundary c) e ∷ []) (search read depth 40) tt)
