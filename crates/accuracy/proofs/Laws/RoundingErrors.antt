-- How far each edge's own rounding moves its details: at most half a unit, and not at all in a cell that it does not come strictly inside, nor where
-- it is level, upright or at 45 degrees.
--
-- Main results
--   Counts depth es k            k counts each edge at least once in each cell in which rounding may move its details
--   counts-inside                so k does if it counts each edge that comes strictly inside the cell
--   counts_octilinear            and if it counts nothing, where every edge is level, upright or at 45 degrees
--   detail_misses                the table's details miss the exact ones by at most as many half units as k counts edges
use Rattle.std.specs.Prelude.{◌≡◌, refl, List, [], ◌∷◌, ℕ, zero, suc, ◌*◌, ◌<◌, ◌≤◌, pos, ◌-ℤ◌, ◌*ℤ◌}
use Rattle.std.proofs.Common.{sym, ap}
use Rattle.integers.proofs.Theorems.Ring.{read, ring}
use Rattle.integers.proofs.Theorems.Order.{nonneg}
use Rattle.integers.proofs.Theorems.Linear.{le, linear, lin≤}
use Rattle.integers.specs.Within.{Within}
use Rattle.integers.proofs.Theorems.Within.{within_is, within_le}
use Rattle.integers.specs.Rounding.{round_half_away}
use Rattle.integers.specs.ListSum.{All, tally}
use Rattle.integers.proofs.Theorems.ListSum.{all_of, all_map, total_cong, tally-total}
use Rattle.integers.proofs.Theorems.RoundedSum.{rounded, Miss, rounded_within, miss_half, miss_none}
use Rattle.edge.specs.declared.Edge.{Edge}
use Rattle.edge.specs.declared.Cell.{Cell as Square}
use Rattle.edge.specs.Walk.{steps}
use Rattle.edge.specs.Inside.{Inside}
use Rattle.edge.specs.Rounded.{details, Exact}
use Rattle.edge.specs.Octilinear.{Octilinear}
use Rattle.edge.proofs.Laws.StepCount.{steps_pos, rounded_whole}
use Rattle.edge.proofs.Laws.Zero.{outside_exact}
use Rattle.edge.proofs.Laws.OctilinearEdges.{octilinear_exact}
use Rattle.haar.specs.Cells.{Cell, details as detail_count}
use Rattle.haar.specs.Plane.{dimensions}
use Rattle.accuracy.specs.Tile.{cell_width, square}
use Rattle.accuracy.specs.ExactArea.{denominator}
use Rattle.accuracy.specs.ExactDetails.{numbered, unrounded, detail_num, exact_detail_num}
use Rattle.accuracy.specs.OutlineTable.{outline_table}
use Rattle.accuracy.proofs.Laws.Numbered.{by_number, numbered_each}
use Rattle.accuracy.proofs.Laws.Squares.{cell_width-halves}

-- each is rounded on its own
numbered-rounded : (e : Edge) (s : Square) (d : ℕ) → numbered (details e s) d ≡ round_half_away (detail_num s d e) (steps e)
unfolding details
numbered-rounded e s d =
    numbered_each (λ z. round_half_away z (steps e)) (rounded_whole e (pos 0) (ring (pos (steps e) ∷ []) (search read depth 40) tt)) (unrounded e s) d

-- ---- where rounding keeps an edge's details
-- A count for each level, cell and edge, and not one for all, so that a bound can name the edges that matter.
pub record Counts (depth : ℕ) (es : List Edge) (k : ℕ → Cell dimensions → Edge → ℕ) : Type 0 where
  pub kept : (j : ℕ) → j < depth → (cell : Cell dimensions) → All (λ e. k j cell e ≡ 0 → Exact e (square depth j cell)) es

pub counts-inside : (depth : ℕ) (es : List Edge) (k : ℕ → Cell dimensions → Edge → ℕ)
    → ((j : ℕ) (cell : Cell dimensions) (e : Edge) → k j cell e ≡ 0 → Inside e (square depth j cell) → ⊥) → Counts depth es k
counts-inside depth es k out = record {
  kept = λ j h cell. all_of (λ e n. outside_exact e (square depth j cell) (nonneg (cell_width depth j)) (out j cell e n)) es;
}

pub counts_octilinear : (depth : ℕ) {es : List Edge} → All Octilinear es → Counts depth es (λ j cell e. 0)
counts_octilinear depth {es} o = record {
  kept = λ j h cell. all_map (λ e s n. octilinear_exact s (square depth j cell) (cell_width-halves depth j h) (nonneg (cell_width depth (suc j)))) es o;
}

-- ---- one edge: it misses by at most n half units, for every n but 0, and for 0 where rounding keeps its details
edge_misses : (e : Edge) (s : Square) (n : ℕ) → (n ≡ 0 → Exact e s) → (d : ℕ) → 1 ≤ d → d ≤ detail_count dimensions → Miss steps (detail_num s d) (pos n) e
edge_misses e s zero x d i l =
    miss_none steps (detail_num s d) e (round_half_away (detail_num s d e) (steps e)) (steps_pos e)
    (sym (by_number (λ z. round_half_away z (steps e) *ℤ pos (steps e) ≡ z) (unrounded e s) (x refl).h (x refl).v (x refl).d d i l))
edge_misses e s (suc n) x d i l =
    within_le (lin≤ (pos n ∷ pos (steps e) ∷ []) (le (nonneg (n * steps e))) (search linear depth 40) tt) (miss_half steps (detail_num s d) e (steps_pos e))

-- ---- all edges
pub detail_misses : {depth : ℕ} {es : List Edge} {k : ℕ → Cell dimensions → Edge → ℕ} → Counts depth es k
    → (j : ℕ) → j < depth → (cell : Cell dimensions) (d : ℕ) → 1 ≤ d → d ≤ detail_count dimensions
    → Within (pos (tally (k j cell) es * denominator es))
    (pos 2 *ℤ ((outline_table depth es).detail j cell d *ℤ pos (denominator es) -ℤ exact_detail_num depth es j cell d))
unfolding rounded
detail_misses {depth} {es} {k} c j h cell d i l =
    within_is (ap (λ z. z *ℤ pos (denominator es)) (sym (tally-total (k j cell) es)))
    (ap (λ z. pos 2 *ℤ (z *ℤ pos (denominator es) -ℤ exact_detail_num depth es j cell d)) (sym sums))
    (rounded_within steps (detail_num s d) (λ e. pos (k j cell e)) es (all_map (λ e x. edge_misses e s (k j cell e) x d i l) es (c.kept j h cell)))
  where
    s : Square
    s = square depth j cell

    sums : (outline_table depth es).detail j cell d ≡ rounded steps (detail_num s d) es
    sums =
        total_cong (λ e. numbered (details e s) d) (λ e. round_half_away (detail_num s d e) (steps e)) es (all_of (λ e. numbered-rounded e s d) es)
