-- The cell of a run, by its numbers.
--
-- Definitions
--   SmallEdge e                  an edge whose coordinates are within those of the greatest tile
--
-- Main results
--   run_width, run-square        its width, and its square is that of the tile's cell
--   on_cell_small                an edge on it is small
use Rattle.std.specs.Prelude.{◌≡◌, [], ◌∷◌, ℕ, ◌+◌, ◌*◌, ◌-◌, ◌^◌, ◌<◌, ◌≤◌, ℤ, pos}
use Rattle.std.proofs.Common.{sym, ap, arith, pow_mono}
use Rattle.integers.specs.Units.{steps_per_pixel, greatest_depth, greatest_coordinate}
use Rattle.integers.proofs.Theorems.Order.{pos-≤ℤ, nonneg}
use Rattle.integers.proofs.Theorems.Linear.{le, ◌&◌, linear, lin≤}
use Rattle.integers.specs.Within.{Within}
use Rattle.edge.specs.declared.Edge.{Edge}
use Rattle.edge.specs.Nested.{OnRange, OnCell}
use Rattle.haar.specs.Plane.{at}
use Rattle.accuracy.specs.Tile.{cell_width, square}
use Rattle.rasterize.specs.declared.Spot.{Spot}
use Rattle.contours.specs.Runs.{run_levels, widest_run, run_square}

pub run_width : (depth level : ℕ) → level + run_levels ≡ depth → cell_width depth level ≡ widest_run
run_width depth level h =
    let two : depth - level ≡ 2 = omega (arith, h) in
    ap (λ k. steps_per_pixel * 2 ^ k) two

pub run-square : {depth : ℕ} (c : Spot) → c.level + run_levels ≡ depth → run_square c ≡ square depth c.level (at c.x c.y)
run-square {depth} c h = sym (ap (λ w. record { left = pos (c.x * w); top = pos (c.y * w); width = pos w }) (run_width depth c.level h))

-- a run's cell lies on the greatest tile
range_small : (n level : ℕ) {p : ℤ} → n < 2 ^ level → level + run_levels ≤ greatest_depth → OnRange (pos (n * widest_run)) (pos widest_run) p → Within (pos greatest_coordinate) p
range_small n level {p} h k o =
    let far : n * widest_run + widest_run ≤ greatest_coordinate = omega (arith, h, pow_mono {i = level} {j = greatest_depth - run_levels} (omega arith)) in
    record {
      low = lin≤ (p ∷ pos (n * widest_run) ∷ []) (le o.low & le (nonneg (n * widest_run))) (search linear depth 40) tt;
      high = lin≤ (p ∷ pos (n * widest_run) ∷ []) (le o.high & le (pos-≤ℤ far)) (search linear depth 40) tt;
    }

pub record SmallEdge (e : Edge) : Type 0 where
  pub x0 : Within (pos greatest_coordinate) e.x0
  pub y0 : Within (pos greatest_coordinate) e.y0
  pub x1 : Within (pos greatest_coordinate) e.x1
  pub y1 : Within (pos greatest_coordinate) e.y1

pub on_cell_small : (c : Spot) {e : Edge} → c.x < 2 ^ c.level → c.y < 2 ^ c.level → c.level + run_levels ≤ greatest_depth → OnCell (run_square c) e → SmallEdge e
on_cell_small c x y k o = record {
  x0 = range_small c.x c.level x k o.x0;
  y0 = range_small c.y c.level y k o.y0;
  x1 = range_small c.x c.level x k o.x1;
  y1 = range_small c.y c.level y k o.y1;
}
