-- A run's chord and area in the cells above its cell, one level up at a time.
--
-- Main results
--   Climb                                      what the cells above cell (x, y) of a level are still to get is the rest
--   climb_start, climb_step, climb_end         at the run's cell; one level up; at the tile
--   climb_few, climb_at, climb_wide            the cell's numbers, and its width
--   climb_details, climb_small, climb_first    the details that are added are small, and have their places in the table
use mathlib.Core.Path.{◌≡◌, refl, sym, ◌∙◌, ap, ap₂, subst, subst⁻¹}
use mathlib.Core.List.{List, [], ◌∷◌}
use Prim.Native.Nat.{ℕ, suc, ◌+◌, ◌*◌, ◌-◌, ◌/◌, ◌%◌, ◌^◌, ◌<◌, ◌≤◌}
use native.Mathlib.Omega.{arith}
use native.Mathlib.Nat.{pow-suc}
use lib.Pow.{pow_mono}
use lib.ListN.{length}
use lib.IntN.{ℤ, pos, ◌+ℤ◌}
use lib.Signed.{◌≤ℤ◌}
use Rattle.integers.specs.Units.{steps_per_pixel, greatest_depth, greatest_side, greatest_coordinate, detail_limit}
use Rattle.integers.proofs.Theorems.Order.{pos-≤ℤ, nonneg}
use Rattle.integers.proofs.Theorems.Ring.{read, ring}
use Rattle.integers.specs.Within.{Within}
use Rattle.integers.proofs.Theorems.Within.{within_le, within_self}
use Rattle.edge.specs.declared.Edge.{Edge}
use Rattle.edge.specs.declared.Details.{Details}
use Rattle.edge.specs.Nested.{OnCell}
use Rattle.edge.specs.Rounded.{details}
use Rattle.haar.specs.Cells.{children}
use Rattle.haar.specs.Table.{index}
use Rattle.haar.specs.Plane.{dimensions, h_detail, d_detail, at}
use Rattle.haar.proofs.Laws.Layout.{index_within, index_plane}
use Rattle.accuracy.specs.Tile.{cell_width, square}
use Rattle.rasterize.specs.declared.Spot.{Spot}
use Rattle.rasterize.specs.Added.{added}
use Rattle.rasterize.specs.Nodes.{node_at}
use Rattle.rasterize.specs.Contribution.{first_detail, own_part}
use Rattle.rasterize.specs.Ready.{SmallDetails, Spare}
use Rattle.rasterize.proofs.Laws.Adding.{added-length, added-both, added_none}
use Rattle.rasterize.proofs.Laws.Contributions.{own_within}
use Rattle.rasterize.proofs.Laws.Spare.{spare_le, spare_added}
use Rattle.contours.specs.Runs.{run_levels, widest_run, longest_run, triangle_limit, square_at, with_area, details_in, above, AboveReady}
use Rattle.contours.specs.Laws.Runs.{parent_on, details-parent, above_zero, above-suc}
use Rattle.contours.specs.Laws.RunBounds.{part_small}
use Rattle.contours.specs.Laws.RunCells.{run-square, run_width}

pub record Climb (e : Edge) (a : ℤ) (depth : ℕ) (c : Spot) (before : List ℤ) (level x y : ℕ) (w : ℤ) (table : List ℤ) : Type 0 where
  pub below : level + run_levels ≤ depth
  pub x_below : x < 2 ^ level
  pub y_below : y < 2 ^ level
  pub width : w ≡ pos (cell_width depth level)
  pub on : OnCell (square depth level (at x y)) e
  pub spare : Spare table level
  pub as_long : length table ≡ length before
  pub rest : added table (above e a depth level x y) ≡ added before (above e a depth c.level c.x c.y)

pub climb_start : {t : List ℤ} {e : Edge} {a : ℤ} {depth : ℕ} {c : Spot} {w : ℤ} → AboveReady t e a depth c → w ≡ pos widest_run
    → Climb e a depth c t c.level c.x c.y w t
climb_start {e = e} {depth = depth} {c = c} r k = record {
  below = omega (arith, r.level);
  x_below = r.x_below;
  y_below = r.y_below;
  width = k ∙ ap pos (sym (run_width depth c.level r.level));
  on = subst (λ s. OnCell s e) (run-square c r.level) r.on;
  spare = spare_le (omega (arith, r.level, r.shallow)) r.spare;
  as_long = refl;
  rest = refl;
}

module _ {t : List ℤ} {e : Edge} {a : ℤ} {depth : ℕ} {c : Spot} (r : AboveReady t e a depth c) where
  -- at the tile there is no rest
  pub climb_end : {x y : ℕ} {w : ℤ} {table : List ℤ} → Climb e a depth c t 0 x y w table → table ≡ added t (above e a depth c.level c.x c.y)
  climb_end {x} {y} {table = table} k = sym (added_none table (above e a depth 0 x y) (above_zero e a depth x y)) ∙ k.rest

  -- ---- one level up
  module _ {l x y : ℕ} {w : ℤ} {table : List ℤ} (k : Climb e a depth c t (suc l) x y w table) where
    up : l < depth
    up = omega (arith, k.below)

    half_of : {n : ℕ} → n < 2 ^ suc l → n / 2 < 2 ^ l
    half_of {n} h = omega (arith, h, pow-suc 2 l)

    pub climb_few : (x / 2 < greatest_side) × (y / 2 < greatest_side)
    climb_few =
        let m = pow_mono {i = l} {j = greatest_depth} (omega (arith, k.below, r.shallow)) in
        (omega (arith, half_of k.x_below, m), omega (arith, half_of k.y_below, m))

    pub climb_at : (l < greatest_depth) × (x / 2 < 2 ^ l) × (y / 2 < 2 ^ l)
    climb_at = (omega (arith, k.below, r.shallow), half_of k.x_below, half_of k.y_below)

    wider : w +ℤ w ≡ pos (cell_width depth l)
    wider =
        let more : depth - l ≡ suc (depth - suc l) = omega (arith, k.below) in
        ap (λ z. z +ℤ z) k.width ∙ ap pos (omega (arith, ap (λ n. steps_per_pixel * 2 ^ n) more, pow-suc 2 (depth - suc l)))

    pub climb_wide : Within (pos greatest_coordinate) (w +ℤ w)
    climb_wide =
        let m = pow_mono {i = depth - l} {j = greatest_depth} (omega (arith, r.shallow)) in
        subst⁻¹ (Within (pos greatest_coordinate)) wider (within_le (pos-≤ℤ (omega (arith, m))) (within_self (nonneg (cell_width depth l))))

    -- what is added there
    abbrev pub part : Details
    part = with_area (details e (node_at depth l (x / 2) (y / 2)).square) a (x % 2) (y % 2)

    pub climb_details : {s : Details} → s ≡ with_area (details_in e (square_at (record { level = l; x = x / 2; y = y / 2 }) (w +ℤ w)) (x % 2) (y % 2)) a (x % 2) (y % 2) → s ≡ part
    climb_details i =
        i ∙ ap (λ z. with_area (details_in e (square_at (record { level = l; x = x / 2; y = y / 2 }) z) (x % 2) (y % 2)) a (x % 2) (y % 2)) wider
        ∙ ap (λ d. with_area d a (x % 2) (y % 2)) (sym (details-parent l x y up k.on))

    pub climb_small : SmallDetails part
    climb_small =
        let m : pos (2 ^ 24 + longest_run * triangle_limit) ≤ℤ pos detail_limit = pos-≤ℤ (omega arith) in
        let n : cell_width depth c.level ≤ widest_run = omega (arith, run_width depth c.level r.level) in
        let d = part_small c.level c.x c.y r.shallow n (subst (λ s. OnCell s e) (run-square c r.level) r.on) r.small l (x / 2) (y / 2) (x % 2) (y % 2)
        (omega arith) (omega arith) in
        record { h = within_le m d.h; v = within_le m d.v; d = within_le m d.d }

    pub climb_step : {s : Details} {first : ℕ} {after : List ℤ} → s ≡ part → first ≡ first_detail (node_at depth l (x / 2) (y / 2)) → after ≡ added table (own_part s first)
        → Climb e a depth c t l (x / 2) (y / 2) (w +ℤ w) after
    climb_step {s} {first} {after} i j n = record {
      below = omega (arith, k.below);
      x_below = half_of k.x_below;
      y_below = half_of k.y_below;
      width = wider;
      on = parent_on l x y up k.on;
      spare = subst⁻¹ (λ u. Spare u l) is (spare_added 1 l own (λ m h. own_within climb_small (first_detail (node_at depth l (x / 2) (y / 2))) m) (subst (Spare table) (omega arith) k.spare));
      as_long = ap length is ∙ added-length table own ∙ k.as_long;
      rest = ap (λ u. added u (above e a depth l (x / 2) (y / 2))) is
          ∙ added-both table own (above e a depth l (x / 2) (y / 2)) (above e a depth (suc l) x y) (λ m h. both (own m) (above e a depth l (x / 2) (y / 2) m) ∙ sym (above-suc e a depth l x y m))
          ∙ k.rest;
    }
      where
        own : ℕ → ℤ
        own = own_part part (first_detail (node_at depth l (x / 2) (y / 2)))

        both : (p q : ℤ) → p +ℤ q ≡ q +ℤ p
        both p q = ring (p ∷ q ∷ []) (search read depth 40) tt

        is : after ≡ added table own
        is = n ∙ ap₂ (λ d f. added table (own_part d f)) i j

    -- the three have their places in the table
    pub climb_first : {first : ℕ} → first ≡ first_detail (node_at depth l (x / 2) (y / 2)) → first + 2 < length table
    climb_first f =
        let last : index dimensions l (at (x / 2) (y / 2)) d_detail < children dimensions ^ depth =
        index_within up (record { inside = (half_of k.x_below, (half_of k.y_below, tt)); first = omega arith; last = omega arith }) in
        omega (arith, f, last, k.as_long, r.exact, index_plane l (x / 2) (y / 2) h_detail, index_plane l (x / 2) (y / 2) d_detail)
