-- How far a figure misses 4^L times the exact area: as far as the rounding errors of the cells in which its cell lies, each counted 4^j times. What a
-- figure misses by is itself the figure of a table, that of the errors, since figures are linear in the table.
--
-- Main results
--   RootMiss root depth es r     the root misses the tile's exact area by at most r half units
--   miss_by_edges                in half units, a figure then misses by at most r and the sum over the levels j < L of 3 × 4^j times the edges counted in that
--                                level's cell
--   miss_within                  so by at most (4^L − 1) × edges + r half units
--   miss_zero                    and by nothing, where r is 0 and every edge is level, upright or at 45 degrees
use Rattle.std.specs.Prelude.{◌≡◌, refl, List, [], ◌∷◌, ℕ, ◌+◌, ◌*◌, ◌-◌, ◌^◌, length, ℤ, pos, negsuc, ◌-ℤ◌, ◌*ℤ◌}
use Rattle.std.proofs.Common.{◌∙◌, ap, arith}
use Rattle.std.proofs.Math.Nat.{one-le-pow}
use Rattle.integers.proofs.Theorems.Ring.{read, ring, comb, ◌⊗◌}
use Rattle.integers.proofs.Theorems.Linear.{eq, linear, lin≡}
use Rattle.integers.specs.Within.{Within}
use Rattle.integers.proofs.Theorems.Within.{within_is, zero_of_within}
use Rattle.integers.specs.ListSum.{All, tally}
use Rattle.integers.proofs.Theorems.ListSum.{tally_const}
use Rattle.edge.specs.declared.Edge.{Edge}
use Rattle.edge.specs.Octilinear.{Octilinear}
use Rattle.haar.specs.Cells.{Cell}
use Rattle.haar.specs.Table.{Coefficients, Bounded}
use Rattle.haar.specs.Plane.{dimensions, at, figure_at}
use Rattle.haar.proofs.Laws.FigureBounds.{bound, figure_within, bound_const, bound_scale}
use Rattle.haar.proofs.Laws.FigureLinear.{combine, figure_linear}
use Rattle.accuracy.specs.Outline.{ClosedEdges}
use Rattle.accuracy.specs.Tile.{CellOf}
use Rattle.accuracy.specs.ExactArea.{denominator, exact_area_num}
use Rattle.accuracy.specs.ExactDetails.{exact_detail_num}
use Rattle.accuracy.specs.OutlineTable.{table_from}
use Rattle.accuracy.specs.Accurate.{miss_from, twice_miss_limit}
use Rattle.accuracy.proofs.Laws.ExactFigures.{exact_table, exact_figure}
use Rattle.accuracy.proofs.Laws.RoundingErrors.{Counts, counts-inside, counts_octilinear, detail_misses}

-- twice the errors of the table's entries, `denominator es` times over
abbrev errors : ℤ → ℕ → List Edge → Coefficients dimensions
errors root depth es = combine (pos 2 *ℤ pos (denominator es)) (table_from root depth es) (negsuc 1) (exact_table depth es)

-- the root misses the tile's exact area by at most r half units
pub record RootMiss (root : ℤ) (depth : ℕ) (es : List Edge) (r : ℕ) : Type 0 where
  pub near : Within (pos (r * denominator es)) (pos 2 *ℤ (root *ℤ pos (denominator es) -ℤ exact_area_num depth es 0 (at 0 0)))

-- where every cell above contributes n: 3 × (1 + 4 + .. + 4^(L − 1)) = 4^L − 1 times n
bound_same : (n level cx cy : ℕ) → bound dimensions 0 (λ j cell. n) level (at cx cy) ≡ twice_miss_limit level n
bound_same n level cx cy =
    let b : bound dimensions 0 (λ j cell. n) level (at cx cy) + n ≡ 4 ^ level * n + 0 = bound_const dimensions 0 n level (at cx cy) in
    let p : 4 ^ level ≡ 4 ^ level - 1 + 1 = omega (arith, one-le-pow level 4 (omega arith)) in
    omega (arith, b, ap (λ m. m * n) p)

-- every edge counted once in each cell: 4^level − 1 times the edges, and the root's own
all_counted : (es : List Edge) (r level cx cy : ℕ) → bound dimensions r (λ j cell. tally (λ e. 1) es) level (at cx cy) ≡ twice_miss_limit level (length es) + r
all_counted es r level cx cy =
    let all : tally (λ e. 1) es ≡ length es = omega (arith, tally_const 1 es) in
    let b = bound_const dimensions r (tally (λ e. 1) es) level (at cx cy) in
    let p : 4 ^ level ≡ 4 ^ level - 1 + 1 = omega (arith, one-le-pow level 4 (omega arith)) in
    omega (arith, b, all, ap (λ m. m * tally (λ e. 1) es) p, ap (λ m. (4 ^ level - 1) * m) all)

-- ---- any root, any closed edges
module _ {depth : ℕ} {es : List Edge} (closed : ClosedEdges es) (root : ℤ) where
  errors-figure : (level cx cy : ℕ) → CellOf depth level cx cy → figure_at (errors root depth es) level cx cy ≡ pos 2 *ℤ miss_from root depth es level cx cy
  errors-figure level cx cy c =
      figure_linear dimensions (pos 2 *ℤ pos (denominator es)) (table_from root depth es) (negsuc 1) (exact_table depth es) level (at cx cy)
      ∙ comb
      (figure_at (table_from root depth es) level cx cy ∷ figure_at (exact_table depth es) level cx cy ∷ exact_area_num depth es level (at cx cy)
      ∷ pos (denominator es) ∷ pos (4 ^ level) ∷ [])
      (negsuc 1 ⊗ exact_figure closed level c.level_to_depth (at cx cy) (c.x_below, (c.y_below, tt))) (search read depth 40) tt

  pub miss_by_edges : {k : ℕ → Cell dimensions → Edge → ℕ} {r : ℕ} → Counts depth es k → RootMiss root depth es r
      → (level cx cy : ℕ) → CellOf depth level cx cy
      → Within (pos (bound dimensions r (λ j cell. tally (k j cell) es) level (at cx cy) * denominator es)) (pos 2 *ℤ miss_from root depth es level cx cy)
  miss_by_edges {k} {r} n whole level cx cy c =
      within_is (ap pos scaled) (errors-figure level cx cy c)
      (figure_within bounded level c.level_to_depth (at cx cy) (c.x_below, (c.y_below, tt)))
    where
      D : ℕ
      D = denominator es

      bounded : Bounded dimensions depth (r * D) (λ j cell. tally (k j cell) es * D) (errors root depth es)
      bounded = record {
        root_within = within_is refl (ring (root ∷ exact_area_num depth es 0 (at 0 0) ∷ pos D ∷ []) (search read depth 40) tt) whole.near;
        detail_within = λ j h cell b d i l.
            within_is refl (ring ((table_from root depth es).detail j cell d ∷ exact_detail_num depth es j cell d ∷ pos D ∷ []) (search read depth 40) tt)
            (detail_misses n j h cell d i l);
      }

      scaled : bound dimensions (r * D) (λ j cell. tally (k j cell) es * D) level (at cx cy)
          ≡ bound dimensions r (λ j cell. tally (k j cell) es) level (at cx cy) * D
      scaled = bound_scale dimensions r (λ j cell. tally (k j cell) es) D level (at cx cy)

  pub miss_within : {r : ℕ} → RootMiss root depth es r → (level cx cy : ℕ) → CellOf depth level cx cy
      → Within (pos ((twice_miss_limit level (length es) + r) * denominator es)) (pos 2 *ℤ miss_from root depth es level cx cy)
  miss_within {r} whole level cx cy c =
      within_is (ap (λ n. pos (n * denominator es)) (all_counted es r level cx cy)) refl
      (miss_by_edges (counts-inside depth es (λ j cell e. 1) (λ j cell e n. absurd (omega arith))) whole level cx cy c)

  pub miss_zero : RootMiss root depth es 0 → All Octilinear es → (level cx cy : ℕ) → CellOf depth level cx cy → miss_from root depth es level cx cy ≡ pos 0
  miss_zero whole s level cx cy c =
      let none : tally (λ e. 0) es ≡ 0 = omega (arith, tally_const 0 es) in
      let b : bound dimensions 0 (λ j cell. tally (λ e. 0) es) level (at cx cy) * denominator es ≡ 0 =
      omega (arith, ap (λ n. n * denominator es) (bound_same (tally (λ e. 0) es) level cx cy ∙ ap (twice_miss_limit level) none)) in
      lin≡ (miss_from root depth es level cx cy ∷ [])
      (eq (zero_of_within (within_is (ap pos b) refl (miss_by_edges (counts_octilinear depth s) whole level cx cy c)))) (search linear depth 40) (tt, tt)
