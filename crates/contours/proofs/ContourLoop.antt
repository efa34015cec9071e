-- A contour edge by edge.
--
-- Main results
--   ContourLoop                                       the first k edges are added
--   contour_start, contour_step, contour_end          none, some more, all
--   contour_asks, contour_edge                        what the next edge asks for: room, and to be in view
--   of_all                                            the edge among the first n points, where these are all
--   edges_one, contour_one                            what one edge adds
--   once                                              with the sign 1 what is added is itself
use mathlib.Core.Path.{◌≡◌, sym, ◌∙◌, ap, subst⁻¹}
use mathlib.Core.List.{List, [], ◌∷◌}
use Prim.Native.Nat.{ℕ, ◌+◌, ◌*◌, ◌-◌, ◌/◌, ◌<◌, ◌≤◌}
use native.Mathlib.Omega.{arith}
use lib.ListN.{length}
use lib.IntN.{ℤ, pos, ◌+ℤ◌, ◌*ℤ◌}
use Rattle.integers.specs.Units.{detail_limit}
use Rattle.integers.proofs.Theorems.Ring.{read, ring}
use Rattle.integers.specs.Within.{Within}
use Rattle.integers.specs.ListSum.{All}
use Rattle.integers.specs.RangeSum.{Σ<}
use Rattle.integers.proofs.Theorems.RangeSum.{Σ-zero, Σ-suc, Σ-split, Σ_within}
use Rattle.edge.specs.declared.Edge.{Edge}
use Rattle.accuracy.specs.Outline.{points_of, contour_edges}
use Rattle.rasterize.specs.declared.View.{View}
use Rattle.rasterize.specs.Added.{added, entry_of}
use Rattle.contours.specs.Contour.{edge_of, edge_entry, edges_from}
use Rattle.rasterize.specs.Ready.{Fits}
use Rattle.rasterize.specs.Views.{part_table, InView}
use Rattle.rasterize.proofs.Laws.Adding.{added_same, added-signed, added_nothing}
use Rattle.rasterize.proofs.Laws.Sums.{entry_of-total, edge_entry_within}
use Rattle.rasterize.specs.Laws.Sums.{edges_part}
use Rattle.rasterize.proofs.Laws.Fitting.{fits_le, fits-added}
use Rattle.rasterize.proofs.Laws.Spare.{signed_within}
use Rattle.contours.specs.Laws.ContourEdges.{contour_edges-sum, edge_of-has}

-- what a contour's first k edges add
abbrev first_edges : View → ℕ → List ℤ → ℕ → ℕ → ℤ
first_edges view depth points k i = Σ< k (edge_entry view depth points i)

-- one edge
pub edges_one : (view : View) (depth : ℕ) (points : List ℤ) (k i : ℕ) → edges_from view depth points k 1 i ≡ edge_entry view depth points i k
edges_one view depth points k i =
    let f : ℕ → ℤ = λ u. edge_entry view depth points i (k + u) in
    let here : k + 0 ≡ k = omega arith in
    Σ-suc 0 f ∙ ap (λ z. z +ℤ f 0) (Σ-zero f) ∙ ring (f 0 ∷ []) (search read depth 40) tt ∙ ap (edge_entry view depth points i) here

pub of_all : (points : List ℤ) (k : ℕ) {e : Edge} {n : ℕ} → e ≡ edge_of points n k → n ≡ length points / 2 → e ≡ edge_of points (length points / 2) k
of_all points k w h = w ∙ ap (λ n. edge_of points n k) h

-- `before` is the table before the first edge
module _ (view : View) (depth : ℕ) (sign : ℤ) (points before : List ℤ) where
  pub record ContourLoop (table : List ℤ) (k : ℕ) : Type 0 where
    pub reached : k ≤ length points / 2
    pub has : table ≡ added before (λ i. sign *ℤ first_edges view depth points k i)
    pub fits : Fits table depth (length points / 2 - k)

pub contour_start : {view : View} {depth : ℕ} (sign : ℤ) {points before : List ℤ} → Fits before depth (length points / 2) → ContourLoop view depth sign points before before 0
contour_start {view} {depth} sign {points} {before} f = record {
  reached = omega arith;
  has = sym (added_nothing before sign (first_edges view depth points 0) (λ i. Σ-zero (edge_entry view depth points i)));
  fits = fits_le (omega arith) f;
}

module _ {view : View} {depth : ℕ} (points : List ℤ) (on : All (InView view depth) (contour_edges (points_of points))) {k : ℕ} (h : k < length points / 2) {e : Edge}
    (w : e ≡ edge_of points (length points / 2) k) where
  pub contour_edge : InView view depth e
  contour_edge = subst⁻¹ (InView view depth) w (edge_of-has points (InView view depth) on k h)

pub contour_one : (view : View) (depth : ℕ) (sign : ℤ) (points before : List ℤ) (k : ℕ) {e : Edge} {after : List ℤ} → e ≡ edge_of points (length points / 2) k
    → after ≡ added before (λ i. sign *ℤ entry_of depth (part_table view depth e) i) → after ≡ added before (λ i. sign *ℤ edges_from view depth points k 1 i)
contour_one view depth sign points before k {e} w a =
    a ∙ added_same before (λ i. sign *ℤ entry_of depth (part_table view depth e) i) (λ i. sign *ℤ edges_from view depth points k 1 i)
    (λ i q. ap (λ z. sign *ℤ z) (ap (λ d. entry_of depth (part_table view depth d) i) w ∙ sym (edges_one view depth points k i)))

pub once : (t : List ℤ) (f : ℕ → ℤ) → added t (λ i. pos 1 *ℤ f i) ≡ added t f
once t f = added_same t (λ i. pos 1 *ℤ f i) f (λ i h. ring (f i ∷ []) (search read depth 40) tt)

-- m edges more
pub contour_step : {view : View} {depth : ℕ} {sign : ℤ} {points before table after : List ℤ} {k : ℕ} (m : ℕ) → All (InView view depth) (contour_edges (points_of points))
    → Within (pos 1) sign → k + m ≤ length points / 2 → ContourLoop view depth sign points before table k
    → after ≡ added table (λ i. sign *ℤ edges_from view depth points k m i) → ContourLoop view depth sign points before after (k + m)
contour_step {view} {depth} {sign} {points} {before} {table} {after} {k} m on s e l a = record {
  reached = e;
  has = a ∙ ap (λ t. added t (λ i. sign *ℤ these i)) l.has
      ∙ added-signed before sign (first_edges view depth points k) these (first_edges view depth points (k + m))
      (λ i q. sym (Σ-split k m (edge_entry view depth points i)));
  fits = subst⁻¹ (λ t. Fits t depth (length points / 2 - (k + m))) a
      (fits-added m (length points / 2 - (k + m)) (λ i. sign *ℤ these i) small (fits_le (omega arith) l.fits));
}
  where
    these : ℕ → ℤ
    these i = edges_from view depth points k m i

    small : (i : ℕ) → Within (pos (m * detail_limit)) (sign *ℤ these i)
    small i = signed_within s (Σ_within m (λ u. edge_entry view depth points i (k + u))
        (λ u q. edge_entry_within (edge_of-has points (InView view depth) on (k + u) (omega arith)) i))

pub contour_asks : {view : View} {depth : ℕ} {sign : ℤ} {points before table : List ℤ} {k : ℕ} → ContourLoop view depth sign points before table k → k < length points / 2
    → Fits table depth 1
contour_asks l h = fits_le (omega arith) l.fits

pub contour_end : {view : View} {depth : ℕ} {sign : ℤ} {points before table : List ℤ} {k : ℕ} → ContourLoop view depth sign points before table k → length points / 2 ≤ k
    → table ≡ added before (edges_part view depth sign (contour_edges (points_of points)))
contour_end {view} {depth} {sign} {points} {before} {table} {k} l h =
    let all : k ≡ length points / 2 = omega (arith, l.reached) in
    l.has
    ∙ added_same before (λ i. sign *ℤ first_edges view depth points k i) (edges_part view depth sign (contour_edges (points_of points)))
    (λ i q. ap (λ z. sign *ℤ z) (ap (λ m. Σ< m (edge_entry view depth points i)) all
    ∙ sym (entry_of-total view depth (contour_edges (points_of points)) i ∙ contour_edges-sum points (λ e. entry_of depth (part_table view depth e) i))))
