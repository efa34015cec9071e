-- The quarter law of closed edges: 4 × area(quarter) = area ± h ± v ± d. The law of one edge has a term of its two end points besides; added up, it
-- cancels.
--
-- Main results
--   edges_quarter                of any square with an even width
--   outline_quarter              of the tile's cells
use Rattle.std.specs.Prelude.{◌≡◌, List, [], ◌∷◌, ℕ, suc, ◌/◌, ◌%◌, ◌<◌, ◌*ℤ◌, ◌≤ℤ◌}
use Rattle.std.proofs.Math.Path.{sym, ap₂}
use Rattle.std.proofs.Common.{◌∙◌, ap, arith, mod-lt}
use Rattle.std.proofs.Math.IntN.{ℤ, pos, ◌+ℤ◌}
use Rattle.integers.proofs.Theorems.Ring.{read, ring, comb, ◌⊕◌, ◌⊗◌}
use Rattle.integers.proofs.Theorems.Order.{nonneg}
use Rattle.integers.specs.HalfSign.{half_sign}
use Rattle.integers.proofs.Theorems.ListSum.{all_of, total_scale}
use Rattle.integers.specs.ListSum.{total}
use Rattle.integers.specs.Fraction.{common, numer}
use Rattle.integers.proofs.Theorems.Fraction.{numer_cong, numer-add, numer_scale, numer_whole}
use Rattle.edge.specs.declared.Edge.{Edge}
use Rattle.edge.specs.declared.Cell.{Cell as Square}
use Rattle.edge.specs.Walk.{steps}
use Rattle.edge.specs.Integrals.{area_num}
use Rattle.edge.specs.Nested.{quarter}
use Rattle.edge.proofs.Laws.Quarter.{boundary, edge-quarter}
use Rattle.haar.specs.Plane.{h_detail, v_detail, d_detail, quarter_details, at}
use Rattle.accuracy.specs.Outline.{gain, ClosedEdges}
use Rattle.accuracy.specs.Tile.{cell_width, square}
use Rattle.accuracy.specs.ExactArea.{exact_area_num}
use Rattle.accuracy.specs.ExactDetails.{numbered, detail_num, exact_detail_num}
use Rattle.accuracy.proofs.Laws.Squares.{cell_width-halves, square-quarter}

module _ {es : List Edge} (closed : ClosedEdges es) where
  -- twice the gain of f along each edge, as a fraction over its steps
  gains : (f : ℤ → ℤ → ℤ) → numer steps (λ e. pos (steps e) *ℤ (pos 2 *ℤ gain f e)) es ≡ pos 0
  gains f =
      numer_cong steps (λ e. pos (steps e) *ℤ (pos 2 *ℤ gain f e)) (λ e. pos 2 *ℤ gain f e *ℤ pos (steps e)) es
      (all_of (λ e. ring (pos (steps e) ∷ gain f e ∷ []) (search read depth 40) tt) es)
      ∙ numer_whole steps (λ e. pos 2 *ℤ gain f e) es
      ∙ comb (total (λ e. pos 2 *ℤ gain f e) es ∷ total (gain f) es ∷ pos (common steps es) ∷ [])
      (pos (common steps es) ⊗ total_scale (pos 2) (gain f) es ⊕ (pos 2 *ℤ pos (common steps es)) ⊗ closed.cancels f) (search read depth 40) tt

  pub edges_quarter : (c : Square) (half : ℤ) → c.width ≡ half +ℤ half → pos 0 ≤ℤ half → (a b : ℕ) → a < 2 → b < 2
      → pos 4 *ℤ numer steps (λ e. area_num e (quarter c half a b)) es
      ≡ numer steps (λ e. area_num e c) es +ℤ quarter_details (λ k. numer steps (detail_num c k) es) a b
  unfolding numbered
  edges_quarter c half w h a b i j =
      sym (numer_scale steps (pos 4) (λ e. area_num e (quarter c half a b)) es)
      ∙ numer_cong steps (λ e. pos 4 *ℤ area_num e (quarter c half a b)) (λ e. area_h_v e +ℤ s *ℤ r *ℤ detail_num c d_detail e) es
      (all_of (λ e. edge-quarter e c half w h a b i j) es)
      ∙ numer-add steps area_h_v (λ e. s *ℤ r *ℤ detail_num c d_detail e) es
      ∙ ap₂ ◌+ℤ◌ without_ends (numer_scale steps (s *ℤ r) (detail_num c d_detail) es)
      ∙ ring (pos a ∷ pos b ∷ area_sum ∷ h_sum ∷ v_sum ∷ numer steps (detail_num c d_detail) es ∷ []) (search read depth 40) tt
    where
      s : ℤ
      s = half_sign a

      r : ℤ
      r = half_sign b

      area_sum : ℤ
      area_sum = numer steps (λ e. area_num e c) es

      h_sum : ℤ
      h_sum = numer steps (detail_num c h_detail) es

      v_sum : ℤ
      v_sum = numer steps (detail_num c v_detail) es

      ends : Edge → ℤ
      ends e = pos (steps e) *ℤ (pos 2 *ℤ gain (boundary c) e)

      area_h_v : Edge → ℤ
      area_h_v e = area_num e c +ℤ s *ℤ detail_num c h_detail e +ℤ r *ℤ (detail_num c v_detail e +ℤ ends e)

      without_ends : numer steps area_h_v es ≡ area_sum +ℤ s *ℤ h_sum +ℤ r *ℤ v_sum
      without_ends =
          numer-add steps (λ e. area_num e c +ℤ s *ℤ detail_num c h_detail e) (λ e. r *ℤ (detail_num c v_detail e +ℤ ends e)) es
          ∙ ap₂ ◌+ℤ◌
          (numer-add steps (λ e. area_num e c) (λ e. s *ℤ detail_num c h_detail e) es ∙ ap (λ z. area_sum +ℤ z) (numer_scale steps s (detail_num c h_detail) es))
          (numer_scale steps r (λ e. detail_num c v_detail e +ℤ ends e) es ∙ ap (λ z. r *ℤ z) (numer-add steps (detail_num c v_detail) ends es
          ∙ comb (v_sum ∷ numer steps ends es ∷ []) (gains (boundary c)) (search read depth 40) tt))

-- ---- the cells of a tile
pub outline_quarter : {es : List Edge} → ClosedEdges es → (depth j cx cy : ℕ) → j < depth
    → pos 4 *ℤ exact_area_num depth es (suc j) (at cx cy)
    ≡ exact_area_num depth es j (at (cx / 2) (cy / 2)) +ℤ quarter_details (exact_detail_num depth es j (at (cx / 2) (cy / 2))) (cx % 2) (cy % 2)
outline_quarter {es} closed depth j cx cy h =
    ap (λ c. pos 4 *ℤ numer steps (λ e. area_num e c) es) (square-quarter depth j cx cy h)
    ∙ edges_quarter closed (square depth j (at (cx / 2) (cy / 2))) (pos (cell_width depth (suc j))) (cell_width-halves depth j h)
    (nonneg (cell_width depth (suc j))) (cx % 2) (cy % 2) (mod-lt cx (omega arith)) (mod-lt cy (omega arith))
