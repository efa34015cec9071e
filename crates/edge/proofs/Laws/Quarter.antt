-- The quarter law of one edge: four times its area in a quarter of a cell is its area in the cell, plus or minus its three details there, and a
-- term of its two end points.
--
-- Main results
--   boundary                the term of an end point
--   edge-quarter            4 × area in quarter (i, j) = area ± h ± (v and the end points' terms) ± d, for the four quarters at once: h has the sign
--                           `half_sign i` there, v `half_sign j`, d their product
use Rattle.std.specs.Prelude.{◌≡◌, [], ◌∷◌, ℕ, ◌<◌, ℤ, ◌+ℤ◌, ◌-ℤ◌, ◌≤ℤ◌}
use Rattle.std.proofs.Common.{sym, ◌∙◌, ap}
use Rattle.std.proofs.Math.Path.{ap₂}
use Rattle.std.proofs.Math.IntN.{pos, negsuc, ◌*ℤ◌}
use Rattle.integers.proofs.Theorems.Ring.{read, ring, comb, ◌⊕◌, ◌⊗◌}
use Rattle.integers.proofs.Theorems.Order.{nonneg, ≤ℤ-mul-nonneg}
use Rattle.integers.proofs.Theorems.Linear.{le, eq, ◌&◌, linear, lin≤}
use Rattle.integers.specs.Clamp.{clamp}
use Rattle.integers.specs.Tent.{tent}
use Rattle.integers.proofs.Theorems.Tent.{half_of}
use Rattle.integers.specs.HalfSign.{half_sign}
use Rattle.integers.specs.Trapezoid.{S}
use Rattle.integers.proofs.Theorems.Trapezoid.{S_cong, S-product, S_addˡ, S_addʳ, S_scaleˡ, S_scaleʳ}
use Rattle.edge.specs.declared.Edge.{Edge}
use Rattle.edge.specs.declared.Cell.{Cell}
use Rattle.edge.specs.declared.Axis.{Axis}
use Rattle.edge.specs.Walk.{ax, ay, steps, x_axis, y_axis, beyond, past, near}
use Rattle.edge.specs.Nested.{quarter}
use Rattle.edge.proofs.Lemmas.Ends.{beyond_start, x_end, y_end, past_scale, near_scale}
use Rattle.edge.specs.Integrals.{along, area_num, h_num, v_num, d_num}

-- A function of the end point alone: around a closed contour each point is the end of one edge and the start of the next, and it cancels.
unfoldable pub boundary : Cell → ℤ → ℤ → ℤ
boundary c px py = clamp (px -ℤ c.left) (pos 0) c.width *ℤ tent c.width (py -ℤ c.top)

-- ---- 2 f = F + σ A and 2 g = G + τ B: four times S(f, g)
S-halves : (f g F G A B : ℕ → ℤ) (σ τ : ℤ) (n : ℕ) → ((t : ℕ) → pos 2 *ℤ f t ≡ F t +ℤ σ *ℤ A t) → ((t : ℕ) → pos 2 *ℤ g t ≡ G t +ℤ τ *ℤ B t)
    → pos 4 *ℤ S f g n ≡ S F G n +ℤ σ *ℤ S A G n +ℤ τ *ℤ S F B n +ℤ σ *ℤ τ *ℤ S A B n
S-halves f g F G A B σ τ n p q =
    doubled
    ∙ S_cong (λ t. pos 2 *ℤ f t) (λ t. F t +ℤ σ *ℤ A t) (λ t. pos 2 *ℤ g t) G+B n (λ t h. p t) (λ t h. q t)
    ∙ S_addˡ F (λ t. σ *ℤ A t) G+B n
    ∙ ap₂ ◌+ℤ◌ (right F) (S_scaleˡ σ A G+B n ∙ ap (λ z. σ *ℤ z) (right A))
    ∙ ring (S F G n ∷ S A G n ∷ S F B n ∷ S A B n ∷ σ ∷ τ ∷ []) (search read depth 40) tt
  where
    G+B : ℕ → ℤ
    G+B t = G t +ℤ τ *ℤ B t

    right : (D : ℕ → ℤ) → S D G+B n ≡ S D G n +ℤ τ *ℤ S D B n
    right D = S_addʳ D G (λ t. τ *ℤ B t) n ∙ ap (λ z. S D G n +ℤ z) (S_scaleʳ τ D B n)

    doubled : pos 4 *ℤ S f g n ≡ S (λ t. pos 2 *ℤ f t) (λ t. pos 2 *ℤ g t) n
    doubled =
        ring (S f g n ∷ []) (search read depth 40) tt
        ∙ sym (S_scaleˡ (pos 2) f (λ t. pos 2 *ℤ g t) n ∙ ap (λ z. pos 2 *ℤ z) (S_scaleʳ (pos 2) f g n))

-- ---- one direction: twice how far the walk is past a half's side is that of the whole, plus or minus the distance to the nearer side
past_half : (a : Axis) (side : ℤ) {w half : ℤ} → pos 0 ≤ℤ a.scale → w ≡ half +ℤ half → pos 0 ≤ℤ half → (b : ℕ) → b < 2 → (t : ℤ)
    → pos 2 *ℤ past a (side +ℤ pos b *ℤ half) half t ≡ past a side w t +ℤ half_sign b *ℤ near a side w t
past_half a side {w} {half} g e h b k t =
    let whole : a.scale *ℤ w ≡ a.scale *ℤ half +ℤ a.scale *ℤ half = comb (a.scale ∷ w ∷ half ∷ []) (a.scale ⊗ e) (search read depth 40) tt in
    ap (λ v. pos 2 *ℤ clamp v (pos 0) (a.scale *ℤ half)) {y = beyond a side t -ℤ pos b *ℤ (a.scale *ℤ half)}
    (ring (a.scale ∷ a.start ∷ a.sign ∷ side ∷ half ∷ pos b ∷ t ∷ []) (search read depth 40) tt)
    ∙ half_of whole (≤ℤ-mul-nonneg g h) b k (beyond a side t)

-- ---- an edge
module _ (e : Edge) (c : Cell) (w≥0 : pos 0 ≤ℤ c.width) where
  abbrev past_x : ℤ → ℤ
  past_x t = past (x_axis e) c.left c.width t

  abbrev near_y : ℤ → ℤ
  near_y t = near (y_axis e) c.top c.width t

  -- where the walk is at the point (px, py) after t steps
  at_point : (px py t : ℤ) → beyond (x_axis e) c.left t ≡ pos (ay e) *ℤ (px -ℤ c.left) → beyond (y_axis e) c.top t ≡ pos (ax e) *ℤ (py -ℤ c.top)
      → past_x t *ℤ near_y t ≡ pos (steps e) *ℤ boundary c px py
  unfolding boundary
  at_point px py t p q =
      ap₂ ◌*ℤ◌ (past_scale (x_axis e) c.left c.width t px (nonneg (ay e)) w≥0 p) (near_scale (y_axis e) c.top c.width t py (nonneg (ax e)) w≥0 q)
      ∙ ring (pos (ax e) ∷ pos (ay e) ∷ clamp (px -ℤ c.left) (pos 0) c.width ∷ tent c.width (py -ℤ c.top) ∷ []) (search read depth 40) tt

  -- The upper half less the lower half, by the product rule: v exchanges the two functions, and the ends are left.
  upper_less_lower : along past_x near_y (steps e) ≡ v_num e c +ℤ pos (steps e) *ℤ (pos 2 *ℤ (boundary c e.x1 e.y1 -ℤ boundary c e.x0 e.y0))
  unfolding v_num
  upper_less_lower =
      let N = pos (steps e) in
      comb (along past_x near_y (steps e) ∷ along near_y past_x (steps e) ∷ past_x N ∷ near_y N ∷ past_x (pos 0) ∷ near_y (pos 0) ∷ pos (ax e) ∷ pos (ay e)
      ∷ boundary c e.x1 e.y1 ∷ boundary c e.x0 e.y0 ∷ [])
      (S-product (λ t. past_x (pos t)) (λ t. near_y (pos t)) (steps e)
      ⊕ pos 2 ⊗ at_point e.x1 e.y1 N (x_end e c.left) (y_end e c.top)
      ⊕ negsuc 1 ⊗ at_point e.x0 e.y0 (pos 0) (beyond_start (x_axis e) c.left) (beyond_start (y_axis e) c.top)) (search read depth 40) tt

pub edge-quarter : (e : Edge) (c : Cell) (half : ℤ) → c.width ≡ half +ℤ half → pos 0 ≤ℤ half → (i j : ℕ) → i < 2 → j < 2
    → pos 4 *ℤ area_num e (quarter c half i j)
    ≡ area_num e c +ℤ half_sign i *ℤ h_num e c
    +ℤ half_sign j *ℤ (v_num e c +ℤ pos (steps e) *ℤ (pos 2 *ℤ (boundary c e.x1 e.y1 -ℤ boundary c e.x0 e.y0)))
    +ℤ half_sign i *ℤ half_sign j *ℤ d_num e c
unfolding area_num h_num d_num
edge-quarter e c half w h i j k l =
    let w≥0 : pos 0 ≤ℤ c.width = lin≤ (c.width ∷ half ∷ []) (eq w & le h) (search linear depth 40) tt in
    let q = quarter c half i j in
    S-halves (λ t. past (x_axis e) q.left half (pos t)) (λ t. past (y_axis e) q.top half (pos t))
    (λ t. past (x_axis e) c.left c.width (pos t)) (λ t. past (y_axis e) c.top c.width (pos t))
    (λ t. near (x_axis e) c.left c.width (pos t)) (λ t. near (y_axis e) c.top c.width (pos t)) (half_sign i) (half_sign j) (steps e)
    (λ t. past_half (x_axis e) c.left (nonneg (ay e)) w h i k (pos t)) (λ t. past_half (y_axis e) c.top (nonneg (ax e)) w h j l (pos t))
    ∙ ap (λ z. area_num e c +ℤ half_sign i *ℤ h_num e c +ℤ half_sign j *ℤ z +ℤ half_sign i *ℤ half_sign j *ℤ d_num e c) (upper_less_lower e c w≥0)
