-- h and d of an edge by the halves of a cell, as 01 also says them: "area in the left half less area in the right half", and "as h, with the sign
-- turned in the lower half".
--
-- Main results
--   near_by_halves      the distance to the nearer side is how far past the first half's side, less how far past the second half's
--   h_by_halves         h = area in the left half − area in the right half
--   d_by_halves         d = h by the upper rows − h by the lower rows
use Rattle.std.specs.Prelude.{◌≡◌, [], ◌∷◌, pos, negsuc, ◌+ℤ◌, ◌-ℤ◌, ◌*ℤ◌, ◌≤ℤ◌}
use Rattle.std.proofs.Common.{◌∙◌, ap}
use Prim.Native.Nat.{ℕ}
use Rattle.std.proofs.Math.IntN.{ℤ}
use Rattle.integers.proofs.Theorems.Ring.{read, ring, comb, ◌⊗◌}
use Rattle.integers.proofs.Theorems.Order.{nonneg, ≤ℤ-mul-nonneg}
use Rattle.integers.specs.Clamp.{clamp}
use Rattle.integers.proofs.Theorems.Tent.{tent-halves}
use Rattle.integers.specs.Trapezoid.{S}
use Rattle.integers.proofs.Theorems.Trapezoid.{S_cong, S_addˡ, S_scaleˡ, S_addʳ, S_scaleʳ}
use Rattle.edge.specs.declared.Axis.{Axis}
use Rattle.edge.specs.declared.Cell.{Cell}
use Rattle.edge.specs.declared.Edge.{Edge}
use Rattle.edge.specs.Walk.{ax, ay, steps, x_axis, y_axis, beyond, past, near}
use Rattle.edge.specs.Integrals.{along, h_num, d_num}

-- ---- a difference of functions, on either side of an integral
S_subˡ : (f f' g : ℕ → ℤ) (n : ℕ) → S (λ t. f t -ℤ f' t) g n ≡ S f g n -ℤ S f' g n
S_subˡ f f' g n =
    S_cong (λ t. f t -ℤ f' t) (λ t. f t +ℤ negsuc 0 *ℤ f' t) g g n (λ t h. ring (f t ∷ f' t ∷ []) (search read depth 40) tt) (λ t h. ring (g t ∷ []) (search read depth 40) tt)
    ∙ S_addˡ f (λ t. negsuc 0 *ℤ f' t) g n
    ∙ comb (S f g n ∷ S f' g n ∷ S (λ t. negsuc 0 *ℤ f' t) g n ∷ []) (S_scaleˡ (negsuc 0) f' g n) (search read depth 40) tt

S_subʳ : (f g g' : ℕ → ℤ) (n : ℕ) → S f (λ t. g t -ℤ g' t) n ≡ S f g n -ℤ S f g' n
S_subʳ f g g' n =
    S_cong f f (λ t. g t -ℤ g' t) (λ t. g t +ℤ negsuc 0 *ℤ g' t) n (λ t h. ring (f t ∷ []) (search read depth 40) tt) (λ t h. ring (g t ∷ g' t ∷ []) (search read depth 40) tt)
    ∙ S_addʳ f g (λ t. negsuc 0 *ℤ g' t) n
    ∙ comb (S f g n ∷ S f g' n ∷ S f (λ t. negsuc 0 *ℤ g' t) n ∷ []) (S_scaleʳ (negsuc 0) f g' n) (search read depth 40) tt

-- ---- one direction
pub near_by_halves : (a : Axis) (side : ℤ) {w half : ℤ} → pos 0 ≤ℤ a.scale → w ≡ half +ℤ half → pos 0 ≤ℤ half → (t : ℤ)
    → near a side w t ≡ past a side half t -ℤ past a (side +ℤ half) half t
near_by_halves a side {w} {half} g e h t =
    let whole : a.scale *ℤ w ≡ a.scale *ℤ half +ℤ a.scale *ℤ half = comb (a.scale ∷ w ∷ half ∷ []) (a.scale ⊗ e) (search read depth 40) tt in
    tent-halves whole (≤ℤ-mul-nonneg g h) (beyond a side t)
    ∙ ap (λ v. past a side half t -ℤ clamp v (pos 0) (a.scale *ℤ half)) {y = beyond a (side +ℤ half) t}
    (ring (a.scale ∷ a.start ∷ a.sign ∷ side ∷ half ∷ t ∷ []) (search read depth 40) tt)

-- ---- an edge
module _ (e : Edge) (c : Cell) (half : ℤ) (even : c.width ≡ half +ℤ half) (hh : pos 0 ≤ℤ half) where
  pub h_by_halves : h_num e c
      ≡ along (past (x_axis e) c.left half) (past (y_axis e) c.top c.width) (steps e)
      -ℤ along (past (x_axis e) (c.left +ℤ half) half) (past (y_axis e) c.top c.width) (steps e)
  unfolding h_num
  h_by_halves =
      let g : ℕ → ℤ = λ t. past (y_axis e) c.top c.width (pos t) in
      S_cong (λ t. near (x_axis e) c.left c.width (pos t)) (λ t. past (x_axis e) c.left half (pos t) -ℤ past (x_axis e) (c.left +ℤ half) half (pos t)) g g (steps e)
      (λ t h. near_by_halves (x_axis e) c.left (nonneg (ay e)) even hh (pos t)) (λ t h. ring (g t ∷ []) (search read depth 40) tt)
      ∙ S_subˡ (λ t. past (x_axis e) c.left half (pos t)) (λ t. past (x_axis e) (c.left +ℤ half) half (pos t)) g (steps e)

  pub d_by_halves : d_num e c
      ≡ along (near (x_axis e) c.left c.width) (past (y_axis e) c.top half) (steps e)
      -ℤ along (near (x_axis e) c.left c.width) (past (y_axis e) (c.top +ℤ half) half) (steps e)
  unfolding d_num
  d_by_halves =
      let f : ℕ → ℤ = λ t. near (x_axis e) c.left c.width (pos t) in
      S_cong f f (λ t. near (y_axis e) c.top c.width (pos t)) (λ t. past (y_axis e) c.top half (pos t) -ℤ past (y_axis e) (c.top +ℤ half) half (pos t)) (steps e)
      (λ t h. ring (f t ∷ []) (search read depth 40) tt) (λ t h. near_by_halves (y_axis e) c.top (nonneg (ax e)) even hh (pos t))
      ∙ S_subʳ f (λ t. past (y_axis e) c.top half (pos t)) (λ t. past (y_axis e) (c.top +ℤ half) half (pos t)) (steps e)
