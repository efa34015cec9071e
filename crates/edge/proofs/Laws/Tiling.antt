-- A square cut into m × m tiles: an edge's areas in the tiles add up to its area in the square. So the tiles of a sheet (02, P5) share out what the outline
-- covers of it.
--
-- Main results
--   tile_in left top w i j        tile (i, j), of width w, of the square that begins at (left, top)
--   area_tiles                    the areas add up
use Rattle.std.specs.Prelude.{◌≡◌, [], ◌∷◌, ℕ, ℤ, pos, ◌+ℤ◌, ◌*ℤ◌, ◌≤ℤ◌}
use Rattle.std.proofs.Common.{sym, ◌∙◌, ap}
use Rattle.integers.proofs.Theorems.Ring.{read, ring}
use Rattle.integers.proofs.Theorems.Order.{nonneg, ≤ℤ-mul-nonneg}
use Rattle.integers.specs.RangeSum.{Σ<}
use Rattle.integers.proofs.Theorems.RangeSum.{Σ_cong}
use Rattle.integers.specs.Clamp.{clamp}
use Rattle.integers.proofs.Theorems.Clamp.{clamp_tiles}
use Rattle.integers.proofs.Theorems.Trapezoid.{S_cong, S_sumˡ, S_sumʳ}
use Rattle.edge.specs.declared.Edge.{Edge}
use Rattle.edge.specs.declared.Cell.{Cell}
use Rattle.edge.specs.declared.Axis.{Axis}
use Rattle.edge.specs.Walk.{ax, ay, steps, x_axis, y_axis, beyond, past}
use Rattle.edge.specs.Integrals.{area_num}

-- ---- one direction
past_tiles : (a : Axis) (side : ℤ) {w : ℤ} → pos 0 ≤ℤ a.scale → pos 0 ≤ℤ w → (m : ℕ) (t : ℤ)
    → past a side (pos m *ℤ w) t ≡ Σ< m (λ i. past a (side +ℤ pos i *ℤ w) w t)
past_tiles a side {w} g h m t =
    ap (clamp (beyond a side t) (pos 0)) {y = pos m *ℤ (a.scale *ℤ w)} (ring (a.scale ∷ pos m ∷ w ∷ []) (search read depth 40) tt)
    ∙ sym (clamp_tiles (≤ℤ-mul-nonneg g h) m (beyond a side t))
    ∙ Σ_cong m _ _ (λ i k. ap (λ u. clamp u (pos 0) (a.scale *ℤ w)) {y = beyond a (side +ℤ pos i *ℤ w) t}
    (ring (a.scale ∷ a.start ∷ a.sign ∷ side ∷ pos i ∷ w ∷ t ∷ []) (search read depth 40) tt))

-- ---- an edge
abbrev pub tile_in : ℤ → ℤ → ℤ → ℕ → ℕ → Cell
tile_in left top w i j = record { left = left +ℤ pos i *ℤ w; top = top +ℤ pos j *ℤ w; width = w }

pub area_tiles : (e : Edge) (left top : ℤ) {w : ℤ} → pos 0 ≤ℤ w → (m : ℕ)
    → area_num e (record { left = left; top = top; width = pos m *ℤ w }) ≡ Σ< m (λ j. Σ< m (λ i. area_num e (tile_in left top w i j)))
unfolding area_num
area_tiles e left top {w} h m =
    S_cong _ (λ t. Σ< m (λ i. px i t)) _ (λ t. Σ< m (λ j. py j t)) (steps e)
    (λ t k. past_tiles (x_axis e) left (nonneg (ay e)) h m (pos t)) (λ t k. past_tiles (y_axis e) top (nonneg (ax e)) h m (pos t))
    ∙ S_sumʳ m (λ t. Σ< m (λ i. px i t)) py (steps e)
    ∙ Σ_cong m _ _ (λ j k. S_sumˡ m px (py j) (steps e))
  where
    px : ℕ → ℕ → ℤ
    px i t = past (x_axis e) (left +ℤ pos i *ℤ w) w (pos t)

    py : ℕ → ℕ → ℤ
    py j t = past (y_axis e) (top +ℤ pos j *ℤ w) w (pos t)
