-- Which cells of the quadtree lie in which, as numbers that are 1 or 0, so that sums over the quarters of a cell can be computed with.
--
-- Definitions
--   indicator a b                1 where a ≡ b, and else 0
--   covers j x y L X Y           1 where cell (X, Y) of level L is cell (x, y) of level j or lies in it, and else 0
--
-- Main results
--   indicator_same               it is 1 where the two are equal,
--   indicator_other              and 0 where they are not
--   indicator_choose             z is (indicator a b) times z' if it is z' where a ≡ b, and else 0
--   indicator_half               b / 2 is x where b is 2 x or 2 x + 1
--   covers-quarters              a cell covers itself and what its quarters cover
--   covers_coarser               and no cell of a level above its own
--   covers-tile                  the tile covers every cell
use Rattle.std.specs.Prelude.{◌≡◌, refl, [], ◌∷◌, ◌≢◌, ℕ, zero, suc, ◌+◌, ◌*◌, ◌/◌, ◌%◌, ◌^◌, ◌<◌, ℤ, pos, ◌+ℤ◌, ◌*ℤ◌}
use Rattle.std.proofs.Common.{sym, ◌∙◌, ap, ap₂, arith, pow-suc, div-one}
use Rattle.std.proofs.Math.Decide.{ℕ_discrete}
use Rattle.std.proofs.Math.Nat.{div-div-eq-div-mul, div-eq_of_lt}
use Rattle.std.proofs.Math.IntN.{zero-*ℤ}
use Rattle.integers.proofs.Theorems.Ring.{read, ring}
use Rattle.integers.specs.RangeSum.{Σ<}
use Rattle.rasterize.specs.Nodes.{quarters}

unfoldable pub indicator : ℕ → ℕ → ℤ
indicator zero zero = pos 1
indicator zero (suc b) = pos 0
indicator (suc a) zero = pos 0
indicator (suc a) (suc b) = indicator a b

-- Cell (X, Y) of level L lies in cell (X / 2^n, Y / 2^n), n levels up; the recursion counts n = L - j.
unfoldable pub covers : (j x y L X Y : ℕ) → ℤ
covers zero x y L X Y = indicator (X / 2 ^ L) x *ℤ indicator (Y / 2 ^ L) y
covers (suc j) x y zero X Y = pos 0
covers (suc j) x y (suc L) X Y = covers j x y L X Y

-- ---- equal or not
pub indicator_same : (a b : ℕ) → a ≡ b → indicator a b ≡ pos 1
unfolding indicator
indicator_same zero zero e = refl
indicator_same zero (suc b) e = absurd (omega arith)
indicator_same (suc a) zero e = absurd (omega arith)
indicator_same (suc a) (suc b) e = indicator_same a b (omega arith)

pub indicator_other : (a b : ℕ) → a ≢ b → indicator a b ≡ pos 0
unfolding indicator
indicator_other zero zero h = absurd (h refl)
indicator_other zero (suc b) h = refl
indicator_other (suc a) zero h = refl
indicator_other (suc a) (suc b) h = indicator_other a b (λ e. h (ap suc e))

pub indicator_choose : (a b : ℕ) {z z' : ℤ} → (a ≡ b → z ≡ z') → (a ≢ b → z ≡ pos 0) → z ≡ indicator a b *ℤ z'
indicator_choose a b {z} {z'} same other = elim (ℕ_discrete a b) [
  | yes e ↦ same e ∙ sym (ap (λ k. k *ℤ z') (indicator_same a b e) ∙ ring (z' ∷ []) (search read depth 40) tt)
  | no e ↦ other e ∙ sym (ap (λ k. k *ℤ z') (indicator_other a b e) ∙ zero-*ℤ z')
]

pub indicator_half : (b x : ℕ) → indicator (b / 2) x ≡ indicator b (2 * x + 0) +ℤ indicator b (2 * x + 1)
indicator_half b x = elim (ℕ_discrete b (2 * x + 0)) [
  | yes e ↦ indicator_same (b / 2) x (omega arith) ∙ sym (ap₂ ◌+ℤ◌ (indicator_same b (2 * x + 0) e) (indicator_other b (2 * x + 1) (λ f. omega arith)))
  | no e ↦ elim (ℕ_discrete b (2 * x + 1)) [
    | yes f ↦ indicator_same (b / 2) x (omega arith) ∙ sym (ap₂ ◌+ℤ◌ (indicator_other b (2 * x + 0) e) (indicator_same b (2 * x + 1) f))
    | no f ↦ indicator_other (b / 2) x (λ g. omega arith) ∙ sym (ap₂ ◌+ℤ◌ (indicator_other b (2 * x + 0) e) (indicator_other b (2 * x + 1) f))
  ]
]

-- ---- one level at a time
half_up : (b L x : ℕ) → indicator (b / 2 ^ suc L) x ≡ indicator (b / 2 ^ L) (2 * x + 0) +ℤ indicator (b / 2 ^ L) (2 * x + 1)
half_up b L x = ap (λ k. indicator k x) (ap (λ m. b / m) (pow-suc 2 L) ∙ sym (div-div-eq-div-mul b (2 ^ L) 2)) ∙ indicator_half (b / 2 ^ L) x

pub covers-quarters : (j x y L X Y : ℕ)
    → covers j x y L X Y ≡ indicator L j *ℤ (indicator X x *ℤ indicator Y y) +ℤ Σ< quarters (λ q. covers (suc j) (2 * x + q % 2) (2 * y + q / 2) L X Y)
unfolding indicator covers Σ<
covers-quarters zero x y zero X Y =
    ap₂ (λ a b. indicator a x *ℤ indicator b y) (div-one X) (div-one Y) ∙ ring (indicator X x ∷ indicator Y y ∷ []) (search read depth 40) tt
covers-quarters zero x y (suc L) X Y =
    ap₂ ◌*ℤ◌ (half_up X L x) (half_up Y L y)
    ∙ ring (indicator X x ∷ indicator Y y ∷ indicator (X / 2 ^ L) (2 * x + 0) ∷ indicator (X / 2 ^ L) (2 * x + 1)
    ∷ indicator (Y / 2 ^ L) (2 * y + 0) ∷ indicator (Y / 2 ^ L) (2 * y + 1) ∷ [])
    (search read depth 40) tt
covers-quarters (suc j) x y zero X Y = ring (indicator X x ∷ indicator Y y ∷ []) (search read depth 40) tt
covers-quarters (suc j) x y (suc L) X Y = covers-quarters j x y L X Y

pub covers_coarser : (j x y L X Y : ℕ) → L < j → covers j x y L X Y ≡ pos 0
unfolding covers
covers_coarser zero x y L X Y h = absurd (omega arith)
covers_coarser (suc j) x y zero X Y h = refl
covers_coarser (suc j) x y (suc L) X Y h = covers_coarser j x y L X Y (omega arith)

pub covers-tile : (L X Y : ℕ) → X < 2 ^ L → Y < 2 ^ L → covers 0 0 0 L X Y ≡ pos 1
unfolding covers
covers-tile L X Y h k = ap₂ ◌*ℤ◌ (indicator_same (X / 2 ^ L) 0 (div-eq_of_lt h)) (indicator_same (Y / 2 ^ L) 0 (div-eq_of_lt k))
