-- Figures on the tile, in 01's own words: "a quarter's figure is its parent's plus 4^j times (± h ± v ± d), h plus on the left, v plus above,
-- d plus in the upper left and lower right".
--
-- Main results
--   figure-top                    the whole tile's figure is the root
--   parent_at                     the cell that cell (cx, cy) is a quarter of
--   signed_details-quarter        ± h ± v ± d: a cell's details with their signs at a quarter
--   quarter_figure                a quarter's figure from its cell's
--   figure-quarter                every figure but the root's is such
use Rattle.std.specs.Prelude.{◌≡◌, refl, [], ◌∷◌, ℕ, suc, ◌*◌, ◌/◌, ◌%◌, ◌^◌, ◌<◌, ℤ, pos, ◌+ℤ◌, ◌*ℤ◌}
use Rattle.std.proofs.Common.{◌∙◌, ap, ap₂, arith}
use Rattle.std.proofs.Math.Nat.{mod-mod}
use Rattle.integers.proofs.Theorems.Ring.{read, ring, comb, ◌⊕◌, ◌⊗◌}
use Rattle.integers.specs.RangeSum.{Σ<}
use Rattle.integers.specs.HalfSign.{half_sign}
use Rattle.haar.specs.Signs.{sign}
use Rattle.haar.specs.Cells.{children, parent, child_number}
use Rattle.haar.specs.Table.{Coefficients}
use Rattle.haar.specs.Figures.{signed_details}
use Rattle.haar.specs.Plane.{dimensions, h_detail, v_detail, d_detail, quarter_details, at, figure_at}
use Rattle.haar.proofs.Laws.Signs.{sign-step, sign-plain}
use Rattle.haar.proofs.Laws.Figures.{figure-root, figure_next}

pub figure-top : (t : Coefficients dimensions) (cx cy : ℕ) → figure_at t 0 cx cy ≡ t.root
figure-top t cx cy = figure-root dimensions t (at cx cy)

-- with two directions, a sign is that of x and that of y: a child is on the right where c is odd, and below where c / 2 is
plane_sign : (e c : ℕ) → e < children dimensions → sign e c ≡ half_sign (e % 2 * (c % 2)) *ℤ half_sign (e / 2 % 2 * (c / 2 % 2))
plane_sign e c h =
    let none : e / 2 / 2 ≡ 0 = omega arith in
    let x = half_sign (e % 2 * (c % 2)) in
    let y = half_sign (e / 2 % 2 * (c / 2 % 2)) in
    sign-step e c
    ∙ ap (λ z. x *ℤ z) (sign-step (e / 2) (c / 2) ∙ ap (λ z. y *ℤ z) (ap (λ k. sign k (c / 2 / 2)) none ∙ sign-plain (c / 2 / 2)))
    ∙ ring (pos (e % 2) ∷ pos (c % 2) ∷ pos (e / 2 % 2) ∷ pos (c / 2 % 2) ∷ []) (search read depth 40) tt

signs : (w : ℕ → ℤ) (c : ℕ) → signed_details dimensions w c ≡ quarter_details w (c % 2) (c / 2 % 2)
unfolding signed_details Σ<
signs w c =
    comb (sign h_detail c ∷ sign v_detail c ∷ sign d_detail c ∷ w h_detail ∷ w v_detail ∷ w d_detail ∷ pos (c % 2) ∷ pos (c / 2 % 2) ∷ [])
    (w h_detail ⊗ plane_sign h_detail c (omega arith) ⊕ w v_detail ⊗ plane_sign v_detail c (omega arith) ⊕ w d_detail ⊗ plane_sign d_detail c (omega arith))
    (search read depth 40) tt

pub parent_at : (cx cy : ℕ) → parent dimensions (at cx cy) ≡ at (cx / 2) (cy / 2)
unfolding parent
parent_at cx cy = refl

pub signed_details-quarter : (w : ℕ → ℤ) (cx cy : ℕ) → signed_details dimensions w (child_number dimensions (at cx cy)) ≡ quarter_details w (cx % 2) (cy % 2)
unfolding child_number
signed_details-quarter w cx cy =
    let c = child_number dimensions (at cx cy) in
    let x : c % 2 ≡ cx % 2 = omega arith in
    let half : c / 2 ≡ cy % 2 = omega arith in
    let y : c / 2 % 2 ≡ cy % 2 = ap (λ k. k % 2) half ∙ mod-mod cy 2 in
    signs w c ∙ ap₂ (quarter_details w) x y

-- a quarter's figure from its cell's figure f, the scale 4^j and the cell's details w: in half a of x and half b of y
abbrev pub quarter_figure : ℤ → ℕ → (ℕ → ℤ) → ℕ → ℕ → ℤ
quarter_figure f scale w a b = f +ℤ pos scale *ℤ quarter_details w a b

pub figure-quarter : (t : Coefficients dimensions) (j cx cy : ℕ)
    → figure_at t (suc j) cx cy ≡ quarter_figure (figure_at t j (cx / 2) (cy / 2)) (4 ^ j) (t.detail j (at (cx / 2) (cy / 2))) (cx % 2) (cy % 2)
unfolding parent
figure-quarter t j cx cy =
    figure_next dimensions t j (at cx cy)
    ∙ ap (λ z. figure_at t j (cx / 2) (cy / 2) +ℤ pos (4 ^ j) *ℤ z) (signed_details-quarter (t.detail j (at (cx / 2) (cy / 2))) cx cy)
