-- The sum over the steps is the integral, whatever the number of steps: with more and shorter ones the values are the same.
--
-- Main results
--   finer                                                     an axis in a scale k times as fine, and so in steps k times as short
--   Finer, S-finer                                            f and g k and l times as large as F and G, linear in r parts of each step: k l times their sum
--   Pace, Subdivided, subdivided, x_subdivided, y_subdivided  axes of which one step is r steps of `finer k`; for k = r all that move by at most one
--   over, clamped, Piecewise, clamp_piecewise,
--   tent_piecewise                                            functions of the distance past a side that bend at whole numbers only
--   over-finer                                                such a function along an axis, and along the finer one, are `Finer`
--   along-finer                                               the integral along two axes does not depend on the number of steps
--   area_finer, h_finer, v_finer, d_finer                     nor do an edge's: in r times as many steps the sums are r² times as large
--   even_nonneg                                               twice a half that is not negative is not negative
use Rattle.std.specs.Prelude.{◌≡◌, refl, [], ◌∷◌, ℕ, zero, suc, ◌+◌, ◌*◌, ◌≤◌, ℤ, pos, ◌+ℤ◌, ◌-ℤ◌, ◌*ℤ◌, ◌≤ℤ◌}
use Rattle.std.proofs.Common.{sym, ◌∙◌, ap₂, subst, zero-mul, suc-mul, add-zero, arith}
use Rattle.std.proofs.Math.Path.{ap}
use Rattle.std.proofs.Math.IntN.{neg_ℤ}
use Rattle.integers.proofs.Theorems.Ring.{read, ring, comb, ◌⊕◌, ◌⊗◌}
use Rattle.integers.proofs.Theorems.Order.{nonneg, ≤ℤ-mul-nonneg}
use Rattle.integers.proofs.Theorems.Linear.{le, eq, ◌&◌, linear, lin≤}
use Rattle.integers.specs.Within.{Within}
use Rattle.integers.specs.Clamp.{clamp}
use Rattle.integers.specs.Tent.{tent}
use Rattle.integers.specs.Interpolation.{Interpolates}
use Rattle.integers.proofs.Theorems.Interpolation.{clamp_interpolates, tent_interpolates}
use Rattle.integers.specs.Trapezoid.{S, Affine}
use Rattle.integers.proofs.Theorems.Trapezoid.{S-zero, S-suc, S-piece}
use Rattle.edge.specs.declared.Edge.{Edge}
use Rattle.edge.specs.declared.Cell.{Cell}
use Rattle.edge.specs.declared.Axis.{Axis}
use Rattle.edge.specs.Walk.{dx, dy, ax, ay, steps, x_axis, y_axis, beyond, past, near}
use Rattle.edge.proofs.Lemmas.Ends.{direction, direction_within}
use Rattle.edge.specs.Integrals.{along, area_on, h_on, v_on, d_on, area_num, h_num, v_num, d_num}

-- ---- sums
-- f goes from k F(i) to k F(i + 1) in r steps of F(i + 1) − F(i) each. So k is r, or F stands still; then k may be anything.
pub record Finer (r k : ℕ) (F f : ℕ → ℤ) : Type 0 where
  pub at : (i ρ : ℕ) → ρ ≤ r → f (i * r + ρ) ≡ pos k *ℤ F i +ℤ pos ρ *ℤ (F (suc i) -ℤ F i)

module _ {r k : ℕ} {F f : ℕ → ℤ} (p : Finer r k F f) where
  finer-affine : (i : ℕ) → Affine (λ t. f (i * r + t)) (pos k *ℤ F i) (F (suc i) -ℤ F i) r
  finer-affine i = record { at = p.at i }

  finer_at : (i : ℕ) → f (i * r) ≡ pos k *ℤ F i
  finer_at i = ap f (sym (add-zero (i * r))) ∙ p.at i 0 (omega arith) ∙ ring (pos k ∷ F i ∷ F (suc i) ∷ []) (search read depth 40) tt

pub S-finer : {r k l : ℕ} {F f G g : ℕ → ℤ} → Finer r k F f → Finer r l G g → (n : ℕ) → S f g (n * r) ≡ pos (k * l) *ℤ S F G n
S-finer {r} {k} {l} {F} {f} {G} {g} p q zero =
    ap (S f g) (zero-mul r)
    ∙ comb (S f g 0 ∷ S F G 0 ∷ pos k ∷ pos l ∷ []) (S-zero f g ⊕ neg_ℤ (pos (k * l)) ⊗ S-zero F G) (search read depth 40) tt
S-finer {r} {k} {l} {F} {f} {G} {g} p q (suc n) =
    let next : n * r + r ≡ suc n * r = sym (suc-mul n r) in
    ap (S f g) (suc-mul n r) ∙ S-piece f g (n * r) (finer-affine p n) (finer-affine q n)
    ∙ ap₂ ◌+ℤ◌ (S-finer p q n) (ap₂ ◌*ℤ◌ (ap₂ ◌+ℤ◌ (finer_at p n) (ap f next ∙ finer_at p (suc n))) (ap₂ ◌-ℤ◌ (ap g next ∙ finer_at q (suc n)) (finer_at q n)))
    ∙ comb (S F G n ∷ S F G (suc n) ∷ pos k ∷ pos l ∷ F n ∷ F (suc n) ∷ G n ∷ G (suc n) ∷ []) (neg_ℤ (pos (k * l)) ⊗ S-suc F G n) (search read depth 40) tt

-- ---- axes
abbrev pub finer : ℕ → Axis → Axis
finer k a = record { scale = pos k *ℤ a.scale; start = a.start; sign = a.sign }

-- r steps of `finer k` are one step: k is r, or the axis stands still
pub data Pace (r k : ℕ) (s : ℤ) : Type 0 where
  moving : k ≡ r → Pace r k s
  standing : s ≡ pos 0 → Pace r k s

pub record Subdivided (r k : ℕ) (a : Axis) : Type 0 where
  pub size : pos 0 ≤ℤ a.scale
  pub signed : Within (pos 1) a.sign
  pub pace : Pace r k a.sign

pub subdivided : (r : ℕ) {a : Axis} → pos 0 ≤ℤ a.scale → Within (pos 1) a.sign → Subdivided r r a
subdivided r h u = record { size = h; signed = u; pace = moving refl }

pub x_subdivided : (e : Edge) (r : ℕ) → Subdivided r r (x_axis e)
x_subdivided e r = subdivided r (nonneg (ay e)) (direction_within (direction (dx e)))

pub y_subdivided : (e : Edge) (r : ℕ) → Subdivided r r (y_axis e)
y_subdivided e r = subdivided r (nonneg (ax e)) (direction_within (direction (dy e)))

-- ---- functions of the distance past a side
-- φ of the width and the distance, both `scale` times over: `past` is `over clamped`, and `near` is `over tent`
abbrev pub over : (ℤ → ℤ → ℤ) → Axis → ℤ → ℤ → ℤ → ℤ
over φ a side w t = φ (a.scale *ℤ w) (beyond a side t)

abbrev pub clamped : ℤ → ℤ → ℤ
clamped m v = clamp v (pos 0) m

-- φ is linear on a step of at most one, in every scale c
pub record Piecewise (w : ℤ) (φ : ℤ → ℤ → ℤ) : Type 0 where
  pub interpolates : {c : ℤ} → pos 0 ≤ℤ c → {s : ℤ} → Within (pos 1) s → (v : ℤ) {k ρ : ℕ} → ρ ≤ k → Interpolates (φ (pos k *ℤ c *ℤ w)) (φ (c *ℤ w)) v s k ρ

pub clamp_piecewise : {w : ℤ} → pos 0 ≤ℤ w → Piecewise w clamped
clamp_piecewise {w} h = record {
  interpolates = λ {c} g {s} u v {k} {ρ} i.
      subst (λ m. Interpolates (clamped m) (clamped (c *ℤ w)) v s k ρ) (ring (pos k ∷ c ∷ w ∷ []) (search read depth 40) tt) (clamp_interpolates (≤ℤ-mul-nonneg g h) u v i);
}

pub even_nonneg : {w half : ℤ} → w ≡ half +ℤ half → pos 0 ≤ℤ half → pos 0 ≤ℤ w
even_nonneg {w} {half} e h = lin≤ (w ∷ half ∷ []) (eq e & le h) (search linear depth 40) tt

pub tent_piecewise : {w half : ℤ} → w ≡ half +ℤ half → pos 0 ≤ℤ half → Piecewise w tent
tent_piecewise {w} {half} e h = record {
  interpolates = λ {c} g {s} u v {k} {ρ} i.
      let f : c *ℤ w ≡ c *ℤ half +ℤ c *ℤ half = comb (c ∷ w ∷ half ∷ []) (c ⊗ e) (search read depth 40) tt in
      subst (λ m. Interpolates (tent m) (tent (c *ℤ w)) v s k ρ) (ring (pos k ∷ c ∷ w ∷ []) (search read depth 40) tt) (tent_interpolates f (≤ℤ-mul-nonneg g h) u v i);
}

-- an axis that stands still has the same value at any two steps
rests : (φ : ℤ → ℤ → ℤ) (a : Axis) (side w : ℤ) → a.sign ≡ pos 0 → (t u : ℕ) → over φ a side w (pos t) ≡ over φ a side w (pos u)
rests φ a side w e t u =
    ap (φ (a.scale *ℤ w)) (comb (pos t ∷ pos u ∷ a.scale ∷ a.start ∷ a.sign ∷ side ∷ []) ((pos t -ℤ pos u) ⊗ e) (search read depth 40) tt)

module _ {w : ℤ} {φ : ℤ → ℤ → ℤ} (p : Piecewise w φ) (a : Axis) (side : ℤ) where
  abbrev coarse : ℕ → ℤ
  coarse t = over φ a side w (pos t)

  abbrev fine : ℕ → ℕ → ℤ
  fine k t = over φ (finer k a) side w (pos t)

  moves : (k : ℕ) → pos 0 ≤ℤ a.scale → Within (pos 1) a.sign → Finer k k coarse (fine k)
  moves k h u = record {
    at = λ i ρ g.
        let v = beyond a side (pos i) in
        ap (φ (pos k *ℤ a.scale *ℤ w)) {y = pos k *ℤ v +ℤ a.sign *ℤ pos ρ}
        (ring (pos k ∷ pos i ∷ pos ρ ∷ a.scale ∷ a.start ∷ a.sign ∷ side ∷ []) (search read depth 40) tt)
        ∙ p.interpolates h u v g
        ∙ ap (λ z. pos k *ℤ coarse i +ℤ pos ρ *ℤ (φ (a.scale *ℤ w) z -ℤ coarse i)) {y = beyond a side (pos (suc i))}
        (ring (pos i ∷ a.scale ∷ a.start ∷ a.sign ∷ side ∷ []) (search read depth 40) tt);
  }

  pub over-finer : {r k : ℕ} → Subdivided r k a → Finer r k coarse (fine k)
  over-finer {r} {k} c = go c.pace
    where
      go : Pace r k a.sign → Finer r k coarse (fine k)
      go (moving e) = subst (λ r. Finer r k coarse (fine k)) e (moves k c.size c.signed)
      go (standing e) = record {
        at = λ i ρ g.
            rests φ (finer k a) side w e (i * r + ρ) (i * k) ∙ finer_at (moves k c.size c.signed) i
            ∙ comb (pos k ∷ pos ρ ∷ coarse i ∷ coarse (suc i) ∷ []) (pos ρ ⊗ rests φ a side w e i (suc i)) (search read depth 40) tt;
      }

-- ---- integrals
pub along-finer : {w : ℤ} {φ ψ : ℤ → ℤ → ℤ} → Piecewise w φ → Piecewise w ψ → {r k l : ℕ} {a b : Axis} → Subdivided r k a → Subdivided r l b → (x y : ℤ) (n : ℕ)
    → along (over φ (finer k a) x w) (over ψ (finer l b) y w) (n * r) ≡ pos (k * l) *ℤ along (over φ a x w) (over ψ b y w) n
along-finer p q {a = a} {b} ca cb x y n = S-finer (over-finer p a x ca) (over-finer q b y cb) n

module _ (e : Edge) (c : Cell) (r : ℕ) where
  pub area_finer : pos 0 ≤ℤ c.width
      → area_on (finer r (x_axis e)) (finer r (y_axis e)) c (steps e * r) ≡ pos (r * r) *ℤ area_num e c
  unfolding area_num
  area_finer h = along-finer (clamp_piecewise h) (clamp_piecewise h) (x_subdivided e r) (y_subdivided e r) c.left c.top (steps e)

  -- where the middle of the cell is a whole number
  module _ {half : ℤ} (w : c.width ≡ half +ℤ half) (h : pos 0 ≤ℤ half) where
    pub h_finer : h_on (finer r (x_axis e)) (finer r (y_axis e)) c (steps e * r) ≡ pos (r * r) *ℤ h_num e c
    unfolding h_num
    h_finer = along-finer (tent_piecewise w h) (clamp_piecewise (even_nonneg w h)) (x_subdivided e r) (y_subdivided e r) c.left c.top (steps e)

    pub v_finer : v_on (finer r (x_axis e)) (finer r (y_axis e)) c (steps e * r) ≡ pos (r * r) *ℤ v_num e c
    unfolding v_num
    v_finer =
        ap neg_ℤ (along-finer (tent_piecewise w h) (clamp_piecewise (even_nonneg w h)) (y_subdivided e r) (x_subdivided e r) c.top c.left (steps e))
        ∙ ring (pos r ∷ along (near (y_axis e) c.top c.width) (past (x_axis e) c.left c.width) (steps e) ∷ []) (search read depth 40) tt

    pub d_finer : d_on (finer r (x_axis e)) (finer r (y_axis e)) c (steps e * r) ≡ pos (r * r) *ℤ d_num e c
    unfolding d_num
    d_finer = along-finer (tent_piecewise w h) (tent_piecewise w h) (x_subdivided e r) (y_subdivided e r) c.left c.top (steps e)
