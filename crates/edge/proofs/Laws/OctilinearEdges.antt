-- An edge that is level, upright or at 45 degrees has whole values in a cell of even width, and so rounding keeps them.
--
-- Such an edge is walked in max(|dx|, |dy|) unit steps (a point in one), after each of which x and y are whole numbers. Its walk in |dx| × |dy| steps is the unit walk
-- in a finer scale: |dy| times as fine in x, and |dx| times in y.
--
-- Main results
--   diagonal_down, diagonal_up                                   an edge at 45 degrees: dx = dy, or dx = −dy
--   unit_area, unit_h, unit_v, unit_d                            the four sums along it
--   area_octilinear, h_octilinear, v_octilinear, d_octilinear    an octilinear edge's numerators are these times its steps
--   octilinear_exact                                             so rounding keeps its three details
--   octilinear_inside, octilinear_inside_unit                    it lies strictly inside a cell exactly where its unit walk does
use Rattle.std.specs.Prelude.{◌≡◌, refl, [], ◌∷◌, ℕ, ◌*◌, ◌<◌, max, ℤ, ◌+ℤ◌, ◌*ℤ◌, ◌≤ℤ◌}
use Rattle.std.proofs.Common.{sym, ◌∙◌, ap, subst, subst₂, mul-one, le_refl, arith}
use Rattle.std.proofs.Math.Nat.{max-eq_left}
use Rattle.std.proofs.Math.IntN.{pos, neg_ℤ}
use Rattle.integers.proofs.Theorems.Ring.{read, ring}
use Rattle.integers.proofs.Theorems.Order.{nonneg}
use Rattle.edge.specs.declared.Edge.{Edge}
use Rattle.edge.specs.declared.Cell.{Cell}
use Rattle.edge.specs.declared.Axis.{Axis}
use Rattle.edge.specs.Octilinear.{Octilinear, level, upright, diagonal, unit_x, unit_y, unit_steps}
use Rattle.edge.specs.Walk.{extent, sign, dx, dy, ax, ay, steps, x_axis, y_axis, past, near}
use Rattle.edge.proofs.Laws.StepCount.{extent-pos, whole_kept}
use Rattle.edge.proofs.Lemmas.Ends.{extent-neg, extent-zero, sign_zero, direction, direction_within}
use Rattle.edge.specs.Integrals.{along, area_on, h_on, v_on, d_on, area_num, h_num, v_num, d_num}
use Rattle.edge.specs.Inside.{SomeStepInside, Inside}
use Rattle.edge.specs.Rounded.{Exact}
use Rattle.edge.proofs.Laws.Refinement.{finer, over, Pace, moving, standing, Subdivided, Piecewise, clamp_piecewise, tent_piecewise, even_nonneg, along-finer}
use Rattle.edge.proofs.Laws.InsideRefinement.{inside-finer, inside_coarser}

pub diagonal_down : {e : Edge} → dx e ≡ dy e → Octilinear e
diagonal_down h = diagonal (ap extent h)

pub diagonal_up : {e : Edge} → dx e ≡ neg_ℤ (dy e) → Octilinear e
diagonal_up {e} h = diagonal (ap extent h ∙ extent-neg (dy e))

-- the sums of `area_num`, `h_num`, `v_num` and `d_num` along it
abbrev pub unit_area : Edge → Cell → ℤ
unit_area e c = area_on (unit_x e) (unit_y e) c (unit_steps e)

abbrev pub unit_h : Edge → Cell → ℤ
unit_h e c = h_on (unit_x e) (unit_y e) c (unit_steps e)

abbrev pub unit_v : Edge → Cell → ℤ
unit_v e c = v_on (unit_x e) (unit_y e) c (unit_steps e)

abbrev pub unit_d : Edge → Cell → ℤ
unit_d e c = d_on (unit_x e) (unit_y e) c (unit_steps e)

-- the edge's walk takes `each` steps for one unit step
record Subdivision (e : Edge) : Type 0 where
  each : ℕ
  some : 0 < each
  all : unit_steps e * each ≡ steps e
  x : Subdivided each (ay e) (unit_x e)
  y : Subdivided each (ax e) (unit_y e)

unit_subdivided : {r k : ℕ} {start : ℤ} (d : ℤ) → Pace r k (sign d) → Subdivided r k (record { scale = pos 1; start = start; sign = sign d })
unit_subdivided d p = record { size = nonneg 1; signed = direction_within (direction d); pace = p }

subdivision : {e : Edge} → Octilinear e → Subdivision e
subdivision {e} (level h) =
    let one = extent-zero h in
    record {
      each = 1;
      some = omega arith;
      all = omega (arith, one, extent-pos (dx e), ap (λ n. ax e * n) one);
      x = unit_subdivided (dx e) (moving one);
      y = unit_subdivided (dy e) (standing (sign_zero h));
    }
subdivision {e} (upright h) =
    let one = extent-zero h in
    record {
      each = 1;
      some = omega arith;
      all = omega (arith, one, extent-pos (dy e), ap (λ n. n * ay e) one);
      x = unit_subdivided (dx e) (standing (sign_zero h));
      y = unit_subdivided (dy e) (moving one);
    }
subdivision {e} (diagonal h) = record {
  each = ax e;
  some = extent-pos (dx e);
  all = subst (λ n. max (ax e) n * ax e ≡ ax e * n) h (ap (λ n. n * ax e) (max-eq_left (le_refl (ax e))));
  x = unit_subdivided (dx e) (moving (sym h));
  y = unit_subdivided (dy e) (moving refl);
}

-- what holds of the unit walk in its finer scale holds of the edge's walk
of_edge : {e : Edge} (P : Axis → Axis → ℕ → Type 0) (c : Subdivision e)
    → P (finer (ay e) (unit_x e)) (finer (ax e) (unit_y e)) (unit_steps e * c.each) → P (x_axis e) (y_axis e) (steps e)
of_edge {e} P c h =
    subst (P (x_axis e) (y_axis e)) c.all
    (subst₂ (λ k l. P (record { scale = pos k; start = e.x0; sign = sign (dx e) }) (record { scale = pos l; start = e.y0; sign = sign (dy e) }) (unit_steps e * c.each))
    (mul-one (ay e)) (mul-one (ax e)) h)

-- ---- whole values
module _ {e : Edge} (s : Octilinear e) (c : Cell) where
  whole : {φ ψ : ℤ → ℤ → ℤ} → Piecewise c.width φ → Piecewise c.width ψ
      → along (over φ (x_axis e) c.left c.width) (over ψ (y_axis e) c.top c.width) (steps e)
      ≡ along (over φ (unit_x e) c.left c.width) (over ψ (unit_y e) c.top c.width) (unit_steps e) *ℤ pos (steps e)
  whole {φ} {ψ} p q =
      let W = along (over φ (unit_x e) c.left c.width) (over ψ (unit_y e) c.top c.width) (unit_steps e) in
      of_edge (λ a b n. along (over φ a c.left c.width) (over ψ b c.top c.width) n ≡ W *ℤ pos (steps e)) (subdivision s)
      (along-finer p q (subdivision s).x (subdivision s).y c.left c.top (unit_steps e) ∙ ring (W ∷ pos (ax e) ∷ pos (ay e) ∷ []) (search read depth 40) tt)

  pub area_octilinear : pos 0 ≤ℤ c.width → area_num e c ≡ unit_area e c *ℤ pos (steps e)
  unfolding area_num
  area_octilinear h = whole (clamp_piecewise h) (clamp_piecewise h)

  -- where the middle of the cell is a whole number
  module _ {half : ℤ} (w : c.width ≡ half +ℤ half) (k : pos 0 ≤ℤ half) where
    pub h_octilinear : h_num e c ≡ unit_h e c *ℤ pos (steps e)
    unfolding h_num
    h_octilinear = whole (tent_piecewise w k) (clamp_piecewise (even_nonneg w k))

    pub d_octilinear : d_num e c ≡ unit_d e c *ℤ pos (steps e)
    unfolding d_num
    d_octilinear = whole (tent_piecewise w k) (tent_piecewise w k)

    pub v_octilinear : v_num e c ≡ unit_v e c *ℤ pos (steps e)
    unfolding v_num
    v_octilinear =
        of_edge (λ a b n. neg_ℤ (along (near b c.top c.width) (past a c.left c.width) n) ≡ unit_v e c *ℤ pos (steps e)) (subdivision s)
        (ap neg_ℤ (along-finer (tent_piecewise w k) (clamp_piecewise (even_nonneg w k)) (subdivision s).y (subdivision s).x c.top c.left (unit_steps e))
        ∙ ring (along (near (unit_y e) c.top c.width) (past (unit_x e) c.left c.width) (unit_steps e) ∷ pos (ax e) ∷ pos (ay e) ∷ []) (search read depth 40) tt)

-- ---- rounding
pub octilinear_exact : {e : Edge} → Octilinear e → (c : Cell) {half : ℤ} → c.width ≡ half +ℤ half → pos 0 ≤ℤ half → Exact e c
octilinear_exact {e} s c w k = record {
  h = whole_kept e (unit_h e c) (h_octilinear s c w k);
  v = whole_kept e (unit_v e c) (v_octilinear s c w k);
  d = whole_kept e (unit_d e c) (d_octilinear s c w k);
}

-- ---- strictly inside
module _ {e : Edge} (s : Octilinear e) (c : Cell) where
  pub octilinear_inside : SomeStepInside (unit_x e) (unit_y e) c (unit_steps e) → Inside e c
  octilinear_inside h =
      let p = subdivision s in of_edge (λ a b n. SomeStepInside a b c n) p (inside-finer p.x p.y p.some (extent-pos (dy e)) (extent-pos (dx e)) h)

  pub octilinear_inside_unit : Inside e c → SomeStepInside (unit_x e) (unit_y e) c (unit_steps e)
  octilinear_inside_unit =
      let p = subdivision s in
      of_edge (λ a b n. SomeStepInside a b c n → SomeStepInside (unit_x e) (unit_y e) c (unit_steps e)) p
      (inside_coarser p.x p.y p.some (extent-pos (dy e)) (extent-pos (dx e)))
