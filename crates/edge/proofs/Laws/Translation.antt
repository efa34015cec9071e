-- An edge and a cell that are moved together: the integrals are as they were. So an edge as seen from a corner (a, b) has in a cell what the edge itself has in
-- the cell moved by (a, b). This is all that a sheet's tile (02, P5) needs to be drawn as 01's, which begins at the origin.
--
-- Main results
--   steps_seen, octilinear_seen              the same number of steps; level, upright or at 45 degrees as before
--   area_seen, h_seen, v_seen, d_seen        the four integrals
--   details_seen, rounded_area_seen          and what is rounded of them
use Rattle.std.specs.Prelude.{◌≡◌, [], ◌∷◌, ℕ, ◌*◌, ℤ, pos, ◌+ℤ◌, ◌-ℤ◌, ◌*ℤ◌}
use Rattle.std.proofs.Common.{sym, ◌∙◌, ap}
use Rattle.std.proofs.Math.Path.{ap₂, fun_ext}
use Rattle.std.proofs.Math.IntN.{neg_ℤ}
use Rattle.integers.proofs.Theorems.Ring.{read, ring}
use Rattle.integers.specs.Clamp.{clamp}
use Rattle.integers.specs.Tent.{tent}
use Rattle.integers.specs.Rounding.{round_half_away}
use Rattle.edge.specs.declared.Edge.{Edge}
use Rattle.edge.specs.declared.Cell.{Cell}
use Rattle.edge.specs.declared.Axis.{Axis}
use Rattle.edge.specs.Walk.{extent, sign, dx, dy, ax, ay, steps, x_axis, y_axis, beyond}
use Rattle.edge.specs.Integrals.{along, area_num, h_num, v_num, d_num}
use Rattle.edge.specs.Rounded.{details, rounded_area}
use Rattle.edge.specs.Octilinear.{Octilinear, level, upright, diagonal}
use Rattle.edge.specs.Nested.{seen_from, moved}

-- ---- one direction, of any extent and sign
abbrev from : ℤ → ℤ → ℤ → Axis
from k x s = record { scale = k; start = x; sign = s }

beyond-moved : (k x s a side t : ℤ) → beyond (from k (x -ℤ a) s) side t ≡ beyond (from k x s) (a +ℤ side) t
beyond-moved k x s a side t = ring (k ∷ x ∷ s ∷ a ∷ side ∷ t ∷ []) (search read depth 40) tt

-- ---- an edge
module _ (a b : ℤ) (e : Edge) where
  abbrev seen : Edge
  seen = seen_from a b e

  dx_seen : dx seen ≡ dx e
  dx_seen = ring (e.x0 ∷ e.x1 ∷ a ∷ []) (search read depth 40) tt

  dy_seen : dy seen ≡ dy e
  dy_seen = ring (e.y0 ∷ e.y1 ∷ b ∷ []) (search read depth 40) tt

  pub steps_seen : steps seen ≡ steps e
  steps_seen = ap₂ (λ u v. extent u * extent v) dx_seen dy_seen

  pub octilinear_seen : Octilinear e → Octilinear seen
  octilinear_seen (level flat) = level (dy_seen ∙ flat)
  octilinear_seen (upright flat) = upright (dx_seen ∙ flat)
  octilinear_seen (diagonal same) = diagonal (ap extent dx_seen ∙ same ∙ sym (ap extent dy_seen))

  module _ (c : Cell) where
    -- what is made of the two scales, of how far past the cell's left and top side the walk is after t steps, and of the number of steps
    abbrev of_walk : (ℤ → ℤ → (ℤ → ℤ) → (ℤ → ℤ) → ℕ → ℤ) → Edge → Cell → ℤ
    of_walk F e c = F (pos (ay e)) (pos (ax e)) (λ t. beyond (x_axis e) c.left t) (λ t. beyond (y_axis e) c.top t) (steps e)

    walk_seen : (F : ℤ → ℤ → (ℤ → ℤ) → (ℤ → ℤ) → ℕ → ℤ) → of_walk F seen c ≡ of_walk F e (moved a b c)
    walk_seen F =
        ap₂ (λ u v. F (pos (extent v)) (pos (extent u)) (λ t. beyond (from (pos (extent v)) (e.x0 -ℤ a) (sign u)) c.left t) (λ t. beyond (from (pos (extent u)) (e.y0 -ℤ b) (sign v)) c.top t) (extent u * extent v))
        dx_seen dy_seen
        ∙ ap₂ (λ p q. F (pos (ay e)) (pos (ax e)) p q (steps e))
        (fun_ext (λ t. beyond-moved (pos (ay e)) e.x0 (sign (dx e)) a c.left t)) (fun_ext (λ t. beyond-moved (pos (ax e)) e.y0 (sign (dy e)) b c.top t))

    -- as `past` and `near` read them
    abbrev held : ℤ → (ℤ → ℤ) → ℤ → ℤ
    held k u t = clamp (u t) (pos 0) (k *ℤ c.width)

    abbrev tented : ℤ → (ℤ → ℤ) → ℤ → ℤ
    tented k u t = tent (k *ℤ c.width) (u t)

    pub area_seen : area_num seen c ≡ area_num e (moved a b c)
    unfolding area_num
    area_seen = walk_seen (λ k l x y n. along (held k x) (held l y) n)

    pub h_seen : h_num seen c ≡ h_num e (moved a b c)
    unfolding h_num
    h_seen = walk_seen (λ k l x y n. along (tented k x) (held l y) n)

    pub v_seen : v_num seen c ≡ v_num e (moved a b c)
    unfolding v_num
    v_seen = walk_seen (λ k l x y n. neg_ℤ (along (tented l y) (held k x) n))

    pub d_seen : d_num seen c ≡ d_num e (moved a b c)
    unfolding d_num
    d_seen = walk_seen (λ k l x y n. along (tented k x) (tented l y) n)

    pub rounded_area_seen : rounded_area seen c ≡ rounded_area e (moved a b c)
    unfolding rounded_area
    rounded_area_seen = ap₂ round_half_away area_seen steps_seen

    pub details_seen : details seen c ≡ details e (moved a b c)
    unfolding details
    details_seen =
        ap₂ (λ h n. record { h = round_half_away h n; v = round_half_away (v_num seen c) n; d = round_half_away (d_num seen c) n }) h_seen steps_seen
        ∙ ap₂ (λ v d. record { h = round_half_away (h_num e (moved a b c)) (steps e); v = round_half_away v (steps e); d = round_half_away d (steps e) }) v_seen d_seen
