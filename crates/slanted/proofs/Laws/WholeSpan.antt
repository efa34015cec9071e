-- A slanted edge that lies on a cell: all steps of its walk lie inside.
--
-- Main results
--   strip_whole               of one direction that moves, all steps lie between the sides if both ends do
--   span_whole                and so of both at once
use Rattle.std.specs.Prelude.{◌≡◌, refl, [], ◌∷◌, max, ℤ, pos, negsuc, ◌+ℤ◌, ◌-ℤ◌, ◌*ℤ◌, ◌≤ℤ◌}
use Rattle.std.proofs.Common.{sym, ◌∙◌, ap, ap₂, le_refl}
use Rattle.std.proofs.Math.Path.{subst⁻¹}
use Rattle.std.proofs.Math.Nat.{max-eq_left}
use Rattle.integers.proofs.Theorems.Ring.{read, comb, ◌⊗◌}
use Rattle.integers.proofs.Theorems.Order.{≤ℤ-mul}
use Rattle.integers.proofs.Theorems.Linear.{le, eq, ◌&◌, linear, lin≤, lin⊥}
use Rattle.integers.proofs.Theorems.MinMax.{min_eqˡ, min-greatest, max_eqˡ, max_least}
use Rattle.edge.specs.declared.Axis.{Axis}
use Rattle.edge.specs.declared.Cell.{Cell}
use Rattle.edge.specs.declared.Edge.{Edge}
use Rattle.edge.specs.declared.Span.{Span}
use Rattle.edge.specs.Walk.{sign, dx, dy, ax, ay, beyond}
use Rattle.edge.specs.Octilinear.{Octilinear, level, upright, diagonal, unit_x, unit_y, unit_steps}
use Rattle.edge.specs.Cuts.{to_side, all_steps, strip, strip_of, span}
use Rattle.edge.specs.Nested.{OnRange, OnCell}
use Rattle.edge.specs.WalkOf.{Course, IsWalk, fine, unit, unit_walk}
use Rattle.edge.proofs.Lemmas.Ends.{sign-extent, sign_zero, x_end, y_end}
use Rattle.slanted.specs.Pieces.{Moving, onward, back}
use Rattle.slanted.proofs.Laws.Walks.{walk_steady}

-- ---- one direction
pub record Whole (s : Span) (n : ℤ) : Type 0 where
  pub from : s.first ≤ℤ pos 0
  pub to : n ≤ℤ s.last

pub strip_whole : {a : Axis} {side w n end : ℤ} → Moving a → pos 0 ≤ℤ a.scale → OnRange side w a.start → OnRange side w end
    → beyond a side n ≡ a.scale *ℤ (end -ℤ side) → Whole (strip_of a side w n) n
unfolding strip
strip_whole {a} {side} {w} {n} {end} (onward s) k i j e =
    subst⁻¹ (λ z. Whole (strip z (to_side a side) (to_side a side +ℤ a.scale *ℤ w) n) n) s (record {
      from = lin≤ (a.scale ∷ side ∷ a.start ∷ []) (le (≤ℤ-mul k i.low)) (search linear depth 40) tt;
      to = lin≤ (a.scale ∷ side ∷ a.start ∷ w ∷ n ∷ end ∷ []) (le (≤ℤ-mul k j.high) & eq forth) (search linear depth 40) tt;
    })
  where
    forth : a.scale *ℤ (a.start -ℤ side) +ℤ pos 1 *ℤ n ≡ a.scale *ℤ (end -ℤ side)
    forth = sym (ap (λ z. a.scale *ℤ (a.start -ℤ side) +ℤ z *ℤ n) s) ∙ e
strip_whole {a} {side} {w} {n} {end} (back s) k i j e =
    subst⁻¹ (λ z. Whole (strip z (to_side a side) (to_side a side +ℤ a.scale *ℤ w) n) n) s (record {
      from = lin≤ (a.scale ∷ side ∷ a.start ∷ w ∷ []) (le (≤ℤ-mul k i.high)) (search linear depth 40) tt;
      to = lin≤ (a.scale ∷ side ∷ a.start ∷ n ∷ end ∷ []) (le (≤ℤ-mul k j.low) & eq forth) (search linear depth 40) tt;
    })
  where
    forth : a.scale *ℤ (a.start -ℤ side) +ℤ negsuc 0 *ℤ n ≡ a.scale *ℤ (end -ℤ side)
    forth = sym (ap (λ z. a.scale *ℤ (a.start -ℤ side) +ℤ z *ℤ n) s) ∙ e

-- ---- both ends of a walk
still_not : {a : Axis} → Moving a → a.sign ≡ pos 0 → ⊥
still_not {a} (onward e) z = lin⊥ (a.sign ∷ []) (eq e & eq z) (search linear depth 40) tt
still_not {a} (back e) z = lin⊥ (a.sign ∷ []) (eq e & eq z) (search linear depth 40) tt

record Ends (w : Course) (c : Cell) : Type 0 where
  x : beyond w.x c.left w.steps ≡ w.x.scale *ℤ (w.edge.x1 -ℤ c.left)
  y : beyond w.y c.top w.steps ≡ w.y.scale *ℤ (w.edge.y1 -ℤ c.top)
  x_start : w.x.start ≡ w.edge.x0
  y_start : w.y.start ≡ w.edge.y0

-- at 45 degrees there are as many unit steps as either extent
unit_ends : (e : Edge) (c : Cell) → ax e ≡ ay e → Ends (unit_walk e) c
unit_ends e c d = record { x = x_end_unit; y = y_end_unit; x_start = refl; y_start = refl }
  where
    x_end_unit : beyond (unit_x e) c.left (pos (unit_steps e)) ≡ pos 1 *ℤ (e.x1 -ℤ c.left)
    x_end_unit =
        ap (λ n. pos 1 *ℤ (e.x0 -ℤ c.left) +ℤ sign (dx e) *ℤ pos n) (ap (max (ax e)) (sym d) ∙ max-eq_left (le_refl (ax e)))
        ∙ comb (e.x0 ∷ e.x1 ∷ c.left ∷ sign (dx e) ∷ pos (ax e) ∷ []) (pos 1 ⊗ sign-extent (dx e)) (search read depth 40) tt

    y_end_unit : beyond (unit_y e) c.top (pos (unit_steps e)) ≡ pos 1 *ℤ (e.y1 -ℤ c.top)
    y_end_unit =
        ap (λ n. pos 1 *ℤ (e.y0 -ℤ c.top) +ℤ sign (dy e) *ℤ pos n) (ap (λ n. max n (ay e)) d ∙ max-eq_left (le_refl (ay e)))
        ∙ comb (e.y0 ∷ e.y1 ∷ c.top ∷ sign (dy e) ∷ pos (ay e) ∷ []) (pos 1 ⊗ sign-extent (dy e)) (search read depth 40) tt

walk_ends : {w : Course} → IsWalk w → Moving w.x → Moving w.y → (c : Cell) → Ends w c
walk_ends {w} (fine o k) i j c =
    subst⁻¹ (λ (z : Course). Ends z c) k (record { x = x_end w.edge c.left; y = y_end w.edge c.top; x_start = refl; y_start = refl })
walk_ends {w} (unit s k) i j c = subst⁻¹ (λ (z : Course). Ends z c) k (go s)
  where
    -- a level or an upright edge would stand still
    go : Octilinear w.edge → Ends (unit_walk w.edge) c
    go (level h) = absurd (still_not j (ap (λ (z : Course). z.y.sign) k ∙ sign_zero h))
    go (upright h) = absurd (still_not i (ap (λ (z : Course). z.x.sign) k ∙ sign_zero h))
    go (diagonal h) = unit_ends w.edge c h

-- ---- both directions
pub span_whole : {w : Course} → IsWalk w → Moving w.x → Moving w.y → (c : Cell) → OnCell c w.edge → span w.x w.y c w.steps ≡ all_steps w.steps
span_whole {w} k i j c o =
    ap₂ (λ f l. record { first = f; last = l }) (max_eqˡ (max_least x.from y.from)) (min_eqˡ (min-greatest x.to y.to))
  where
    ends : Ends w c
    ends = walk_ends k i j c

    x : Whole (strip_of w.x c.left c.width w.steps) w.steps
    x = strip_whole i (walk_steady k).0.scaled (subst⁻¹ (OnRange c.left c.width) ends.x_start o.x0) o.x1 ends.x

    y : Whole (strip_of w.y c.top c.width w.steps) w.steps
    y = strip_whole j (walk_steady k).1.scaled (subst⁻¹ (OnRange c.top c.width) ends.y_start o.y0) o.y1 ends.y
