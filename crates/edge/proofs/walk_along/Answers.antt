-- A walk in unit steps where the edge is octilinear, and else in the steps of the definitions.
use Rattle.std.proofs.Common.{◌≡◌, refl, ℕ, ℤ, ◌⊎◌, ◌*◌, max, pos, nat_abs, ◌*ℤ◌, ◌≤ℤ◌, ◌<ℤ◌, [], ◌∷◌, sym, ◌∙◌, ap, ap₂, inl, inr}
use Rattle.std.proofs.Math.Path.{subst⁻¹}
use Rattle.std.proofs.Math.Nat.{max-eq_left, max-eq_right}
use Rattle.integers.proofs.Theorems.Ring.{read, comb, ◌⊕◌, ◌⊗◌}
use Rattle.integers.proofs.Theorems.Order.{≤ℤ_or_<ℤ, ≤ℤ_of_<ℤ, ≤_of_pos}
use Rattle.integers.specs.MinMax.{max as maxℤ}
use Rattle.integers.proofs.Theorems.MinMax.{max_eqˡ, max_eqʳ}
use Rattle.integers.proofs.Theorems.Machine.{known}
use Rattle.integers.specs.Bits.{back}
use Rattle.integers.proofs.Theorems.Bits.{back_is, result_is}
use Rattle.integers.specs.Held.{Held}
use Rattle.integers.proofs.Theorems.Held.{held-mul, held_fits, held_back}
use Rattle.edge.specs.declared.Edge.{Edge}
use Rattle.edge.specs.declared.Axis.{Axis}
use Rattle.edge.specs.Walk.{extent, sign, dx, dy, ax, ay, steps}
use Rattle.edge.specs.Room.{extent_limit}
use Rattle.edge.specs.Octilinear.{Octilinear, level, upright, diagonal, unit_steps}
use Rattle.edge.specs.WalkOf.{Course, IsWalk, fine, unit}
use Rattle.edge.proofs.Lemmas.Ends.{sign-extent, sign_zero}
use Rattle.edge.proofs.Lemmas.Records.{axis_eq}
use Rattle.edge.proofs.Laws.Methods.{max_is}
use Rattle.edge.proofs.Sizes.{difference, extent_within}
use Rattle.edge.proofs.walk_along.Goals as goal
use Rattle.edge.proofs.walk_along.Goals.{Start, then-is_octilinear, else-is_octilinear}

standing : (d : ℤ) → sign d ≡ pos 0 → d ≡ pos 0
standing d h = comb (d ∷ sign d ∷ pos (extent d) ∷ []) (sym (sign-extent d) ⊕ pos (extent d) ⊗ h) (search read depth 40) tt

-- ---- the arguments, read back
module _ (s : Start) where
  abbrev edge : Edge
  edge = s.args.e

  ax_is : back s.args.ax ≡ pos (ax edge)
  ax_is = known s.ranges.ax s.requires.1

  ay_is : back s.args.ay ≡ pos (ay edge)
  ay_is = known s.ranges.ay s.requires.2

  sx_is : back s.args.sx ≡ sign (dx edge)
  sx_is = known s.ranges.sx s.requires.3

  sy_is : back s.args.sy ≡ sign (dy edge)
  sy_is = known s.ranges.sy s.requires.4

  x0_is : back edge.x0 ≡ edge.x0
  x0_is = back_is tt s.requires.0.x0

  y0_is : back edge.y0 ≡ edge.y0
  y0_is = back_is tt s.requires.0.y0

  product : Held (extent_limit * extent_limit) (back s.args.ax *ℤ back s.args.ay) (pos (steps edge))
  product =
      let m = s.requires.0 in
      held-mul (record { is = ax_is; within = extent_within (dx edge) (difference m.x0 m.x1).within })
      (record { is = ay_is; within = extent_within (dy edge) (difference m.y0 m.y1).within })

  -- what the test says of the edge
  octilinear : (back s.args.sx ≡ pos 0) ⊎ (back s.args.sy ≡ pos 0) ⊎ (back s.args.ax ≡ back s.args.ay) → Octilinear edge
  octilinear (inl p) = upright (standing (dx edge) (sym sx_is ∙ p))
  octilinear (inr (inl p)) = level (standing (dy edge) (sym sy_is ∙ p))
  octilinear (inr (inr p)) = diagonal (ap nat_abs (sym ax_is ∙ p ∙ ay_is))

  signs : Octilinear edge → (back s.args.sx ≡ pos 0) ⊎ (back s.args.sy ≡ pos 0) ⊎ (back s.args.ax ≡ back s.args.ay)
  signs (upright p) = inl (sx_is ∙ sign_zero p)
  signs (level p) = inr (inl (sy_is ∙ sign_zero p))
  signs (diagonal p) = inr (inr (ax_is ∙ ap pos p ∙ sym ay_is))

-- ---- the walk
walk_eq : {e : Edge} {a a' b b' : Axis} {m m' n n' : ℤ} → a ≡ a' → b ≡ b' → m ≡ m' → n ≡ n'
    → ◌≡◌ {A = Course} (record { edge = e; x = a; y = b; steps = m; divisor = n }) (record { edge = e; x = a'; y = b'; steps = m'; divisor = n' })
walk_eq {e} {a} {a'} {b} {b'} {m} {m'} {n} {n'} p q r s =
    ap₂ (λ x y. record { edge = e; x = x; y = y; steps = m; divisor = n }) p q ∙ ap₂ (λ x y. record { edge = e; x = a'; y = b'; steps = x; divisor = y }) r s

max_pos : (m n : ℕ) → maxℤ (pos m) (pos n) ≡ pos (max m n)
max_pos m n = go (≤ℤ_or_<ℤ (pos m) (pos n))
  where
    go : (pos m ≤ℤ pos n) ⊎ (pos n <ℤ pos m) → maxℤ (pos m) (pos n) ≡ pos (max m n)
    go (inl h) = max_eqʳ h ∙ sym (ap pos (max-eq_right (≤_of_pos h)))
    go (inr h) = max_eqˡ (≤ℤ_of_<ℤ h) ∙ sym (ap pos (max-eq_left (≤_of_pos (≤ℤ_of_<ℤ h))))

pub overflow_mul-n : goal.overflow_mul-n
overflow_mul-n c = held_fits tt (product (goal.at.overflow_mul-n c).Start)

-- the numbers that either arm answers are the walk of its edge
abbrev Answered : Edge × (Axis × (Axis × (ℤ × (ℤ × Unit {0})))) → Type 0
Answered r = ∥ IsWalk (record { edge = r.0; x = r.1.0; y = r.1.1.0; steps = r.1.1.1.0; divisor = r.1.1.1.1.0 }) ∥₁

pub invariant_of-result : goal.invariant_of-result
invariant_of-result c =
    let s = (goal.at.invariant_of-result c).Start in
    record {
      is_walk = elim c.if-is_octilinear.branch [
        | then-is_octilinear w ↦ (let n : back w.max.result ≡ pos (unit_steps c.args.e) = result_is w.max.type_inv (w.max.ensures.value ∙ max_is _ _ ∙ ap₂ maxℤ (ax_is s) (ay_is s) ∙ max_pos (ax c.args.e) (ay c.args.e)) in
            subst⁻¹ Answered w.result-is
            ∣ unit (octilinear s (c.is_octilinear.ensures.yes w.if-is_octilinear.true)) (walk_eq (axis_eq refl (x0_is s) (sx_is s)) (axis_eq refl (y0_is s) (sy_is s)) n refl) ∣₁)
        | else-is_octilinear w ↦ (let n = (held_back tt (product s)).is in
            subst⁻¹ Answered w.result-is
            ∣ fine (λ o. c.is_octilinear.ensures.no w.if-is_octilinear.false (signs s o)) (walk_eq (axis_eq (ay_is s) (x0_is s) (sx_is s)) (axis_eq (ax_is s) (y0_is s) (sy_is s)) n n) ∣₁)
      ];
    }
