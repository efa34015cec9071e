-- What the type says of every walk: its numbers are the walk of its edge. The type keeps no more than that there is a proof; here it is had, by asking whether
-- the edge is octilinear.
--
-- Main results
--   octilinear_or                         an edge is octilinear or it is not
--   is_walk                               a walk's numbers are the walk of its edge
use Rattle.std.specs.Prelude.{◌≡◌, refl, Bool, true, false, ◌⊎◌, ℤ, pos}
use Rattle.std.proofs.Common.{sym, ◌∙◌, inl, inr, true≢false}
use Rattle.std.proofs.Math.IntN.{ℤ_set}
use Rattle.std.proofs.Math.Logic.{∥∥₁_elim}
use Rattle.std.proofs.lemmas.Bool.Decides.{Decides-int_eq, eqb_tells}
use Rattle.std.specs.Ordering.{int_eq}
use Rattle.std.proofs.Math.Dec.{eqb}
use Rattle.edge.specs.declared.Edge.{Edge}
use Rattle.edge.specs.declared.Walk.{Walk}
use Rattle.edge.specs.Walk.{dx, dy, ax, ay}
use Rattle.edge.specs.Octilinear.{Octilinear, level, upright, diagonal}
use Rattle.edge.specs.CourseOf.{course}
use Rattle.edge.specs.WalkOf.{Course, fine_walk, unit_walk, IsWalk, fine, unit}

equal_or : (a b : ℤ) → (a ≡ b) ⊎ (a ≡ b → ⊥)
equal_or a b = go (int_eq a b) refl
  where
    go : (t : Bool) → int_eq a b ≡ t → (a ≡ b) ⊎ (a ≡ b → ⊥)
    go true e = inl ((Decides-int_eq a b).0 e)
    go false e = inr (λ k. true≢false (sym ((Decides-int_eq a b).1 k) ∙ e))

pub octilinear_or : (e : Edge) → Octilinear e ⊎ (Octilinear e → ⊥)
octilinear_or e = go (equal_or (dy e) (pos 0)) (equal_or (dx e) (pos 0)) (eqb_tells (ax e) (ay e))
  where
    go : (dy e ≡ pos 0) ⊎ (dy e ≡ pos 0 → ⊥) → (dx e ≡ pos 0) ⊎ (dx e ≡ pos 0 → ⊥) → ((eqb (ax e) (ay e) ≡ true) × (ax e ≡ ay e)) ⊎ ((eqb (ax e) (ay e) ≡ false) × (ax e ≡ ay e → ⊥)) → Octilinear e ⊎ (Octilinear e → ⊥)
    go (inl h) q r = inl (level h)
    go (inr h) (inl k) r = inl (upright k)
    go (inr h) (inr k) (inl l) = inl (diagonal l.1)
    go (inr h) (inr k) (inr l) = inr none
      where
        none : Octilinear e → ⊥
        none (level p) = h p
        none (upright p) = k p
        none (diagonal p) = l.1 p

course-set : (x y : Course) → IsProp (x ≡ y)
course-set x y = Prim.hlevel (ℤ_set)

known : {w : Course} → ∥ IsWalk w ∥₁ → IsWalk w
known {w} t = go (octilinear_or w.edge)
  where
    by_unit : Octilinear w.edge → IsWalk w → w ≡ unit_walk w.edge
    by_unit o (fine n e) = absurd (n o)
    by_unit o (unit p e) = e

    by_fine : (Octilinear w.edge → ⊥) → IsWalk w → w ≡ fine_walk w.edge
    by_fine n (fine p e) = e
    by_fine n (unit o e) = absurd (n o)

    go : Octilinear w.edge ⊎ (Octilinear w.edge → ⊥) → IsWalk w
    go (inl o) = unit o (∥∥₁_elim t (course-set w (unit_walk w.edge)) (by_unit o))
    go (inr n) = fine n (∥∥₁_elim t (course-set w (fine_walk w.edge)) (by_fine n))

pub is_walk : (w : Walk) → IsWalk (course w)
is_walk w = known w.is_walk
