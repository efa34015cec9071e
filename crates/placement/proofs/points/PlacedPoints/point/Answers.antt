-- The point is read, and moved where there is a placement.
use Rattle.std.proofs.Common.{◌≡◌, ℕ, ◌+◌, ◌*◌, ◌<◌, List, [], ◌∷◌, length, get_or, ℤ, pos, sym, ap, ◌∙◌, ap₂, arith, rules}
use Rattle.integers.specs.Bits.{back}
use Rattle.placement.specs.Placed.{across_of, down_of, placed, placeable}
use Rattle.placement.proofs.Laws.PlacedPoints.{placed_x, placed_y, placeable_at, as_many}
use Rattle.placement.specs.declared.Placement.{Placement}
use Rattle.placement.proofs.points.PlacedPoints.point.Goals as goal

-- where a point goes is point k of the placed ones
placed-is : (p : Placement) (l : List ℤ) (k : ℕ) → 2 * k + 1 < length l → {u v : ℤ}
    → u ≡ across_of p (get_or l (2 * k) (pos 0)) (get_or l (2 * k + 1) (pos 0)) → v ≡ down_of p (get_or l (2 * k) (pos 0)) (get_or l (2 * k + 1) (pos 0))
    → (u ≡ get_or (placed p l) (2 * k) (pos 0)) × (v ≡ get_or (placed p l) (2 * k + 1) (pos 0))
placed-is p l k h i j = (i ∙ sym (placed_x p l k h), j ∙ sym (placed_y p l k h))

pub moved-requires : goal.moved-requires
moved-requires c =
    let q = c.args.self.now in
    let l = q.given.now in
    let k = c.args.k in
    let x-is : back (get_or l (2 * k) (pos 0)) ≡ get_or l (2 * k) (pos 0) = search rules in
    let y-is : back (get_or l (2 * k + 1) (pos 0)) ≡ get_or l (2 * k + 1) (pos 0) = search rules in
    ap₂ (λ x y. placeable q.placement (x ∷ y ∷ [])) x-is y-is
    ∙ placeable_at q.placement l (2 * k) (2 * k + 1) q.placeable (omega (arith, as_many c.args.self.now)) (omega (arith, as_many c.args.self.now))

-- nothing is moved
pub returns-in-None : goal.returns-in-None
returns-in-None c =
    let l = c.args.self.now.given.now in
    let k = c.args.k in
    let x = get_or l (2 * k) (pos 0) in
    let y = get_or l (2 * k + 1) (pos 0) in
    let x-is : back x ≡ x = search rules in
    let y-is : back y ≡ y = search rules in
    let e = sym c.in-None.is in
    placed-is c.args.self.now.placement l k (omega (arith, as_many c.args.self.now)) (x-is ∙ ap (λ (q : Placement). across_of q x y) e) (y-is ∙ ap (λ (q : Placement). down_of q x y) e)

pub returns-in_default : goal.returns-in_default
returns-in_default c =
    let p = c.args.self.now.placement in
    let l = c.args.self.now.given.now in
    let k = c.args.k in
    let x = get_or l (2 * k) (pos 0) in
    let y = get_or l (2 * k + 1) (pos 0) in
    let x-is : back x ≡ x = search rules in
    let y-is : back y ≡ y = search rules in
    placed-is p l k (omega (arith, as_many c.args.self.now)) (c.moved.ensures.0 ∙ ap₂ (across_of p) x-is y-is) (c.moved.ensures.1 ∙ ap₂ (down_of p) x-is y-is)
