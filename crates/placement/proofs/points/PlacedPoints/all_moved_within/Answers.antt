-- What the code finds at point k decides, or the points after it do.
use Rattle.std.proofs.Common.{◌≡◌, ℕ, ◌+◌, ◌*◌, ◌<◌, ◌≤◌, Bool, false, true, ◌&&◌, List, length, drop, get_or, ℤ, pos, sym, ap, ◌∙◌, ap₂, FitsSigned, w64, arith, to_z-of_z}
use Rattle.integers.specs.Bits.{back}
use Rattle.integers.specs.Tests.{every, between}
use Rattle.integers.proofs.Theorems.Every.{every-pair, every_end}
use Rattle.placement.specs.Placed.{placed}
use Rattle.placement.proofs.Laws.PlacedPoints.{placed-length}
use Rattle.placement.proofs.points.PlacedPoints.all_moved_within.Goals as goal

-- the bounds as they are held, and as they were given
bounds-are : {low high : ℤ} → FitsSigned w64 low → FitsSigned w64 high → (l : List ℤ) → every (between low high) l ≡ every (between (back low) (back high)) l
bounds-are f g l = sym (ap₂ (λ (a b : ℤ). every (between a b) l) (to_z-of_z f) (to_z-of_z g))

decides : (t : ℤ → Bool) (l : List ℤ) (k : ℕ) (b : Bool) → 2 * k + 1 < length l → every t l ≡ every t (drop (2 * k) l)
    → {x y : ℤ} → (x ≡ get_or l (2 * k) (pos 0)) × (y ≡ get_or l (2 * k + 1) (pos 0)) → b ≡ (t x && t y) → every t l ≡ (b && every t (drop (2 * (k + 1)) l))
decides t l k b h i q e =
    let next : 2 * k + 2 ≡ 2 * (k + 1) = omega arith in
    i ∙ every-pair t (pos 0) l (2 * k) h (sym (e ∙ ap₂ (λ x y. t x && t y) q.0 q.1)) ∙ ap (λ n. b && every t (drop n l)) next

pub returns-then-not-is_point_within : goal.returns-then-not-is_point_within
returns-then-not-is_point_within c =
    let l = placed c.args.self.now.placement c.args.self.now.given.now in
    let h : 2 * c.loop-k.k + 1 < length l = omega (arith, placed-length c.args.self.now.placement c.args.self.now.given.now) in
    sym (bounds-are c.ranges.low c.ranges.high l ∙ decides _ l c.loop-k.k false h c.loop-k.invariant c.point.ensures c.if-not-is_point_within.ensures)

pub loop-k-preserved : goal.loop-k-preserved
loop-k-preserved c =
    let l = placed c.args.self.now.placement c.args.self.now.given.now in
    let h : 2 * c.loop-k.k + 1 < length l = omega (arith, placed-length c.args.self.now.placement c.args.self.now.given.now) in
    decides _ l c.loop-k.k true h c.loop-k.invariant c.point.ensures c.if-not-is_point_within.ensures

pub returns : goal.returns
returns c =
    let l = placed c.args.self.now.placement c.args.self.now.given.now in
    let end : length l ≤ 2 * c.loop-k.k = omega (arith, placed-length c.args.self.now.placement c.args.self.now.given.now) in
    sym (bounds-are c.ranges.low c.ranges.high l ∙ c.loop-k.invariant ∙ every_end _ (pos 0) l (2 * c.loop-k.k) end)
