-- One number after the other, from 0 on.
use Rattle.std.proofs.Common.{◌≡◌, refl, sym, ◌∙◌, ap, ap₂, Bool, true, false, cond, ◌&&◌, ℕ, suc, ◌+◌, ◌-◌, ◌<◌, ◌≤◌, ℤ, to_z-of_z, arith}
use Rattle.integers.specs.Units.{most_splits}
use Rattle.curve.specs.Curve.{flat, splits_from, splits}
use Rattle.curve.proofs.splits_of.Goals as goal

-- ---- one more
step-yes : (m k : ℕ) (u v : ℤ) → (flat k u && flat k v) ≡ true → splits_from (suc m) k u v ≡ k
unfolding splits_from
step-yes m k u v e = ap (λ b. cond b k (splits_from m (suc k) u v)) e

step-no : (m k : ℕ) (u v : ℤ) → (flat k u && flat k v) ≡ false → splits_from (suc m) k u v ≡ splits_from m (suc k) u v
unfolding splits_from
step-no m k u v e = ap (λ b. cond b k (splits_from m (suc k) u v)) e

last : (k : ℕ) (u v : ℤ) → splits_from 0 k u v ≡ k
unfolding splits_from
last k u v = refl

-- ---- in the loop, where the test answers b
module _ (k : ℕ) (u v : ℤ) (h : k < most_splits) (rest : splits u v ≡ splits_from (most_splits - k) k u v) where
  here : splits u v ≡ splits_from (suc (most_splits - (k + 1))) k u v
  here = let e : most_splits - k ≡ suc (most_splits - (k + 1)) = omega arith in rest ∙ ap (λ m. splits_from m k u v) e

  module _ {b : Bool} (test-is : b ≡ (flat k u && flat k v)) where
    ends : b ≡ true → k ≡ splits u v
    ends y = sym (step-yes (most_splits - (k + 1)) k u v (sym test-is ∙ y)) ∙ sym here

    goes_on : b ≡ false → splits u v ≡ splits_from (most_splits - (k + 1)) (k + 1) u v
    goes_on n =
        let next : suc k ≡ k + 1 = omega arith in
        here ∙ step-no (most_splits - (k + 1)) k u v (sym test-is ∙ n) ∙ ap (λ n. splits_from (most_splits - (k + 1)) n u v) next

-- ---- after it
at_end : (k : ℕ) (u v : ℤ) → most_splits ≤ k → splits u v ≡ splits_from (most_splits - k) k u v → k ≡ splits u v
at_end k u v h rest = let none : most_splits - k ≡ 0 = omega arith in sym (rest ∙ ap (λ m. splits_from m k u v) none ∙ last k u v)

pub are_flat-requires : goal.are_flat-requires
are_flat-requires c = omega (arith, c.loop-k-test.true)

pub returns-then-are_flat : goal.returns-then-are_flat
returns-then-are_flat c =
    ends c.loop-k.k _ _ c.loop-k-test.true c.loop-k.invariant.rest c.are_flat.ensures c.if-are_flat.true ∙ ap₂ splits (to_z-of_z c.ranges.u) (to_z-of_z c.ranges.v)

pub loop-k-preserved : goal.loop-k-preserved
loop-k-preserved c = record {
  few = omega (arith, c.loop-k-test.true);
  rest = goes_on c.loop-k.k _ _ c.loop-k-test.true c.loop-k.invariant.rest c.are_flat.ensures c.if-are_flat.false;
}

pub returns : goal.returns
returns c =
    let i = c.loop-k.invariant in
    let all : c.loop-k.k ≡ most_splits = omega (arith, i.few, c.loop-k-test.false) in
    sym all ∙ at_end c.loop-k.k _ _ c.loop-k-test.false i.rest ∙ ap₂ splits (to_z-of_z c.ranges.u) (to_z-of_z c.ranges.v)
