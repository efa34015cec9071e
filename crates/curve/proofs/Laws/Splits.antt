-- k, of 2^k chords: the least from 0 to 7 that will do; and for points on a sheet one will do.
--
-- Main results
--   splits_most                 k is at most 7
--   splits_least                no smaller one makes both bends flat
--   splits-flat                 k does, where 7 does
--   bend_within                 three coordinates from 0 to w have a bend within 2 w
--   flat_on                     so 7 does for coordinates on a sheet
use Rattle.std.specs.Prelude.{◌≡◌, refl, Bool, true, false, ◌&&◌, cond, [], ◌∷◌, ◌↔◌, ℕ, zero, suc, ◌+◌, ◌<◌, ◌≤◌, ltb, ℤ, pos, ◌*ℤ◌, ◌≤ℤ◌}
use Rattle.std.proofs.Common.{sym, ◌∙◌, subst, true≢false, arith, ltb-true, ltb-false}
use Rattle.integers.specs.Units.{most_splits}
use Rattle.integers.proofs.Theorems.Tests.{and_means, within_means}
use Rattle.integers.proofs.Theorems.Linear.{le, ◌&◌, linear, lin≤}
use Rattle.integers.specs.Within.{Within}
use Rattle.curve.specs.Curve.{OnSheet, bend, bend_limit, IsFlat, flat, splits_from, splits}

-- ---- what the test says
both_means : (k : ℕ) (u v : ℤ) → ((flat k u && flat k v) ≡ true) ↔ (IsFlat k u × IsFlat k v)
both_means k u v = and_means (flat k u) (flat k v) (within_means (pos (bend_limit k)) u) (within_means (pos (bend_limit k)) v)

-- ---- the least
from_most : (m k : ℕ) (u v : ℤ) → splits_from m k u v ≤ k + m
unfolding splits_from
from_most zero k u v = omega arith
from_most (suc m) k u v = go (flat k u && flat k v) (from_most m (suc k) u v)
  where
    go : (b : Bool) → splits_from m (suc k) u v ≤ suc k + m → cond b k (splits_from m (suc k) u v) ≤ k + suc m
    go true h = omega arith
    go false h = omega arith

pub splits_most : (u v : ℤ) → splits u v ≤ most_splits
splits_most u v = from_most most_splits 0 u v

from_least : (m k : ℕ) (u v : ℤ) (j : ℕ) → k ≤ j → j < splits_from m k u v → IsFlat j u → IsFlat j v → ⊥
unfolding splits_from
from_least zero k u v j h l f g = absurd (omega arith)
from_least (suc m) k u v j h l f g = go (flat k u && flat k v) refl l (ltb k j) refl (λ i q. from_least m (suc k) u v j i q f g)
  where
    go : (b : Bool) → (flat k u && flat k v) ≡ b → j < cond b k (splits_from m (suc k) u v) → (c : Bool) → ltb k j ≡ c
        → (suc k ≤ j → j < splits_from m (suc k) u v → ⊥) → ⊥
    go true e i c d later = absurd (omega arith)
    go false e i true d later = later (ltb-true k j d) i
    go false e i false d later =
        let same : j ≡ k = omega (arith, ltb-false k j d) in
        true≢false (sym ((both_means k u v).1 (subst (λ n. IsFlat n u) same f, subst (λ n. IsFlat n v) same g)) ∙ e)

pub splits_least : (u v : ℤ) (j : ℕ) → j < splits u v → IsFlat j u → IsFlat j v → ⊥
splits_least u v j h = from_least most_splits 0 u v j (omega arith) h

-- ---- it does, where 7 does
from-flat : (m k : ℕ) (u v : ℤ) → IsFlat (k + m) u → IsFlat (k + m) v → IsFlat (splits_from m k u v) u × IsFlat (splits_from m k u v) v
unfolding splits_from
from-flat zero k u v f g =
    let e : k + 0 ≡ k = omega arith in
    (subst (λ n. IsFlat n u) e f, subst (λ n. IsFlat n v) e g)
from-flat (suc m) k u v f g =
    let more : k + suc m ≡ suc k + m = omega arith in
    go (flat k u && flat k v) refl (from-flat m (suc k) u v (subst (λ n. IsFlat n u) more f) (subst (λ n. IsFlat n v) more g))
  where
    go : (b : Bool) → (flat k u && flat k v) ≡ b → IsFlat (splits_from m (suc k) u v) u × IsFlat (splits_from m (suc k) u v) v
        → IsFlat (cond b k (splits_from m (suc k) u v)) u × IsFlat (cond b k (splits_from m (suc k) u v)) v
    go true e later = (both_means k u v).0 e
    go false e later = later

pub splits-flat : (u v : ℤ) → IsFlat most_splits u → IsFlat most_splits v → IsFlat (splits u v) u × IsFlat (splits u v) v
splits-flat u v f g = from-flat most_splits 0 u v f g

-- ---- coordinates on a sheet
pub bend_within : {w p q r : ℤ} → (pos 0 ≤ℤ p) × (p ≤ℤ w) → (pos 0 ≤ℤ q) × (q ≤ℤ w) → (pos 0 ≤ℤ r) × (r ≤ℤ w) → Within (pos 2 *ℤ w) (bend p q r)
bend_within {w} {p} {q} {r} a b c =
    let facts = le a.0 & le a.1 & le b.0 & le b.1 & le c.0 & le c.1 in
    record { low = lin≤ (w ∷ p ∷ q ∷ r ∷ []) facts (search linear depth 40) tt; high = lin≤ (w ∷ p ∷ q ∷ r ∷ []) facts (search linear depth 40) tt }

-- twice the width of the greatest sheet is 4 × 4^7
pub flat_on : {p q r : ℤ} → OnSheet p → OnSheet q → OnSheet r → IsFlat most_splits (bend p q r)
flat_on a b c = bend_within a b c
