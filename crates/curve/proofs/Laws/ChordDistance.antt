-- "before this rounding no chord leaves its curve by more than one step in x or y"
--
-- Between i / n and (i + 1) / n, at the parameter (i + a / b) / n with a / b from 0 to 1, the chord and the curve are a (b − a) / b² times bend / n²
-- apart. That is at most a quarter of bend / n², and so at most 1 where the bend is at most 4 n². a / b is any fraction, so every rational parameter is
-- covered; both sides are polynomials in the parameter, so there is no other place where they could be farther apart.
--
-- Main results
--   chord_curve                 the distance, n² b² times over
--   chord_close                 it is at most one step
use Rattle.std.specs.Prelude.{◌≡◌, refl, [], ◌∷◌, ℤ, pos, ◌+ℤ◌, ◌-ℤ◌, ◌*ℤ◌, ◌≤ℤ◌}
use Rattle.std.proofs.Common.{sym}
use Rattle.integers.proofs.Theorems.Ring.{read, ring}
use Rattle.integers.proofs.Theorems.Order.{≤ℤ-mul, ≤ℤ-mul-nonneg, ≤ℤ-square}
use Rattle.integers.proofs.Theorems.Linear.{le, ◌&◌, linear, lin≤}
use Rattle.integers.specs.Within.{Within}
use Rattle.integers.proofs.Theorems.Within.{within_is}
use Rattle.curve.specs.Curve.{bend, curve_num, chord_num}

pub chord_curve : (p q r n i b a : ℤ)
    → b *ℤ chord_num p q r n i b a -ℤ curve_num p q r (n *ℤ b) (i *ℤ b +ℤ a) ≡ a *ℤ (b -ℤ a) *ℤ bend p q r
chord_curve p q r n i b a = ring (p ∷ q ∷ r ∷ n ∷ i ∷ b ∷ a ∷ []) (search read depth 40) tt

-- a (b − a) s is at most n² b², since 4 a (b − a) = b² − (b − 2 a)²
close : (n b a s : ℤ) → pos 0 ≤ℤ a → a ≤ℤ b → s ≤ℤ (pos 4 *ℤ (n *ℤ n)) → (a *ℤ (b -ℤ a) *ℤ s) ≤ℤ (n *ℤ n *ℤ (b *ℤ b))
close n b a s h k w =
    let m≥0 : pos 0 ≤ℤ (a *ℤ (b -ℤ a)) = ≤ℤ-mul-nonneg h (lin≤ (a ∷ b ∷ []) (le k) (search linear depth 40) tt) in
    let first = ≤ℤ-mul m≥0 w in
    let second = ≤ℤ-mul-nonneg (≤ℤ-square n) (≤ℤ-square (b -ℤ pos 2 *ℤ a)) in
    lin≤ (n ∷ b ∷ a ∷ s ∷ []) (le first & le second) (search linear depth 40) tt

pub chord_close : (p q r n i b a : ℤ) → pos 0 ≤ℤ a → a ≤ℤ b → Within (pos 4 *ℤ (n *ℤ n)) (bend p q r)
    → Within (n *ℤ n *ℤ (b *ℤ b)) (b *ℤ chord_num p q r n i b a -ℤ curve_num p q r (n *ℤ b) (i *ℤ b +ℤ a))
chord_close p q r n i b a h k w =
    let s = bend p q r in
    let up = close n b a s h k w.high in
    let down = close n b a (pos 0 -ℤ s) h k (lin≤ (p ∷ q ∷ r ∷ n ∷ []) (le w.low) (search linear depth 40) tt) in
    within_is refl (sym (chord_curve p q r n i b a)) (record {
      low = lin≤ (n ∷ b ∷ a ∷ p ∷ q ∷ r ∷ []) (le down) (search linear depth 40) tt;
      high = up;
    })
