-- 2^k chords are at most 128, and n × n is 4^k.
use Rattle.std.proofs.Common.{◌≡◌, refl, ◌∙◌, ap, ap₂, ℕ, ◌*◌, ◌^◌, ◌≤◌, ℤ, pos, neg_ℤ, ◌*ℤ◌, w64, to_z, to_z-of_z, pow_mono, arith}
use Rattle.std.proofs.lemmas.Int.{to_z_pos}
use Rattle.integers.specs.Units.{most_splits, most_chords}
use Rattle.integers.proofs.Theorems.Order.{nonneg, pos-≤ℤ}
use Rattle.integers.proofs.Theorems.Within.{within_le, within_self}
use Rattle.integers.specs.Held.{Held}
use Rattle.integers.proofs.Theorems.Held.{held-neg, held-mul, held_back}
use Rattle.integers.specs.Tests.{between}
use Rattle.integers.specs.Bits.{back}
use Rattle.curve.specs.Curve.{bend_limit}
use Rattle.curve.proofs.Laws.ChordEnds.{power_square}
use Rattle.curve.proofs.is_flat.Goals as goal

four : Held 4 (pos 4) (pos 4)
four = record { is = refl; within = within_self (nonneg 4) }

module _ (k : ℕ) {m : ℕ} (h : k ≤ most_splits) (is : m ≡ 2 ^ k) where
  few : m ≤ most_chords
  few = omega (arith, is, pow_mono {i = k} {j = most_splits} h)

  n : Held most_chords (to_z w64 m) (pos m)
  n = record { is = to_z_pos w64 m (omega (arith, few)); within = within_le (pos-≤ℤ few) (within_self (nonneg m)) }

  square : Held (most_chords * most_chords) (to_z w64 m *ℤ to_z w64 m) (pos m *ℤ pos m)
  square = held-mul n n

  limit : Held (4 * (most_chords * most_chords)) (pos 4 *ℤ back (to_z w64 m *ℤ to_z w64 m)) (pos 4 *ℤ (pos m *ℤ pos m))
  limit = held-mul four (held_back tt square)

  limit_is : (pos 4 *ℤ (pos m *ℤ pos m)) ≡ pos (bend_limit k)
  limit_is = ap (λ m. pos (4 * (m * m))) is ∙ ap (λ n. pos (4 * n)) (power_square k)

same : {a b z a' b' z' : ℤ} → a ≡ a' → b ≡ b' → z ≡ z' → between a b z ≡ between a' b' z'
same {z = z} {a' = a'} {b' = b'} e f g = ap₂ (λ a b. between a b z) e f ∙ ap (between a' b') g

pub returns : goal.returns
returns c =
    let l = held_back tt (limit c.args.k c.requires c.chords_at-n.ensures) in
    c.is_within.ensures ∙ same (held_back tt (held-neg l)).is l.is (to_z-of_z c.ranges.z)
    ∙ ap (λ z. between (neg_ℤ z) z c.args.z) (limit_is c.args.k c.requires c.chords_at-n.ensures)
