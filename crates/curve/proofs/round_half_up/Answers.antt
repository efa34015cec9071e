-- The quotient of 2 n + d by 2 d, of numbers that are not negative.
use Rattle.std.proofs.Common.{◌≡◌, refl, ◌∙◌, ap₂, subst, [], ◌∷◌, ℕ, ◌+◌, ◌*◌, ◌^◌, ltb→lt, ℤ, pos, negsuc, nat_abs, ◌+ℤ◌, ◌*ℤ◌, ◌≤ℤ◌, ◌<ℤ◌, w64, SFits, to_z-of_z}
use Rattle.std.proofs.Math.Path.{subst⁻¹}
use Rattle.std.specs.Int.Signed.{quot_z}
use Rattle.integers.proofs.Theorems.Order.{nonneg, ≤ℤ_of_<ℤ}
use Rattle.integers.proofs.Theorems.Linear.{le, lt, eq, ◌&◌, linear, lin≤, lin<}
use Rattle.integers.proofs.Theorems.Within.{within_self, within_le}
use Rattle.integers.specs.Rounding.{round_half_up}
use Rattle.integers.specs.RoundHalfUp.{UpBounds}
use Rattle.integers.proofs.Theorems.RoundHalfUp.{round_half_up_of_bounds}
use Rattle.integers.specs.Division.{Truncated}
use Rattle.integers.proofs.Theorems.Division.{truncated, quot_fits}
use Rattle.integers.specs.Bits.{back}
use Rattle.integers.specs.Held.{Held}
use Rattle.integers.proofs.Theorems.Held.{held_number, held-add, held-mul, held_fits, held_back}
use Rattle.curve.proofs.round_half_up.Goals as goal

abbrev limit : ℕ
limit = 2 ^ 60

two : Held 2 (pos 2) (pos 2)
two = record { is = refl; within = within_self (nonneg 2) }

-- of a divisor that is an integer, as code has it
of-bounds : {n d q : ℤ} → pos 0 <ℤ d → UpBounds n d q → q ≡ round_half_up n (nat_abs d)
of-bounds {d = pos d} h b = round_half_up_of_bounds (ltb→lt 0 d h.lt) b
of-bounds {d = negsuc d} h b = absurd h.lt

half_up : {n d q r : ℤ} → pos 0 ≤ℤ n → pos 0 <ℤ d → Truncated (pos 2 *ℤ n +ℤ d) (pos 2 *ℤ d) q r → q ≡ round_half_up n (nat_abs d)
half_up {n} {d} {q} {r} g h t =
    let s = t.nonnegative (lin≤ (n ∷ d ∷ []) (le g & lt h) (search linear depth 40) tt) in
    of-bounds h (record {
      over = lin≤ (n ∷ d ∷ q ∷ r ∷ []) (eq t.whole & le s.1) (search linear depth 40) tt;
      under = lin< (n ∷ d ∷ q ∷ r ∷ []) (eq t.whole & lt t.below) (search linear depth 40) tt;
    })

module _ (c : goal.Start) where
  abbrev n : ℤ
  n = c.args.n

  abbrev d : ℤ
  d = c.args.d

  d-held : Held limit (back d) d
  d-held = held_number tt (within_le c.requires.3 (within_self (≤ℤ_of_<ℤ c.requires.2)))

  above : Held (2 * limit + limit) (back (pos 2 *ℤ back n) +ℤ back d) (pos 2 *ℤ n +ℤ d)
  above = held-add (held_back tt (held-mul two (held_number {b = limit} tt (within_le c.requires.1 (within_self c.requires.0))))) d-held

  below : Held (2 * limit) (pos 2 *ℤ back d) (pos 2 *ℤ d)
  below = held-mul two d-held

  divisor-positive : pos 0 <ℤ (pos 2 *ℤ d)
  divisor-positive = lin< (d ∷ []) (lt c.requires.2) (search linear depth 40) tt

  abbrev Q : ℤ
  Q = quot_z (back (back (pos 2 *ℤ back n) +ℤ back d)) (back (pos 2 *ℤ back d))

  Q-is : Q ≡ quot_z (pos 2 *ℤ n +ℤ d) (pos 2 *ℤ d)
  Q-is = ap₂ quot_z (held_back tt above).is (held_back tt below).is

  Q-fits : SFits w64 Q
  Q-fits = subst⁻¹ (SFits w64) Q-is (quot_fits (pos 2 *ℤ n +ℤ d) (pos 2 *ℤ d) (subst (SFits w64) above.is (held_fits tt above)) divisor-positive)

pub returns : goal.returns
returns c = to_z-of_z (Q-fits c) ∙ Q-is c ∙ half_up c.requires.0 c.requires.2 (truncated (pos 2 *ℤ n c +ℤ d c) (pos 2 *ℤ d c) (divisor-positive c))
