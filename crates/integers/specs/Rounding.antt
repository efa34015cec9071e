-- The two roundings of 01, of a fraction n / d with d > 0.
--
-- Definitions
--   round_half_away n d, with the property `IsNearestAway` that no other number has      (laws: `RoundHalfAway`, `NearestAway`)
--   round_half_up n d, the floor of n / d + 1/2                                          (laws: `RoundHalfUp`)
use Rattle.std.specs.Prelude.{◌≡◌, ℕ, suc, ◌+◌, ◌*◌, ◌/◌, ℤ, pos, negsuc, neg_ℤ, ◌+ℤ◌, ◌-ℤ◌, ◌*ℤ◌, ◌≤ℤ◌}
use Rattle.integers.specs.Magnitude.{abs}

-- ---- "to the nearest whole unit, halves away from zero": an edge's details

-- of a magnitude: a half goes up
unfoldable pub nearestℕ : ℕ → ℕ → ℕ
nearestℕ a d = (2 * a + d) / (2 * d)

-- with the sign put back
unfoldable pub round_half_away : ℤ → ℕ → ℤ
round_half_away (pos a) d = pos (nearestℕ a d)
round_half_away (negsuc a) d = neg_ℤ (pos (nearestℕ (suc a) d))

-- q is as near to n / d as any whole number p, and of those that are as near none is farther from zero. The distances are d times over.
pub record IsNearestAway (n : ℤ) (d : ℕ) (q : ℤ) : Type 0 where
  pub nearest : (p : ℤ) → abs (n -ℤ pos d *ℤ q) ≤ℤ abs (n -ℤ pos d *ℤ p)
  pub away : (p : ℤ) → abs (n -ℤ pos d *ℤ p) ≡ abs (n -ℤ pos d *ℤ q) → abs p ≤ℤ abs q

-- ---- "to the nearest whole number, halves up": a grey

-- the greatest whole number that is at most n / d
unfoldable pub floor : ℤ → ℕ → ℤ
floor (pos a) d = pos (a / d)
floor (negsuc a) d = negsuc (a / d)

-- the floor of n / d + 1/2
unfoldable pub round_half_up : ℤ → ℕ → ℤ
round_half_up n d = floor (pos 2 *ℤ n +ℤ pos d) (2 * d)
