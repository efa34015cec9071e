-- What lies under a tent. A direction that moves crosses the middle between its sides at step m, and half of the width is p of its steps: after t steps
-- it is p − |t − m| from the nearer side.
--
-- Definitions
--   signed_square           z², with the sign of z
--   under                   twice the sum under the tent
--   turned                  the same with the sign turned from some step on
--   under_limit, sum_limit  how large it is, and what is rounded at most
--   far_limit               how far off a crossing may be
--   Arch                    where it is asked for
--   Turns                   the sign of a number, 1 for 0
use Rattle.std.specs.Prelude.{◌≡◌, ℕ, ◌+◌, ◌*◌, ◌^◌, ℤ, pos, negsuc, ◌-ℤ◌, ◌*ℤ◌, ◌≤ℤ◌, ◌<ℤ◌}
use Rattle.integers.specs.Units.{width_times_extent_limit}
use Rattle.integers.specs.Within.{Within}
use Rattle.integers.specs.Clamp.{clamp}
use Rattle.integers.specs.Magnitude.{abs}
use Rattle.edge.specs.Room.{crossing_limit}

abbrev pub signed_square : ℤ → ℤ
signed_square z = z *ℤ abs z

-- twice the sum of p − |t − m| over the steps from u to v, each step by the mean of its ends
unfoldable pub under : ℤ → ℤ → ℤ → ℤ → ℤ
under p m u v = pos 2 *ℤ p *ℤ (v -ℤ u) -ℤ (signed_square (v -ℤ m) -ℤ signed_square (u -ℤ m))

-- what lies under it up to step y, less what comes after, y being held between u and v
unfoldable pub turned : ℤ → ℤ → ℤ → ℤ → ℤ → ℤ
turned p m u v y = under p m u (clamp y u v) -ℤ under p m (clamp y u v) v

-- more than it ever is: where it is asked for, it is at most 2 p², and p is at most 2^28
abbrev pub under_limit : ℕ
under_limit = 2 ^ 60

-- twice one such sum and another
abbrev pub sum_limit : ℕ
sum_limit = 2 * under_limit + under_limit

-- A crossing is at most half of a width from the first step inside, and that step is within `crossing_limit`: twice that limit is enough for both.
abbrev pub far_limit : ℕ
far_limit = 2 * crossing_limit

-- p − |t − m| is not negative from u to v, and all is in range
pub record Arch (p m u v : ℤ) : Type 0 where
  pub order : u ≤ℤ v
  pub peak : Within (pos width_times_extent_limit) p
  pub start : Within p (u -ℤ m)
  pub end : Within p (v -ℤ m)
  pub middle : Within (pos far_limit) m
  pub from : Within (pos crossing_limit) u
  pub to : Within (pos crossing_limit) v

pub data Turns (m s : ℤ) : Type 0 where
  stays : pos 0 ≤ℤ m → s ≡ pos 1 → Turns m s
  turns : m <ℤ pos 0 → s ≡ negsuc 0 → Turns m s
