-- What the functions below the public ones ask and answer.
--
-- Definitions
--   before_middle, half_with, before_half                  how far two points lie before the middle; the half that they lie in; the same in that half
--   turned, quarter_details                                the details of an edge in one quarter
--   Closed, SamplesClosed                                  a direction is between its sides, or on them
--   beyond_at, near_at, piece_sum,
--   numerators_of, numerators_at                           the closed form at the four cuts
--   held_at, area_at                                       that of the area
--   rounded_by                                             three numerators, rounded
--   AxisRoom, SamplesWithin                                the ranges that they ask for
use Rattle.std.specs.Prelude.{ℕ, zero, suc, ℤ, pos, negsuc, neg_ℤ, nat_abs, ◌+ℤ◌, ◌-ℤ◌, ◌*ℤ◌, ◌≤ℤ◌}
use Rattle.integers.specs.Units.{width_times_extent_limit}
use Rattle.integers.specs.Within.{Within}
use Rattle.integers.specs.Magnitude.{abs}
use Rattle.integers.specs.MinMax.{min}
use Rattle.integers.specs.Clamp.{clamp}
use Rattle.integers.specs.Rounding.{round_half_away}
use Rattle.edge.specs.declared.Axis.{Axis}
use Rattle.edge.specs.declared.Cell.{Cell}
use Rattle.edge.specs.declared.Details.{Details}
use Rattle.edge.specs.declared.Samples.{Samples}
use Rattle.edge.specs.Walk.{beyond}
use Rattle.edge.specs.Room.{coordinate_limit, extent_limit}

-- ---- an edge in one quarter
-- how far p and q lie before the middle of a range, w wide, from `side` on, added up: both its sides less both of them
abbrev pub before_middle : ℤ → ℤ → ℤ → ℤ → ℤ
before_middle side w p q = (side +ℤ (side +ℤ w)) -ℤ (p +ℤ q)

-- two points in one half that lie so far before the middle lie in the first, 0; and in the second, 1, where that is negative
unfoldable pub half_with : ℤ → ℕ
half_with (pos n) = 0
half_with (negsuc n) = 1

-- and how far before the middle of that half, whose width is `half`
unfoldable pub before_half : ℤ → ℤ → ℤ
before_half (pos n) half = pos n -ℤ half
before_half (negsuc n) half = negsuc n +ℤ half

-- "as h, with the sign turned in the lower half"
abbrev pub turned : ℕ → ℤ → ℤ
turned zero z = z
turned (suc j) z = neg_ℤ z

-- the details, in a cell of width w, of an edge that runs by dx and dy in one of its quarters; u and v: how far its ends lie before the cell's middles. From both
-- ends to the side of their half it is the width less that, either way.
abbrev pub quarter_details : ℤ → ℤ → ℤ → ℤ → ℤ → Details
quarter_details w u v dx dy = record { h = (w -ℤ abs u) *ℤ dy; v = neg_ℤ ((w -ℤ abs v) *ℤ dx); d = turned (half_with v) ((w -ℤ abs u) *ℤ dy) }

-- ---- the four cuts
-- after t steps the direction is between its sides, or on them
pub record Closed (a : Axis) (side w t : ℤ) : Type 0 where
  pub low : pos 0 ≤ℤ beyond a side t
  pub high : beyond a side t ≤ℤ (a.scale *ℤ w)

pub record SamplesClosed (a : Axis) (side w : ℤ) (k : Samples) : Type 0 where
  pub first : Closed a side w k.first
  pub second : Closed a side w k.second
  pub third : Closed a side w k.third
  pub fourth : Closed a side w k.fourth

-- one direction: how far past the side
abbrev pub beyond_at : Axis → ℤ → Samples → Samples
beyond_at a side k = record { first = beyond a side k.first; second = beyond a side k.second; third = beyond a side k.third; fourth = beyond a side k.fourth }

-- and how far from the nearer of 0 and m, between them
abbrev pub near_at : ℤ → Samples → Samples
near_at m u = record { first = min u.first (m -ℤ u.first); second = min u.second (m -ℤ u.second); third = min u.third (m -ℤ u.third); fourth = min u.fourth (m -ℤ u.fourth) }

-- three pieces
abbrev pub piece_sum : Samples → Samples → ℤ
piece_sum f g =
    (f.first +ℤ f.second) *ℤ (g.second -ℤ g.first) +ℤ (f.second +ℤ f.third) *ℤ (g.third -ℤ g.second) +ℤ (f.third +ℤ f.fourth) *ℤ (g.fourth -ℤ g.third)

-- the numerators of h, v and d. x and y: how far past the sides; m and n: the width, in each direction's scale
abbrev pub numerators_of : ℤ → ℤ → Samples → Samples → Details
numerators_of m n x y = record { h = piece_sum (near_at m x) y; v = pos 0 -ℤ piece_sum (near_at n y) x; d = piece_sum (near_at m x) (near_at n y) }

abbrev pub numerators_at : Axis → Axis → Cell → Samples → Details
numerators_at a b c k = numerators_of (a.scale *ℤ c.width) (b.scale *ℤ c.width) (beyond_at a c.left k) (beyond_at b c.top k)

-- held between 0 and m
abbrev pub held_at : ℤ → Samples → Samples
held_at m u = record { first = clamp u.first (pos 0) m; second = clamp u.second (pos 0) m; third = clamp u.third (pos 0) m; fourth = clamp u.fourth (pos 0) m }

abbrev pub area_at : Axis → Axis → Cell → Samples → ℤ
area_at a b c k = piece_sum (held_at (a.scale *ℤ c.width) (beyond_at a c.left k)) (beyond_at b c.top k)

abbrev pub rounded_by : ℤ → Details → Details
rounded_by n m = record { h = round_half_away m.h (nat_abs n); v = round_half_away m.v (nat_abs n); d = round_half_away m.d (nat_abs n) }

-- ---- ranges: of one direction of a walk, as `Room` is for both, and of numbers at the four cuts
pub record AxisRoom (a : Axis) (side w : ℤ) : Type 0 where
  pub scaled : pos 0 ≤ℤ a.scale
  pub scale : a.scale ≤ℤ pos extent_limit
  pub signed : Within (pos 1) a.sign
  pub start : Within (pos coordinate_limit) a.start
  pub line : Within (pos coordinate_limit) side
  pub width : pos 0 ≤ℤ w
  pub wide : (a.scale *ℤ w) ≤ℤ pos width_times_extent_limit

pub record SamplesWithin (b : ℤ) (s : Samples) : Type 0 where
  pub first : Within b s.first
  pub second : Within b s.second
  pub third : Within b s.third
  pub fourth : Within b s.fourth
