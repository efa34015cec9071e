-- The walk along an edge: equal steps, so many that no grid line is crossed inside a step.
--
-- The edge from (x0, y0) to (x1, y1) is walked in N = |dx| × |dy| equal steps, a difference of 0 counted as 1. After t steps
--   |dy| × x = |dy| × x0 + sign(dx) × t        and        |dx| × y = |dx| × y0 + sign(dy) × t.
-- Both are whole numbers that move by at most 1 a step, and at a grid line x = c the first is |dy| × c, a whole number too. So inside a step no
-- grid line is crossed: there each function that bends at grid lines only is linear, and the trapezoid rule over the steps is the integral itself.
-- Level, upright and point edges are no cases of their own. (01's step, 1/256 pixel, is the unit of coordinates; here a step is one of the walk.)
--
-- Definitions
--   extent, sign               |d|, but 1 for 0; and the sign of d
--   dx, dy, ax, ay, steps      an edge's differences, their extents, N
--   x_axis, y_axis             an edge's two directions
--   beyond                     how far past a line the walk is after t steps
--   past, near                 the same held to a cell's width; and the distance to the nearer side
use Rattle.std.specs.Prelude.{ℕ, zero, suc, ◌*◌, ℤ, pos, negsuc, ◌+ℤ◌, ◌-ℤ◌, ◌*ℤ◌}
use Rattle.integers.specs.Clamp.{clamp}
use Rattle.integers.specs.Tent.{tent}
use Rattle.edge.specs.declared.Edge.{Edge}
use Rattle.edge.specs.declared.Axis.{Axis}

unfoldable pub extent : ℤ → ℕ
extent (pos zero) = 1
extent (pos (suc n)) = suc n
extent (negsuc n) = suc n

unfoldable pub sign : ℤ → ℤ
sign (pos zero) = pos 0
sign (pos (suc n)) = pos 1
sign (negsuc n) = negsuc 0

abbrev pub dx : Edge → ℤ
dx e = e.x1 -ℤ e.x0

abbrev pub dy : Edge → ℤ
dy e = e.y1 -ℤ e.y0

abbrev pub ax : Edge → ℕ
ax e = extent (dx e)

abbrev pub ay : Edge → ℕ
ay e = extent (dy e)

abbrev pub steps : Edge → ℕ
steps e = ax e * ay e

-- ---- one direction of a walk: the coordinate, `scale` times over, starts from `scale × start` and moves by `sign` at each step
abbrev pub x_axis : Edge → Axis
x_axis e = record { scale = pos (ay e); start = e.x0; sign = sign (dx e) }

abbrev pub y_axis : Edge → Axis
y_axis e = record { scale = pos (ax e); start = e.y0; sign = sign (dy e) }

-- `scale` times how far past the line the coordinate is after t steps
abbrev pub beyond : Axis → ℤ → ℤ → ℤ
beyond a line t = a.scale *ℤ (a.start -ℤ line) +ℤ a.sign *ℤ t

-- "how far x lies past the cell's left side, held between 0 and the cell's width", `scale` times over; of y and the top side likewise
abbrev pub past : Axis → ℤ → ℤ → ℤ → ℤ
past a side w t = clamp (beyond a side t) (pos 0) (a.scale *ℤ w)

-- "the distance from x to the cell's nearer upright side", 0 outside, `scale` times over; of y and the level sides likewise
abbrev pub near : Axis → ℤ → ℤ → ℤ → ℤ
near a side w t = tent (a.scale *ℤ w) (beyond a side t)
