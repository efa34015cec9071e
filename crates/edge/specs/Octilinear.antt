-- Edges that are level, upright or at 45 degrees. Walked in unit steps, x and y are whole numbers after each, so their values need no division.
--
-- Definitions
--   Octilinear                  level, upright, or at 45 degrees
--   unit_x, unit_y, unit_steps  the walk in unit steps
use Rattle.std.specs.Prelude.{◌≡◌, ℕ, max, pos}
use Rattle.edge.specs.declared.Edge.{Edge}
use Rattle.edge.specs.declared.Axis.{Axis}
use Rattle.edge.specs.Walk.{sign, dx, dy, ax, ay}

-- "every edge is level, upright or at 45 degrees": of one at 45 degrees both extents are the same. (So are those of a point, and of a level or upright
-- edge one step long, since a difference of 0 has the extent 1.)
pub data Octilinear (e : Edge) : Type 0 where
  level : dy e ≡ pos 0 → Octilinear e
  upright : dx e ≡ pos 0 → Octilinear e
  diagonal : ax e ≡ ay e → Octilinear e

-- A unit step moves x and y by one of 01's steps each, or not at all. (01's unit is one of area, half a square step.)
abbrev pub unit_x : Edge → Axis
unit_x e = record { scale = pos 1; start = e.x0; sign = sign (dx e) }

abbrev pub unit_y : Edge → Axis
unit_y e = record { scale = pos 1; start = e.y0; sign = sign (dy e) }

abbrev pub unit_steps : Edge → ℕ
unit_steps e = max (ax e) (ay e)
