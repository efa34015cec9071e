-- What the public functions answer: the walk of an edge, and yes or no.
--
-- Definitions
--   Course                    the numbers of a `Walk`
--   fine_walk, unit_walk      the walk in the definitions' steps, and in unit steps
--   IsWalk                    which of the two a `Walk` is
--   Decides                   a test's answer
use Rattle.std.specs.Prelude.{◌≡◌, Bool, true, false, ℤ, pos}
use Rattle.edge.specs.declared.Edge.{Edge}
use Rattle.edge.specs.declared.Axis.{Axis}
use Rattle.edge.specs.Walk.{steps, x_axis, y_axis}
use Rattle.edge.specs.Octilinear.{Octilinear, unit_x, unit_y, unit_steps}

-- an edge, and the directions, the steps and the divisor of a walk along it
pub record Course : Type 0 where
  pub edge : Edge
  pub x : Axis
  pub y : Axis
  pub steps : ℤ
  pub divisor : ℤ

-- its sums are `steps e` times the values
abbrev pub fine_walk : Edge → Course
fine_walk e = record { edge = e; x = x_axis e; y = y_axis e; steps = pos (steps e); divisor = pos (steps e) }

-- its sums are the values
abbrev pub unit_walk : Edge → Course
unit_walk e = record { edge = e; x = unit_x e; y = unit_y e; steps = pos (unit_steps e); divisor = pos 1 }

-- w is the walk of its own edge: in unit steps where that is octilinear, else in the definitions' steps
pub data IsWalk (w : Course) : Type 0 where
  fine : (Octilinear w.edge → ⊥) → w ≡ fine_walk w.edge → IsWalk w
  unit : Octilinear w.edge → w ≡ unit_walk w.edge → IsWalk w

-- b says whether P
pub record Decides (b : Bool) (P : Type 0) : Type 0 where
  pub yes : b ≡ true → P
  pub no : b ≡ false → P → ⊥
