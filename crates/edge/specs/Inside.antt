-- Some part of an edge lies strictly inside a cell, and not only on its sides or beyond them.
--
-- A step crosses no grid line in its inside, so all of it but its ends lies strictly inside the cell, or none does; its middle tells which. (A point is
-- one step, and its own middle.)
-- At whole t it would be wrong: a step may join two sides of a cell.
--
-- Definitions
--   twice_middle            both ends of a step, added up
--   Between                 the middle of step t lies strictly between two sides
--   SomeStepInside          some step of a walk does so in both directions
--   Inside                  some step of the edge does
use Rattle.std.specs.Prelude.{ℕ, ◌<◌, ℤ, pos, ◌+ℤ◌, ◌*ℤ◌, ◌<ℤ◌}
use Rattle.edge.specs.declared.Edge.{Edge}
use Rattle.edge.specs.declared.Cell.{Cell}
use Rattle.edge.specs.declared.Axis.{Axis}
use Rattle.edge.specs.Walk.{steps, x_axis, y_axis, beyond}

-- both ends of step t added up: twice its middle
abbrev pub twice_middle : Axis → ℤ → ℤ → ℤ
twice_middle a side t = beyond a side t +ℤ beyond a side (t +ℤ pos 1)

pub record Between (a : Axis) (side w t : ℤ) : Type 0 where
  pub after : pos 0 <ℤ twice_middle a side t
  pub before : twice_middle a side t <ℤ (pos 2 *ℤ (a.scale *ℤ w))

-- of a walk in n steps with a and b for its directions: some step lies strictly between the sides both ways
pub record SomeStepInside (a b : Axis) (c : Cell) (n : ℕ) : Type 0 where
  pub step : ℕ
  pub on : step < n
  pub x : Between a c.left c.width (pos step)
  pub y : Between b c.top c.width (pos step)

abbrev pub Inside : Edge → Cell → Type 0
Inside e c = SomeStepInside (x_axis e) (y_axis e) c (steps e)
