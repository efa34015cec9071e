-- A walk's numbers alone, as the laws take them.
--
-- Definitions
--   course                    of a walk
use Rattle.edge.specs.declared.Walk.{Walk}
use Rattle.edge.specs.WalkOf.{Course}

abbrev pub course : Walk → Course
course w = record { edge = w.edge; x = w.x; y = w.y; steps = w.steps; divisor = w.divisor }
