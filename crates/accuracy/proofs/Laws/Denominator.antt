-- The denominator of the exact areas is above 0, so that an equation or a bound of the numerators is one of the areas.
--
-- Main results
--   denominator-pos              of any edges
use Rattle.std.specs.Prelude.{List, ◌<◌}
use Rattle.integers.proofs.Theorems.ListSum.{all_of}
use Rattle.integers.proofs.Theorems.Fraction.{common-pos}
use Rattle.edge.specs.declared.Edge.{Edge}
use Rattle.edge.specs.Walk.{steps}
use Rattle.edge.proofs.Laws.StepCount.{steps_pos}
use Rattle.accuracy.specs.ExactArea.{denominator}

pub denominator-pos : (es : List Edge) → 0 < denominator es
denominator-pos es = common-pos steps es (all_of steps_pos es)
