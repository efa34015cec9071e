-- All points of the contour are left.
use Rattle.chords.proofs.NextSide.{last_all}
use Rattle.chords.proofs.sides.Sides.of.Goals as goal

pub invariant_of-result : goal.invariant_of-result
invariant_of-result c = record { begun = last_all _ }
