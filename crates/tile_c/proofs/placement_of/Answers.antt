-- A list of another length: the literal 4.0 is the float that the definition names.
use Rattle.std.proofs.Common.{rules}
use Rattle.std.specs.Float.Ieee.{of_bits}
use Rattle.tile_c.proofs.placement_of.Goals as goal

pub returns-in_default : goal.returns-in_default
unfolding of_bits
returns-in_default c = search rules

pub returns-in_default-2 : goal.returns-in_default-2
unfolding of_bits
returns-in_default-2 c = search rules
