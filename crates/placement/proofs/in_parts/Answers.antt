-- One product.
use Rattle.std.proofs.Common.{refl, rules}
use Rattle.std.specs.Float.Ieee.{of_bits}
use Rattle.placement.proofs.Laws.InParts.{scaled}
use Rattle.placement.proofs.in_parts.Goals as goal

pub returns : goal.returns
unfolding of_bits
returns c = record {
  value = refl;
  in_parts = scaled c.args.x (search rules) c.requires;
}
