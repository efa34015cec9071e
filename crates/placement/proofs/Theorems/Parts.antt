-- Laws of what specs/Parts.antt defines. The head of that file lists the main results.
use Rattle.std.specs.Prelude.{◌≡◌, ◌^◌, refl}
use Rattle.integers.specs.Units.{parts_per_step}
use Rattle.placement.specs.Parts.{part_bits}

parts_are : 2 ^ part_bits ≡ parts_per_step
parts_are = refl
