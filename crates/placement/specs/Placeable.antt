-- Question 12 in words: when a placement may be used on the points. And what single placements do, by computing.
--
-- Definitions
--   Movable z                    z is from −32,768 to 32,767
--   UsableRow a b c              a and b may be factors, and c an offset
--   Placeable p points           question 12, by the kind of placement
-- Main results (the laws among them are in proofs/Theorems/Placeable.antt)
--   placeable_means              it is answered yes exactly then
use Rattle.std.specs.Prelude.{◌-◌, List, ℤ, pos, neg_ℤ, ◌≤ℤ◌, Float}
use Rattle.integers.specs.Units.{factor_limit, offset_limit, movable_limit}
use Rattle.integers.specs.ListSum.{All}
use Rattle.placement.specs.Parts.{Multiple}
use Rattle.placement.specs.declared.Placement.{Placement}
use Rattle.placement.specs.declared.Placement.TheVariants.{None, Shift, Scale, Turn}

abbrev pub Movable : ℤ → Type 0
Movable z = (neg_ℤ (pos movable_limit) ≤ℤ z) × (z ≤ℤ pos (movable_limit - 1))

abbrev pub UsableRow : Float → Float → Float → Type 0
UsableRow a b c = Multiple factor_limit a × (Multiple factor_limit b × Multiple offset_limit c)

-- with no placement nothing is moved, and nothing is asked
abbrev pub Placeable : Placement → List ℤ → Type 0
Placeable None points = Unit {0}
Placeable (Shift u v) points = (Multiple offset_limit u × Multiple offset_limit v) × All Movable points
Placeable (Scale s) points = Multiple factor_limit s × All Movable points
Placeable (Turn m) points = (UsableRow m.a m.b m.c × UsableRow m.d m.e m.f) × All Movable points
