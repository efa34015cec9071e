-- Both sides of the range, of which the first is n widths on, less both points.
use Rattle.std.proofs.Common.{◌∙◌, [], ◌∷◌, ℕ, ◌+◌, ◌*◌, ◌<◌, ℤ, pos, ◌+ℤ◌, ◌-ℤ◌, ◌*ℤ◌, w64, to_z, arith}
use Rattle.std.proofs.lemmas.Int.{to_z_pos}
use Rattle.integers.specs.Units.{greatest_side}
use Rattle.integers.proofs.Theorems.Order.{pos-≤ℤ, nonneg}
use Rattle.integers.proofs.Theorems.Ring.{read, ring}
use Rattle.integers.specs.Within.{Within}
use Rattle.integers.proofs.Theorems.Within.{within_le, within_self}
use Rattle.integers.specs.Bits.{back}
use Rattle.integers.specs.Held.{Held}
use Rattle.integers.proofs.Theorems.Held.{held_number, held-add, held_sub, held-mul, held_fits, held_back}
use Rattle.edge.specs.Room.{coordinate_limit}
use Rattle.rasterize.proofs.stages.before_middle.Goals as goal

short : {n : ℕ} {w p q : ℤ} → n < greatest_side → Within (pos coordinate_limit) w → Within (pos coordinate_limit) p → Within (pos coordinate_limit) q
    → Held (2 * greatest_side * coordinate_limit + (coordinate_limit + coordinate_limit))
    (back (to_z w64 (2 * n + 1) *ℤ back w) -ℤ back (back p +ℤ back q)) (pos (2 * n + 1) *ℤ w -ℤ (p +ℤ q))
short {n} few h i j =
    held_sub (held_back tt (held-mul odd (held_number tt h))) (held_back tt (held-add (held_number tt i) (held_number tt j)))
  where
    odd : Held (2 * greatest_side) (to_z w64 (2 * n + 1)) (pos (2 * n + 1))
    odd = record { is = to_z_pos w64 _ (omega (arith, few)); within = within_le (pos-≤ℤ (omega (arith, few))) (within_self (nonneg (2 * n + 1))) }

pub overflow_sub-result : goal.overflow_sub-result
overflow_sub-result c = let r = c.requires in held_fits tt (short r.0 r.1 r.2 r.3)

pub returns : goal.returns
returns c =
    let r = c.requires in
    (held_back tt (short r.0 r.1 r.2 r.3)).is ∙ ring (pos c.args.n ∷ c.args.w ∷ c.args.p ∷ c.args.q ∷ []) (search read depth 40) tt
