-- Both points less the side twice, or the other side twice less both.
use mathlib.Core.Path.{◌≡◌, sym, ◌∙◌, ap}
use mathlib.Core.List.{[], ◌∷◌}
use Prim.Native.Nat.{ℕ, ◌+◌, ◌*◌, ◌<◌}
use native.Mathlib.Omega.{arith}
use lib.IntN.{pos, ◌+ℤ◌, ◌-ℤ◌, ◌*ℤ◌}
use mir.Syntax.{w64}
use mir.Val.{to_z}
use mir.Facts.{to_z_pos}
use Rattle.integers.specs.Units.{greatest_side, greatest_coordinate}
use Rattle.integers.proofs.Theorems.Order.{pos-≤ℤ, nonneg}
use Rattle.integers.proofs.Theorems.Ring.{read, ring}
use Rattle.integers.proofs.Theorems.Within.{within_le, within_self}
use Rattle.integers.specs.Bits.{back}
use Rattle.integers.specs.Held.{Held}
use Rattle.integers.proofs.Theorems.Held.{held_number, held-add, held_sub, held-mul, held_fits, held_back}
use Rattle.contours.specs.Runs.{from_half}
use Rattle.contours.proofs.from_side.Statement.{statement}
use Rattle.contours.proofs.from_side.Tie as tie

module _ (s : tie.Start) where
  few : s.args.n < greatest_side
  few = s.requires.2

  both : Held (greatest_coordinate + greatest_coordinate) (back s.args.p +ℤ back s.args.q) (s.args.p +ℤ s.args.q)
  both = held-add (held_number tt s.requires.0) (held_number tt s.requires.1)

  -- k is twice the number of the side
  module _ (k : ℕ) (h : k < 2 * greatest_side + 2) where
    number : Held (2 * greatest_side + 2) (to_z w64 k) (pos k)
    number = record { is = to_z_pos w64 (omega arith); within = within_le (pos-≤ℤ (omega arith)) (within_self (nonneg k)) }

    side : Held ((2 * greatest_side + 2) * greatest_coordinate) (to_z w64 k *ℤ back s.args.w) (pos k *ℤ s.args.w)
    side = held-mul number (held_number tt s.requires.3)

    past : Held (greatest_coordinate + greatest_coordinate + (2 * greatest_side + 2) * greatest_coordinate)
        (back (back s.args.p +ℤ back s.args.q) -ℤ back (to_z w64 k *ℤ back s.args.w)) ((s.args.p +ℤ s.args.q) -ℤ pos k *ℤ s.args.w)
    past = held_sub (held_back tt both) (held_back tt side)

    short : Held ((2 * greatest_side + 2) * greatest_coordinate + (greatest_coordinate + greatest_coordinate))
        (back (to_z w64 k *ℤ back s.args.w) -ℤ back (back s.args.p +ℤ back s.args.q)) (pos k *ℤ s.args.w -ℤ (s.args.p +ℤ s.args.q))
    short = held_sub (held_back tt side) (held_back tt both)

  twice : 2 * s.args.n < 2 * greatest_side + 2
  twice = omega (arith, few)

  next : 2 * s.args.n + 2 < 2 * greatest_side + 2
  next = omega (arith, few)

returns : tie.Need-returns-then-half-eq0
returns c =
    let s = c.before in
    let a = s.args in
    let first : a.half ≡ 0 = omega (arith, c.if-half-eq0.true) in
    (held_back tt (past s (2 * a.n) (twice s))).is ∙ ring (a.p ∷ a.q ∷ pos a.n ∷ a.w ∷ []) (search read depth 40) tt
    ∙ ap (λ b. from_half b (pos a.n *ℤ a.w) a.w a.p a.q) {x = 0} (sym first)

returns-2 : tie.Need-returns-else-half-eq0
returns-2 c =
    let s = c.before in
    let a = s.args in
    let second : a.half ≡ 1 = omega (arith, c.if-half-eq0.false, s.requires.4) in
    (held_back tt (short s (2 * a.n + 2) (next s))).is ∙ ring (a.p ∷ a.q ∷ pos a.n ∷ a.w ∷ []) (search read depth 40) tt
    ∙ ap (λ b. from_half b (pos a.n *ℤ a.w) a.w a.p a.q) {x = 1} (sym second)

pub from_side_spec : {M : Type 1} → statement M
from_side_spec =
    tie.close
    (tie.spec
    (λ c. held_fits tt (both c.before))
    (λ c. record { fits = omega (arith, few c.before) })
    (λ c. record { sfits = omega (arith, few c.before) })
    (λ c. held_fits tt (side c.before (2 * c.before.args.n) (twice c.before)))
    (λ c. held_fits tt (past c.before (2 * c.before.args.n) (twice c.before)))
    (λ c. record { fits = omega (arith, few c.before) })
    (λ c. record { fits = omega (arith, few c.before) })
    (λ c. record { sfits = omega (arith, few c.before) })
    (λ c. held_fits tt (side c.before (2 * c.before.args.n + 2) (next c.before)))
    (λ c. held_fits tt (both c.before))
    (λ c. held_fits tt (short c.before (2 * c.before.args.n + 2) (next c.before)))
    returns
    returns-2)
