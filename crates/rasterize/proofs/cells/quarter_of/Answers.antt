-- A quarter of a cell: its numbers are small, and its sides are the cell's, half a width on or as they are.
use Rattle.std.proofs.Common.{◌≡◌, refl, sym, ◌∙◌, ap, ap₂, [], ◌∷◌, ℕ, suc, ◌+◌, ◌*◌, ◌/◌, ◌%◌, ◌^◌, ◌<◌, ℤ, pos, ◌+ℤ◌, ◌*ℤ◌, ◌≤ℤ◌, w64, to_z, arith}
use Rattle.std.proofs.lemmas.Int.{to_z_pos}
use Rattle.std.specs.Int.Signed.{mag}
use Rattle.integers.proofs.Theorems.Linear.{le, eq, ◌&◌, linear, lin≤}
use Rattle.integers.proofs.Theorems.Order.{nonneg, pos-≤ℤ}
use Rattle.integers.specs.Within.{Within}
use Rattle.integers.proofs.Theorems.Within.{within_is, within_le, within_self}
use Rattle.integers.specs.Bits.{back}
use Rattle.integers.proofs.Theorems.Bits.{back_is, result_is}
use Rattle.integers.specs.Held.{Held}
use Rattle.integers.proofs.Theorems.Held.{held_number, held-add, held-mul, held_fits, held_back}
use Rattle.edge.specs.declared.Cell.{Cell as Square}
use Rattle.edge.specs.Room.{coordinate_limit}
use Rattle.rasterize.specs.declared.Node.{Node}
use Rattle.rasterize.specs.Nodes.{half_width}
use Rattle.rasterize.specs.Ready.{Splits}
use Rattle.rasterize.proofs.Laws.Nodes.{half_width_is}
use Rattle.rasterize.proofs.cells.quarter_of.Goals as goal

square-eq : {a a' b b' w w' : ℤ} → a ≡ a' → b ≡ b' → w ≡ w'
    → ◌≡◌ {A = Square} (record { left = a; top = b; width = w }) (record { left = a'; top = b'; width = w' })
square-eq {a} {a'} {b} {b'} {w} {w'} p q r =
    ap₂ (λ x y. record { left = x; top = y; width = w }) p q ∙ ap (λ z. record { left = a'; top = b'; width = z }) r

-- the half, and where the quarter's sides lie
module _ {n : Node} {h : ℤ} (p : Splits n) (fits : mag h < 2 ^ 63) (two : back n.square.width ≡ h +ℤ h) (h≥0 : pos 0 ≤ℤ h) where
  abbrev square : Square
  square = n.square

  half : Held coordinate_limit (back h) (half_width square)
  half =
      let width≥0 : pos 0 ≤ℤ square.width = lin≤ (square.width ∷ p.even.half ∷ []) (le p.even.half≥0 & eq p.even.twice) (search linear depth 40) tt in
      let twice : square.width ≡ h +ℤ h = sym (back_is tt (within_le p.wide (within_self width≥0))) ∙ two in
      let below : h ≤ℤ pos coordinate_limit = lin≤ (square.width ∷ h ∷ []) (eq twice & le h≥0 & le p.wide) (search linear depth 40) tt in
      let i : h ≡ half_width square = half_width_is square h twice h≥0 in
      record { is = result_is fits i; within = within_is refl i (within_le below (within_self h≥0)) }

  -- one direction: b is 0 in the first half and 1 in the second
  moved : {b : ℕ} {side : ℤ} → b < 2 → Within (pos coordinate_limit) side
      → Held (coordinate_limit + 1 * coordinate_limit) (back side +ℤ back (to_z w64 b *ℤ back h)) (side +ℤ pos b *ℤ half_width square)
  moved {b} k i =
      held-add (held_number tt i)
      (held_back tt (held-mul {a = 1} (record { is = to_z_pos w64 b (omega arith); within = within_le (pos-≤ℤ (omega arith)) (within_self (nonneg b)) }) half))

pub overflow_add-result-4 : goal.overflow_add-result-4
overflow_add-result-4 c =
    let p = c.requires.0 in
    let f = c.half_of-half in
    held_fits tt (moved p f.type_inv f.ensures.0 f.ensures.1 (omega arith) p.left)

pub overflow_add-result-5 : goal.overflow_add-result-5
overflow_add-result-5 c =
    let p = c.requires.0 in
    let f = c.half_of-half in
    held_fits tt (moved p f.type_inv f.ensures.0 f.ensures.1 (omega (arith, c.requires.1)) p.top)

pub returns : goal.returns
returns c =
    let a = c.args in
    let p = c.requires.0 in
    let f = c.half_of-half in
    let below : a.c.level + 1 ≡ suc a.c.level = omega arith in
    ap₂ (λ l q. record { level = l; x = 2 * a.c.x + a.q % 2; y = 2 * a.c.y + a.q / 2; square = q }) below
    (square-eq (held_back tt (moved p f.type_inv f.ensures.0 f.ensures.1 (omega arith) p.left)).is
    (held_back tt (moved p f.type_inv f.ensures.0 f.ensures.1 (omega (arith, c.requires.1)) p.top)).is
    (half p f.type_inv f.ensures.0 f.ensures.1).is)
