-- The products and their sum: none passes 2^32.
use Rattle.std.proofs.Common.{refl, ℕ, ◌+◌, ◌*◌, ℤ, pos, ◌+ℤ◌, ◌-ℤ◌, ◌*ℤ◌}
use Rattle.integers.specs.Units.{greatest_sheet_coordinate, most_chords}
use Rattle.integers.proofs.Theorems.Order.{nonneg}
use Rattle.integers.proofs.Theorems.Within.{within_le, within_self}
use Rattle.integers.specs.Within.{Within}
use Rattle.integers.specs.Bits.{back}
use Rattle.integers.specs.Held.{Held}
use Rattle.integers.proofs.Theorems.Held.{held_number, held-add, held_sub, held-mul, held_fits, held_back}
use Rattle.curve.specs.Curve.{OnSheet}
use Rattle.curve.proofs.Projection.num.Goals as goal

two : Held 2 (pos 2) (pos 2)
two = record { is = refl; within = within_self (nonneg 2) }

on : {z : ℤ} → OnSheet z → Within (pos greatest_sheet_coordinate) z
on h = within_le h.1 (within_self h.0)

-- of coordinates within w, and a parameter i / n with both within m
abbrev w : ℕ
w = greatest_sheet_coordinate

abbrev m : ℕ
m = most_chords

module _ {p q r n i : ℤ} (o : OnSheet p × OnSheet q × OnSheet r) (h : Within (pos m) n × Within (pos m) i) where
  abbrev J : ℤ
  J = back (back n -ℤ back i)

  i-held : Held m (back i) i
  i-held = held_number tt h.1

  j : Held (m + m) J (n -ℤ i)
  j = held_back tt (held_sub (held_number tt h.0) i-held)

  first : Held ((m + m) * (m + m) * w) (back (J *ℤ J) *ℤ back p) ((n -ℤ i) *ℤ (n -ℤ i) *ℤ p)
  first = held-mul (held_back tt (held-mul j j)) (held_number tt (on o.0))

  twice : Held (2 * m * (m + m)) (back (pos 2 *ℤ back i) *ℤ J) (pos 2 *ℤ i *ℤ (n -ℤ i))
  twice = held-mul (held_back tt (held-mul two i-held)) j

  middle : Held (2 * m * (m + m) * w) (back (back (pos 2 *ℤ back i) *ℤ J) *ℤ back q) (pos 2 *ℤ i *ℤ (n -ℤ i) *ℤ q)
  middle = held-mul (held_back tt twice) (held_number tt (on o.1))

  last : Held (m * m * w) (back (back i *ℤ back i) *ℤ back r) (i *ℤ i *ℤ r)
  last = held-mul (held_back tt (held-mul i-held i-held)) (held_number tt (on o.2))

  two-sum : Held ((m + m) * (m + m) * w + 2 * m * (m + m) * w) (back (back (J *ℤ J) *ℤ back p) +ℤ back (back (back (pos 2 *ℤ back i) *ℤ J) *ℤ back q))
      ((n -ℤ i) *ℤ (n -ℤ i) *ℤ p +ℤ pos 2 *ℤ i *ℤ (n -ℤ i) *ℤ q)
  two-sum = held-add (held_back tt first) (held_back tt middle)

pub overflow_mul-first-2 : goal.overflow_mul-first-2
overflow_mul-first-2 c = held_fits tt (first c.args.self.on_sheet c.requires)

pub overflow_mul-middle-2 : goal.overflow_mul-middle-2
overflow_mul-middle-2 c = held_fits tt (twice c.args.self.on_sheet c.requires)

pub overflow_mul-middle-3 : goal.overflow_mul-middle-3
overflow_mul-middle-3 c = held_fits tt (middle c.args.self.on_sheet c.requires)

pub overflow_add-result : goal.overflow_add-result
overflow_add-result c = held_fits tt (two-sum c.args.self.on_sheet c.requires)

pub overflow_add-result-2 : goal.overflow_add-result-2
overflow_add-result-2 c =
    let o = c.args.self.on_sheet in
    held_fits tt (held-add (held_back tt (two-sum o c.requires)) (held_back tt (last o c.requires)))

pub returns : goal.returns
returns c =
    let o = c.args.self.on_sheet in
    (held_back tt (held-add (held_back tt (two-sum o c.requires)) (held_back tt (last o c.requires)))).is
