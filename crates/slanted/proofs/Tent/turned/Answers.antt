-- The sign is turned nowhere, everywhere, or from step y on.
use Rattle.std.proofs.Common.{◌≡◌, refl, sym, ◌∙◌, ◌+◌, ◌*◌, ℤ, pos, ◌-ℤ◌, ◌*ℤ◌, ◌≤ℤ◌, w64, SFits, to_z-of_z}
use Rattle.integers.proofs.Theorems.Order.{nonneg}
use Rattle.integers.proofs.Theorems.Machine.{tests}
use Rattle.integers.proofs.Theorems.Within.{within_self}
use Rattle.integers.specs.Bits.{back}
use Rattle.integers.proofs.Theorems.Bits.{fits_within}
use Rattle.integers.specs.Held.{Held}
use Rattle.integers.proofs.Theorems.Held.{held-neg, held_sub, held-mul, held_fits, held_back}
use Rattle.slanted.specs.Under.{under, under_limit, Arch}
use Rattle.slanted.proofs.Laws.Sums.{arch_before, turned_before, turned_after, turned-across}
use Rattle.slanted.proofs.SumBits.{arch_back, under_back, sum_within}
use Rattle.slanted.proofs.Tent.turned.Goals as goal

-- the whole sum, which is passed
h-held : {p m u v h : ℤ} → Arch p m u v → h ≡ under p m u v → SFits w64 h → Held under_limit (back h) (under p m u v)
h-held r e f = record { is = to_z-of_z f ∙ e; within = sum_within r }

pub overflow_sub-result : goal.overflow_sub-result
overflow_sub-result c = held_fits tt (held-neg (h-held c.args.self.arch c.requires c.ranges.h))

pub returns-then-self-y : goal.returns-then-self-y
returns-then-self-y c =
    let f = (fits_within tt c.args.self.arch.to) in
    let g = c.ranges.y in
    let k : c.args.self.last ≤ℤ c.args.y = search tests in
    (h-held c.args.self.arch c.requires c.ranges.h).is ∙ sym (turned_before c.args.self.half c.args.self.middle c.args.self.arch.order k)

pub returns-then-y-self : goal.returns-then-y-self
returns-then-y-self c =
    let f = (fits_within tt c.args.self.arch.from) in
    let g = c.ranges.y in
    let k : c.args.y ≤ℤ c.args.self.first = search tests in
    (held_back tt (held-neg (h-held c.args.self.arch c.requires c.ranges.h))).is ∙ sym (turned_after c.args.self.half c.args.self.middle c.args.self.last k)

-- ---- where y lies between
pub invariant_of-before : goal.invariant_of-before
invariant_of-before c =
    let f = (fits_within tt c.args.self.arch.from) in
    let g = (fits_within tt c.args.self.arch.to) in
    let h = c.ranges.y in
    let low : c.args.self.first ≤ℤ c.args.y = search tests in
    let high : c.args.y ≤ℤ c.args.self.last = search tests in
    record { arch = arch_back (fits_within tt c.args.self.arch.peak) (fits_within tt c.args.self.arch.middle) f h (arch_before c.args.self.arch low high) }

module _ (c : goal.After-under) where
  low : c.args.self.first ≤ℤ c.args.y
  low = let f = (fits_within tt c.args.self.arch.from) in let g = c.ranges.y in let k : c.args.self.first ≤ℤ c.args.y = search tests in k

  high : c.args.y ≤ℤ c.args.self.last
  high = let f = (fits_within tt c.args.self.arch.to) in let g = c.ranges.y in let k : c.args.y ≤ℤ c.args.self.last = search tests in k

  part : Held under_limit c.under.result (under c.args.self.half c.args.self.middle c.args.self.first c.args.y)
  part = record {
    is = c.under.ensures ∙ under_back (fits_within tt c.args.self.arch.peak) (fits_within tt c.args.self.arch.middle) (fits_within tt c.args.self.arch.from) c.ranges.y;
    within = sum_within (arch_before c.args.self.arch low high);
  }

  twice : Held (2 * under_limit) (pos 2 *ℤ back c.under.result) (pos 2 *ℤ under c.args.self.half c.args.self.middle c.args.self.first c.args.y)
  twice = held-mul {a = 2} (record { is = refl; within = within_self (nonneg 2) }) (held_back tt part)

  answer : Held (2 * under_limit + under_limit) (back (pos 2 *ℤ back c.under.result) -ℤ back c.args.h)
      (pos 2 *ℤ under c.args.self.half c.args.self.middle c.args.self.first c.args.y -ℤ under c.args.self.half c.args.self.middle c.args.self.first c.args.self.last)
  answer = held_sub (held_back tt twice) (h-held c.args.self.arch c.requires c.ranges.h)

pub overflow_mul-result : goal.overflow_mul-result
overflow_mul-result c = held_fits tt (twice c)

pub overflow_sub-result-else-y-self : goal.overflow_sub-result-else-y-self
overflow_sub-result-else-y-self c = held_fits tt (answer c)

pub returns-else-y-self : goal.returns-else-y-self
returns-else-y-self c = (held_back tt (answer c)).is ∙ sym (turned-across c.args.self.half c.args.self.middle (low c) (high c))
