-- The sum under a tent, as it is defined.
use Rattle.std.proofs.Common.{◌≡◌, refl, ◌∙◌, ap, ap₂, [], ◌∷◌, ℕ, ◌+◌, ◌*◌, ℤ, pos, ◌-ℤ◌, ◌*ℤ◌}
use Rattle.integers.proofs.Theorems.Order.{nonneg}
use Rattle.integers.proofs.Theorems.Ring.{read, ring}
use Rattle.integers.specs.Units.{width_times_extent_limit}
use Rattle.integers.proofs.Theorems.Magnitude.{abs-nonneg}
use Rattle.integers.proofs.Theorems.Within.{within_is, within_le, within_self, within_sub, within_mul, abs_of_within}
use Rattle.integers.specs.Bits.{back}
use Rattle.integers.proofs.Theorems.Bits.{back_is}
use Rattle.integers.specs.Held.{Held}
use Rattle.integers.proofs.Theorems.Held.{held_number, held_sub, held-mul, held_fits, held_back, held_within}
use Rattle.slanted.specs.Under.{signed_square, under, Arch}
use Rattle.slanted.proofs.Tent.under.Goals as goal

abbrev limit : ℕ
limit = width_times_extent_limit

-- what `signed_square` answers
square-held : {x y z : ℤ} → x ≡ signed_square y → Held limit y z → Held (limit * limit) x (signed_square z)
square-held {z = z} e h = record {
  is = e ∙ ap signed_square h.is;
  within = within_mul h.within (within_le (abs_of_within h.within) (within_self (abs-nonneg z)));
}

module _ {p m u v : ℤ} (r : Arch p m u v) where
  start : Held limit (back u -ℤ back m) (u -ℤ m)
  start = record { is = ap₂ ◌-ℤ◌ (back_is tt r.from) (back_is tt r.middle); within = within_le r.peak.high r.start }

  end : Held limit (back v -ℤ back m) (v -ℤ m)
  end = record { is = ap₂ ◌-ℤ◌ (back_is tt r.to) (back_is tt r.middle); within = within_le r.peak.high r.end }

  -- both ends lie under the tent
  run : Held (limit + limit) (back v -ℤ back u) (v -ℤ u)
  run = record {
    is = ap₂ ◌-ℤ◌ (back_is tt r.to) (back_is tt r.from);
    within = within_is refl (ring (v ∷ u ∷ m ∷ []) (search read depth 40) tt) (within_sub end.within start.within);
  }

  twice : Held (2 * limit) (pos 2 *ℤ back p) (pos 2 *ℤ p)
  twice = held-mul {a = 2} (record { is = refl; within = within_self (nonneg 2) }) (held_number tt r.peak)

  whole : Held (2 * limit * (limit + limit)) (back (pos 2 *ℤ back p) *ℤ back (back v -ℤ back u)) (pos 2 *ℤ p *ℤ (v -ℤ u))
  whole = held-mul (held_back tt twice) (held_back tt run)

  -- given what `signed_square` answers at both ends
  module _ {x y : ℤ} (i : x ≡ signed_square (back (back v -ℤ back m))) (j : y ≡ signed_square (back (back u -ℤ back m))) where
    squares : Held (limit * limit + limit * limit) (back x -ℤ back y) (signed_square (v -ℤ m) -ℤ signed_square (u -ℤ m))
    squares = held_sub (held_back tt (square-held i (held_back tt end))) (held_back tt (square-held j (held_back tt start)))

    sum : Held (2 * limit * (limit + limit) + (limit * limit + limit * limit))
        (back (back (pos 2 *ℤ back p) *ℤ back (back v -ℤ back u)) -ℤ back (back x -ℤ back y))
        (pos 2 *ℤ p *ℤ (v -ℤ u) -ℤ (signed_square (v -ℤ m) -ℤ signed_square (u -ℤ m)))
    sum = held_sub (held_back tt whole) (held_back tt squares)

pub overflow_mul-result-2 : goal.overflow_mul-result-2
overflow_mul-result-2 c = held_fits tt (whole c.args.self.arch)

pub overflow_sub-self-2 : goal.overflow_sub-self-2
overflow_sub-self-2 c = held_fits tt (start c.args.self.arch)

pub signed_square-requires-2 : goal.signed_square-requires-2
signed_square-requires-2 c = held_within (held_back tt (start c.args.self.arch))

pub overflow_sub-result-2 : goal.overflow_sub-result-2
overflow_sub-result-2 c = held_fits tt (squares c.args.self.arch c.signed_square.ensures c.signed_square-2.ensures)

pub overflow_sub-result-3 : goal.overflow_sub-result-3
overflow_sub-result-3 c = held_fits tt (sum c.args.self.arch c.signed_square.ensures c.signed_square-2.ensures)

pub returns : goal.returns
unfolding under
returns c = (held_back tt (sum c.args.self.arch c.signed_square.ensures c.signed_square-2.ensures)).is
