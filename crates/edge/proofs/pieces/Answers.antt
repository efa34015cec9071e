-- The sum of the three pieces between four cuts. It stays below 2^60.
use Rattle.std.proofs.Common.{◌≡◌, ◌<◌, ◌+◌, ◌^◌, ℤ, pos, ◌+ℤ◌, ◌-ℤ◌, ◌*ℤ◌, ◌∙◌, ap₂}
use Rattle.std.specs.Int.Signed.{mag}
use Rattle.integers.specs.Units.{width_times_extent_limit}
use Rattle.integers.specs.Within.{Within}
use Rattle.integers.specs.Bits.{back}
use Rattle.integers.proofs.Theorems.Bits.{back_is, result_is}
use Rattle.integers.specs.Held.{Held}
use Rattle.integers.proofs.Theorems.Held.{held-add, held_fits, held_back}
use Rattle.edge.specs.Code.{piece_sum}
use Rattle.edge.proofs.PieceBounds.{piece_limit, piece_within}
use Rattle.edge.proofs.pieces.Goals as goal

-- one piece, and its bound
abbrev Bounded : ℤ → Type 0
Bounded x = Within (pos width_times_extent_limit) x

is_piece : {f0 f1 g0 g1 r : ℤ} → Bounded f0 → Bounded f1 → Bounded g0 → Bounded g1 → mag r < 2 ^ 63 → r ≡ (back f0 +ℤ back f1) *ℤ (back g1 -ℤ back g0)
    → Held piece_limit (back r) ((f0 +ℤ f1) *ℤ (g1 -ℤ g0))
is_piece a b c d k e = record {
  is = result_is k (e ∙ ap₂ ◌*ℤ◌ (ap₂ ◌+ℤ◌ (back_is tt a) (back_is tt b)) (ap₂ ◌-ℤ◌ (back_is tt d) (back_is tt c)));
  within = piece_within a b c d;
}

-- ---- the three, and their sum
module _ (c : goal.After-piece-third) where
  first : Held piece_limit (back c.piece-first.result) ((c.args.f.first +ℤ c.args.f.second) *ℤ (c.args.g.second -ℤ c.args.g.first))
  first = let p = c.requires in is_piece p.0.first p.0.second p.1.first p.1.second c.piece-first.type_inv c.piece-first.ensures

  second : Held piece_limit (back c.piece-second.result) ((c.args.f.second +ℤ c.args.f.third) *ℤ (c.args.g.third -ℤ c.args.g.second))
  second = let p = c.requires in is_piece p.0.second p.0.third p.1.second p.1.third c.piece-second.type_inv c.piece-second.ensures

  third : Held piece_limit (back c.piece-third.result) ((c.args.f.third +ℤ c.args.f.fourth) *ℤ (c.args.g.fourth -ℤ c.args.g.third))
  third = let p = c.requires in is_piece p.0.third p.0.fourth p.1.third p.1.fourth c.piece-third.type_inv c.piece-third.ensures

  sum : Held (piece_limit + piece_limit + piece_limit) (back (back c.piece-first.result +ℤ back c.piece-second.result) +ℤ back c.piece-third.result) (piece_sum c.args.f c.args.g)
  sum = held-add (held_back tt (held-add first second)) third

pub overflow_add-result : goal.overflow_add-result
overflow_add-result c = held_fits tt (held-add (first c) (second c))

pub overflow_add-result-2 : goal.overflow_add-result-2
overflow_add-result-2 c = held_fits tt (sum c)

pub returns : goal.returns
returns c = (held_back tt (sum c)).is
