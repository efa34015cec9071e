-- The six numbers of a walk in a cell.
use Rattle.std.proofs.Common.{◌≡◌, ◌∙◌, ap, ap₂, ℤ, pos, ◌+ℤ◌, ◌*ℤ◌, ◌≤ℤ◌, w64, SFits, to_z-of_z, rules}
use Rattle.integers.specs.Units.{width_times_extent_limit}
use Rattle.integers.specs.Within.{Within}
use Rattle.integers.proofs.Theorems.Within.{within_le, within_self}
use Rattle.integers.specs.Bits.{back}
use Rattle.integers.proofs.Theorems.Bits.{back_is, result_is}
use Rattle.integers.specs.Held.{Held}
use Rattle.integers.proofs.Theorems.Held.{held_fits, held_back}
use Rattle.edge.specs.declared.Axis.{Axis}
use Rattle.edge.specs.declared.Span.{Span}
use Rattle.edge.specs.Room.{extent_limit}
use Rattle.edge.specs.Code.{AxisRoom}
use Rattle.edge.proofs.Lemmas.CrossedCells.{lies_between, middle_across}
use Rattle.edge.proofs.Laws.WalkKnown.{is_walk}
use Rattle.slanted.proofs.Laws.Walks.{walk-room}
use Rattle.slanted.proofs.Laws.PieceSound.{half_within}
use Rattle.slanted.proofs.Laws.PieceParts.{piece_eq}
use Rattle.slanted.proofs.piece_of.Goals as goal

-- ---- one direction, where `half` is half of the width
module _ {a : Axis} {side w half : ℤ} (r : AxisRoom a side w) (even : w ≡ half +ℤ half) (half≥0 : pos 0 ≤ℤ half) (f : SFits w64 half) where
  scale_within : Within (pos extent_limit) a.scale
  scale_within = within_le r.scale (within_self r.scaled)

  -- half of the width in its steps
  half-held : Held width_times_extent_limit (back a.scale *ℤ back half) (a.scale *ℤ half)
  half-held = record { is = ap₂ ◌*ℤ◌ (back_is tt scale_within) (to_z-of_z f); within = half_within half even half≥0 r }

pub overflow_mul-result : goal.overflow_mul-result
overflow_mul-result c = let r = c.requires in held_fits tt (half-held (walk-room (is_walk c.args.w) r.0).x r.1 r.2 c.ranges.half)

pub overflow_mul-result-2 : goal.overflow_mul-result-2
overflow_mul-result-2 c = let r = c.requires in held_fits tt (half-held (walk-room (is_walk c.args.w) r.0).y r.1 r.2 c.ranges.half)

pub middle-requires : goal.middle-requires
middle-requires c = let r = c.requires in lies_between (to_z-of_z c.ranges.half) c.across.ensures.2 r.1 r.2

pub middle-requires-2 : goal.middle-requires-2
middle-requires-2 c = let r = c.requires in lies_between (to_z-of_z c.ranges.half) c.down.ensures.2 r.1 r.2

pub returns : goal.returns
returns c =
    let r = c.requires in
    let k = walk-room (is_walk c.args.w) r.0 in
    let half = to_z-of_z c.ranges.half in
    let first : back c.args.s.first ≡ c.args.s.first = search rules in
    let last : back c.args.s.last ≡ c.args.s.last = search rules in
    piece_eq
    (first ∙ ap (λ (z : Span). z.first) r.3)
    (last ∙ ap (λ (z : Span). z.last) r.3)
    (result_is c.middle.type_inv (c.middle.ensures ∙ middle_across c.across.ensures half))
    (result_is c.middle-2.type_inv (c.middle-2.ensures ∙ middle_across c.down.ensures half))
    (held_back tt (half-held k.x r.1 r.2 c.ranges.half)).is
    (held_back tt (half-held k.y r.1 r.2 c.ranges.half)).is
