-- The steps of a walk inside a cell, and where the cell's two middles cut them. For the area, the steps in its rows, and where its left and right side do.
--
-- Definitions
--   to_side               from a walk's start to a line
--   all_steps, no_steps   all of a walk's steps, and none
--   strip, strip_of       the steps of one direction between two lines, by the sign of its walk
--   meet, span            the steps of both directions at once, and so inside a cell
--   to_middle             the step at which a direction crosses the middle between its sides
--   cuts_at, cuts         the first step, both middles in their order, the last step
--   rows, side_cuts       the steps in a cell's rows; the first of them, both sides in their order, the last
use Rattle.std.specs.Prelude.{cond, zero, suc, ℤ, pos, negsuc, neg_ℤ, ◌+ℤ◌, ◌-ℤ◌, ◌*ℤ◌}
use Rattle.std.specs.Int.Signed.{lt_z}
use Rattle.integers.specs.MinMax.{min, max}
use Rattle.integers.specs.Clamp.{clamp}
use Rattle.edge.specs.declared.Axis.{Axis}
use Rattle.edge.specs.declared.Cell.{Cell}
use Rattle.edge.specs.declared.Span.{Span}
use Rattle.edge.specs.declared.Samples.{Samples}

-- `scale` times over: where the direction moves, the number of steps to the line, or minus that
abbrev pub to_side : Axis → ℤ → ℤ
to_side a side = a.scale *ℤ (side -ℤ a.start)

-- all of n steps, and none of them
abbrev pub all_steps : ℤ → Span
all_steps n = record { first = pos 0; last = n }

abbrev pub no_steps : ℤ → Span
no_steps n = record { first = n; last = pos 0 }

-- The walk has moved by `sign × t` after t steps, and is between the lines `lower` and `upper`, both measured from its start. Where it stands still it
-- is between them for all n steps, or for none.
unfoldable pub strip : ℤ → ℤ → ℤ → ℤ → Span
strip (pos zero) lower upper n = cond (lt_z lower (pos 0)) (cond (lt_z (pos 0) upper) (all_steps n) (no_steps n)) (no_steps n)
strip (pos (suc s)) lower upper n = record { first = lower; last = upper }
strip (negsuc s) lower upper n = record { first = neg_ℤ upper; last = neg_ℤ lower }

abbrev pub strip_of : Axis → ℤ → ℤ → ℤ → Span
strip_of a side w n = strip a.sign (to_side a side) (to_side a side +ℤ a.scale *ℤ w) n

-- the steps from 0 to n in both spans
abbrev pub meet : Span → Span → ℤ → Span
meet r s n = record { first = max (pos 0) (max r.first s.first); last = min n (min r.last s.last) }

abbrev pub span : Axis → Axis → Cell → ℤ → Span
span a b c n = meet (strip_of a c.left c.width n) (strip_of b c.top c.width n) n

-- (0 where it stands still: there any step would do)
abbrev pub to_middle : Axis → ℤ → ℤ → ℤ
to_middle a side half = a.sign *ℤ (to_side a side +ℤ a.scale *ℤ half)

-- from the first step to the last, cut at the steps x and y where these lie between
abbrev pub cuts_at : ℤ → ℤ → ℤ → ℤ → Samples
cuts_at p q x y = record { first = p; second = min (clamp x p q) (clamp y p q); third = max (clamp x p q) (clamp y p q); fourth = q }

abbrev pub cuts : Axis → Axis → Cell → ℤ → ℤ → Samples
cuts a b c half n = cuts_at (span a b c n).first (span a b c n).last (to_middle a c.left half) (to_middle b c.top half)

-- ---- for the area: an edge beyond a cell may be in its rows
abbrev pub rows : Axis → Cell → ℤ → Span
rows b c n = meet (strip_of b c.top c.width n) (strip_of b c.top c.width n) n

-- the left side is the middle for a half width of 0, the right one for the width
abbrev pub side_cuts : Axis → Axis → Cell → ℤ → Samples
side_cuts a b c n = cuts_at (rows b c n).first (rows b c n).last (to_middle a c.left (pos 0)) (to_middle a c.left c.width)
