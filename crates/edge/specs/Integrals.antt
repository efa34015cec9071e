-- An edge's part of a cell's exact area, and of the cell's three details. Each is a whole number over `steps e`; these are the numerators.
-- Area is the integral in every cell. The details are the integrals where the width is even: a cell that has quarters has its middle on a grid line,
-- and only there and at its sides does the distance to the nearer side bend.
--
-- Definitions
--   along                               twice the integral of f dg along a walk of n steps
--   area_on, h_on, v_on, d_on           area, h, v and d of a walk
--   area_num, h_num, v_num, d_num       of an edge
use Rattle.std.specs.Prelude.{ℕ, ℤ, pos, neg_ℤ}
use Rattle.integers.specs.Trapezoid.{S}
use Rattle.edge.specs.declared.Edge.{Edge}
use Rattle.edge.specs.declared.Cell.{Cell}
use Rattle.edge.specs.declared.Axis.{Axis}
use Rattle.edge.specs.Walk.{steps, x_axis, y_axis, past, near}

-- Σ over t < n of (f(t) + f(t+1)) × (g(t+1) − g(t)). In units of half a square step an integral is doubled, and this is the doubled one.
abbrev pub along : (ℤ → ℤ) → (ℤ → ℤ) → ℕ → ℤ
along f g n = S (λ t. f (pos t)) (λ t. g (pos t)) n

-- ---- of a walk in n steps, with a and b for its directions in x and in y
-- "as y runs along it, take how far x lies past the cell's left side, held between 0 and the cell's width; sum that over the y that lie in the
-- cell's rows, with the sign of the edge's run in y; ... double it". Held y moves with y in the cell's rows and rests outside of them.
abbrev pub area_on : Axis → Axis → Cell → ℕ → ℤ
area_on a b c n = along (past a c.left c.width) (past b c.top c.width) n

-- "h is twice the integral, over dy inside the cell, of the distance from x to the cell's nearer upright side"
abbrev pub h_on : Axis → Axis → Cell → ℕ → ℤ
h_on a b c n = along (near a c.left c.width) (past b c.top c.width) n

-- "v is minus the same with x and y exchanged"
abbrev pub v_on : Axis → Axis → Cell → ℕ → ℤ
v_on a b c n = neg_ℤ (along (near b c.top c.width) (past a c.left c.width) n)

-- "d is as h, with the sign turned in the lower half": the distance from y to the nearer level side moves with y in the upper half and against it in
-- the lower
abbrev pub d_on : Axis → Axis → Cell → ℕ → ℤ
d_on a b c n = along (near a c.left c.width) (near b c.top c.width) n

-- ---- of an edge
unfoldable pub area_num : Edge → Cell → ℤ
area_num e c = area_on (x_axis e) (y_axis e) c (steps e)

unfoldable pub h_num : Edge → Cell → ℤ
h_num e c = h_on (x_axis e) (y_axis e) c (steps e)

unfoldable pub v_num : Edge → Cell → ℤ
v_num e c = v_on (x_axis e) (y_axis e) c (steps e)

unfoldable pub d_num : Edge → Cell → ℤ
d_num e c = d_on (x_axis e) (y_axis e) c (steps e)
