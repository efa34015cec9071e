-- The exact details of a cell, before anything is rounded: sums over the edges, over the same denominator as its exact area.
--
-- Definitions
--   numbered w k                            h, v or d of w, by its number
--   unrounded e square                      the numerators of one edge's exact h, v and d
--   detail_num square k e                   the same by its number
--   exact_detail_num depth es j cell k      the numerator of exact detail k of a cell: the detail is this over `denominator es`
--   QuarterDifferences q w                  the details w are 01's differences of the areas q of a cell's quarters
use Rattle.std.specs.Prelude.{◌≡◌, List, ℕ, zero, suc, ℤ, pos, ◌+ℤ◌, ◌-ℤ◌}
use Rattle.integers.specs.Fraction.{numer}
use Rattle.edge.specs.declared.Edge.{Edge}
use Rattle.edge.specs.declared.Cell.{Cell as Square}
use Rattle.edge.specs.declared.Details.{Details}
use Rattle.edge.specs.Walk.{steps}
use Rattle.edge.specs.Integrals.{h_num, v_num, d_num}
use Rattle.haar.specs.Cells.{Cell}
use Rattle.haar.specs.Plane.{dimensions, h_detail, v_detail, d_detail}
use Rattle.accuracy.specs.Tile.{square}

-- 1, 2 and 3 are `h_detail`, `v_detail` and `d_detail`; there are no others
unfoldable pub numbered : Details → ℕ → ℤ
numbered w zero = pos 0
numbered w (suc zero) = w.h
numbered w (suc (suc zero)) = w.v
numbered w (suc (suc (suc zero))) = w.d
numbered w (suc (suc (suc (suc k)))) = pos 0

abbrev pub unrounded : Edge → Square → Details
unrounded e s = record { h = h_num e s; v = v_num e s; d = d_num e s }

abbrev pub detail_num : Square → ℕ → Edge → ℤ
detail_num s k e = numbered (unrounded e s) k

abbrev pub exact_detail_num : ℕ → List Edge → ℕ → Cell dimensions → ℕ → ℤ
exact_detail_num depth es j cell k = numer steps (detail_num (square depth j cell) k) es

-- Quarter (a, b): a is 0 on the left and 1 on the right, b is 0 above and 1 below.
pub record QuarterDifferences (q : ℕ → ℕ → ℤ) (w : ℕ → ℤ) : Type 0 where
  -- "h: area in the left half less area in the right half"
  pub h : w h_detail ≡ (q 0 0 +ℤ q 0 1) -ℤ (q 1 0 +ℤ q 1 1)
  -- "v: upper half less lower half"
  pub v : w v_detail ≡ (q 0 0 +ℤ q 1 0) -ℤ (q 0 1 +ℤ q 1 1)
  -- "d: upper left and lower right quarters, less the other two"
  pub d : w d_detail ≡ (q 0 0 +ℤ q 1 1) -ℤ (q 1 0 +ℤ q 0 1)
