-- "The exact area of a cell is said without wavelets": the sum over the edges of each edge's part of it.
--
-- An edge's part is the fraction `area_num e square / steps e`, which `edge` defines in 01's words: "as y runs along it, take how far x lies past the
-- cell's left side, held between 0 and the cell's width; sum that over the y that lie in the cell's rows, with the sign of the edge's run in y; ...
-- double it". It is a sum over the steps of a walk, and `area_finer` of `edge` has that more and shorter steps give the same, so that it is the integral.
-- `steps e` is |dx| × |dy|, a difference of 0 counted as 1. The fractions are added over one denominator, the product of theirs.
--
-- Definitions
--   denominator es                          the denominator, the same for every cell
--   exact_area_num depth es level cell      the numerator: the exact area is this over `denominator es`
use Rattle.std.specs.Prelude.{List, ℕ, ℤ}
use Rattle.integers.specs.Fraction.{common, numer}
use Rattle.edge.specs.declared.Edge.{Edge}
use Rattle.edge.specs.Walk.{steps}
use Rattle.edge.specs.Integrals.{area_num}
use Rattle.haar.specs.Cells.{Cell}
use Rattle.haar.specs.Plane.{dimensions}
use Rattle.accuracy.specs.Tile.{square}

abbrev pub denominator : List Edge → ℕ
denominator es = common steps es

abbrev pub exact_area_num : ℕ → List Edge → ℕ → Cell dimensions → ℤ
exact_area_num depth es level cell = numer steps (λ e. area_num e (square depth level cell)) es
