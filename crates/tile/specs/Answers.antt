-- What a call answers: a value where the work is done, and else the refusal. 01's numbers begin at 1, so that 0 says that nothing is refused
-- (`done_exactly` of proofs/Theorems/Numbers); and no two refusals have one number (`one_number_each`, there too).
--
-- Definitions
--   number_of r                  the number of the question that is answered no
--   answer_number                an answer's number: 0 where the work is done, and else the refusal's
--   Built, built_of              what building answers: the number, and the edge count, which is 0 beside a refusal
--   CellFigure, figure_of        what is answered of one cell: the number, and the figure, which is 0 beside a refusal
use Rattle.std.specs.Prelude.{ℕ, ℤ, pos, Result, Ok, Err}
use Rattle.tile.specs.declared.refusal.Refusal.{Refusal}
use Rattle.tile.specs.declared.refusal.Refusal.TheVariants.{Side, Table, Points, Count, Sum, Coordinate, Level, Picture, Range, Cell, Frame, Placement, Record, Sheet, Place, Marks}

abbrev pub number_of : Refusal → ℕ
number_of Side = 1
number_of Table = 2
number_of Points = 3
number_of Count = 4
number_of Sum = 5
number_of Coordinate = 6
number_of Level = 7
number_of Picture = 8
number_of Range = 9
number_of Cell = 10
number_of Frame = 11
number_of Placement = 12
number_of Record = 13
number_of Sheet = 14
number_of Place = 15
number_of Marks = 16

abbrev pub answer_number : {A : Type 0} → Result A Refusal → ℕ
answer_number (Ok a) = 0
answer_number (Err r) = number_of r

-- "A refusal carries its number and the edge count or figure 0"
pub record Built : Type 0 where
  pub number : ℕ
  pub edges : ℕ

abbrev pub built_of : Result ℕ Refusal → Built
built_of (Ok n) = record { number = 0; edges = n }
built_of (Err r) = record { number = number_of r; edges = 0 }

pub record CellFigure : Type 0 where
  pub number : ℕ
  pub figure : ℤ

abbrev pub figure_of : Result ℤ Refusal → CellFigure
figure_of (Ok z) = record { number = 0; figure = z }
figure_of (Err r) = record { number = number_of r; figure = pos 0 }
