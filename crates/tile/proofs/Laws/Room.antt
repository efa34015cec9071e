-- Room in a table: for the most edges twice, so that a contour that was added can be taken out again, beside what the recursion asks for.
--
-- Main results
--   room                         by the numbers
--   in_range-fits                a table in question 9's range has it
use Rattle.std.proofs.Common.{◌∙◌, arith, mul-le-mul_right}
use Rattle.std.specs.Prelude.{List, ℕ, ◌+◌, ◌*◌, ◌≤◌, ℤ}
use Rattle.integers.specs.Units.{greatest_depth, most_edges, entry_limit, detail_limit}
use Rattle.rasterize.specs.Ready.{sum_limit, visits, Fits}
use Rattle.tile.specs.Questions.{Yes, depth_of, question1, question2, question9}
use Rattle.tile.proofs.Theorems.Refusals.{question2_means}
use Rattle.tile.proofs.Laws.Answers.{entries-in-range}
use Rattle.tile.proofs.Laws.Sides.{side_depth, side_cells}

pub room : (n : ℕ) → n ≤ most_edges + most_edges → entry_limit + (n + visits greatest_depth) * detail_limit ≤ sum_limit
unfolding visits
room n h =
    let few : n + visits greatest_depth ≤ most_edges + most_edges + visits greatest_depth = omega arith in omega (arith, mul-le-mul_right detail_limit few)

pub in_range-fits : (side n : ℕ) (table : List ℤ) → Yes (question1 side) → Yes (question2 side table) → Yes (question9 table) → n ≤ most_edges + most_edges
    → Fits table (depth_of side) n
in_range-fits side n table yes1 yes2 yes9 few = record {
  shallow = side_depth side yes1;
  exact = (question2_means side table).0 yes2 ∙ side_cells side yes1;
  spare = record { bound = entry_limit; room = room n few; each = (entries-in-range table yes9).each };
}
