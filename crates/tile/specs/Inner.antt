-- What inner functions answer.
--
-- Definitions
--   capped_edges counts                     the counts' sum, or one more than the most edges where it is greater. Question 5 asks only whether it passes the
--                                           most, so `edges_of` adds up no further, and no sum overflows.
--   level_questions side level table        the questions that every call asks first that draws one level, which `level_refusal` answers
use Rattle.std.specs.Prelude.{cond, List, [], ◌∷◌, ℕ, suc, leb, ℤ}
use Rattle.integers.specs.Units.{most_edges}
use Rattle.accuracy.specs.Outline.{edge_count}
use Rattle.tile.specs.Questions.{Question, question1, question2, question7}

abbrev pub capped_edges : List ℕ → ℕ
capped_edges counts = cond (leb (edge_count counts) most_edges) (edge_count counts) (suc most_edges)

abbrev pub level_questions : ℕ → ℕ → List ℤ → List Question
level_questions side level table = question1 side ∷ question2 side table ∷ question7 side level ∷ []
