-- Building with a placement is building the outline as placed: "the drawn outline is the one that demand 3 measures".
--
-- So all that is said of what building leaves, entry by entry (`TableEntries`), is said of it, and demand 3 by the same records (`Faithful`).
--
-- Main results
--   placed_number                where the placement is accepted the questions are building's, of the points as placed
--   placed_none_in               they are those about the tile and about the outline, where no edge is in already
--   placed_as_built              so the answer and the table are those of building the outline as placed
--   placed_none_as_built         with no placement they are building's, for every input
--   placed-faithful              and what is left is drawn as `FaithfulPlaced` says
use Rattle.std.specs.Prelude.{◌≡◌, refl, Bool, List, [], ◌∷◌, ◌++◌, ℕ, ◌+◌, ◌*◌, eqb, leb, length, ℤ}
use Rattle.std.proofs.Common.{sym, ◌∙◌, ap, ap₂, arith}
use Rattle.integers.specs.Units.{most_edges}
use Rattle.placement.specs.declared.Placement.{Placement}
use Rattle.placement.specs.declared.Placement.TheVariants.{None}
use Rattle.placement.specs.Placed.{placed}
use Rattle.placement.proofs.Laws.PlacedPoints.{placed_none, placed-length}
use Rattle.accuracy.specs.Outline.{edge_count}
use Rattle.tile.specs.Answers.{Built}
use Rattle.tile.specs.Questions.{Yes, first_no, question1, question2, question3, question4, question5, question6, question12, table_questions, outline_questions}
use Rattle.tile.specs.Outcomes.{if_done, table_of, build_refusal, build_result, build_table, placed_refusal, placed_result, placed_table}
use Rattle.tile.specs.Faithful.{FaithfulPlaced}
use Rattle.tile.proofs.Theorems.Theorem.{outline_faithful}
use Rattle.tile.proofs.Laws.Accepted.{placed-accepted}

abbrev answer : ℕ → List ℕ → Built
answer number counts = record { number = number; edges = if_done number (edge_count counts) 0 }

module _ (side : ℕ) (points : List ℤ) (counts : List ℕ) (table : List ℤ) where
  -- as many coordinates as before, so question 3 is the same; and question 12 passes
  pub placed_number : (placement : Placement) → Yes (question12 placement points)
      → placed_refusal side points counts placement table ≡ build_refusal side (placed placement points) counts table
  placed_number placement asked =
      let same : eqb (length points) (2 * edge_count counts) ≡ eqb (length (placed placement points)) (2 * edge_count counts) =
      ap (λ n. eqb n (2 * edge_count counts)) (sym (placed-length placement points)) in
      let number : Bool → Bool → ℕ = λ enough movable.
      first_no
      (question1 side ∷ question2 side table ∷ question4 counts ∷ question5 counts ∷ record { number = 3; answer = enough }
      ∷ record { number = 12; answer = movable } ∷ question6 side (placed placement points) ∷ []) in
      ap₂ number same asked

  pub placed_none_in : (placement : Placement) → first_no (table_questions side table ++ outline_questions side points counts placement 0) ≡ placed_refusal side points counts placement table
  placed_none_in placement =
      let same : 0 + edge_count counts ≡ edge_count counts = omega arith in
      let number : ℕ → ℕ = λ edges.
      first_no
      (question1 side ∷ question2 side table ∷ question4 counts ∷ record { number = 5; answer = leb edges most_edges } ∷ question3 points counts
      ∷ question12 placement points ∷ question6 side (placed placement points) ∷ []) in
      ap number same

  pub placed_as_built : (placement : Placement) → Yes (question12 placement points)
      → (placed_result side points counts placement table ≡ build_result side (placed placement points) counts table)
      × (placed_table side points counts placement table ≡ build_table side (placed placement points) counts table)
  placed_as_built placement asked =
      let n = placed_number placement asked in
      (ap (λ m. answer m counts) n, ap (λ m. if_done m (table_of side (placed placement points) counts) table) n)

  pub placed_none_as_built : (placed_result side points counts None table ≡ build_result side points counts table)
      × (placed_table side points counts None table ≡ build_table side points counts table)
  placed_none_as_built =
      let same = placed_as_built None refl in
      let still = placed_none points in
      (same.0 ∙ ap (λ l. build_result side l counts table) still, same.1 ∙ ap (λ l. build_table side l counts table) still)

pub placed-faithful : (side : ℕ) (points : List ℤ) (counts : List ℕ) (placement : Placement) (before : List ℤ)
    → FaithfulPlaced side points counts placement before (placed_table side points counts placement before)
placed-faithful side points counts placement before =
    outline_faithful side (placed placement points) counts (placed_refusal side points counts placement before) before
    (placed-accepted side points counts placement before)
