-- Demand 1: "Each number comes under its question and under no other condition", for every input, and in both directions. And each question in the
-- papers' words.
--
-- Main results (the laws among them are in proofs/Theorems/Refusals.antt)
--   BuildingRefusals, building_refusals      when building answers each number
--   PlacedRefusals, placed_refusals          the same of building with a placement
--   DrawingRefusals, drawing_refusals        the same of pictures and greys
--   CellRefusals, cell_refusals              and of one cell
--   PyramidRefusals, pyramid_refusals        and of all levels in one buffer
--   refused_edges, refused_table,
--   refused_placed_edges,
--   refused_placed_table,
--   refused_figures, refused_greys,
--   refused_figure, refused_pyramid          what a refusal carries and leaves
--   question1_means .. question10_means,
--   question8_all_means, question12_means    what "yes" says; `no_means` of `integers`' Tests makes of each what "no" says
--   side_of_depth, depth_of_side             a side is 2 to the power of its depth, and each depth has its side
use Rattle.std.specs.Prelude.{◌≡◌, List, [], ◌∷◌, ◌↔◌, ℕ, ℤ}
use Rattle.integers.specs.ListSum.{All}
use Rattle.placement.specs.declared.Placement.{Placement}
use Rattle.placement.specs.Placed.{placed}
use Rattle.tile.specs.Questions.{Yes, No, DecidedBy, question1, question2, question3, question4, question5, question6, question7, question8, question9, question10, question12}
use Rattle.tile.specs.Questions.{question8_all, building_questions, placed_questions, drawing_questions, cell_questions, pyramid_questions}
use Rattle.tile.specs.Outcomes.{build_refusal, placed_refusal, draw_refusal, cell_refusal, pyramid_refusal}
use Rattle.integers.specs.Tests.{OneOf}

-- ---- "Building: 1, 2, 4, 5, 3, 6."
pub record BuildingRefusals (side : ℕ) (points : List ℤ) (counts : List ℕ) (table : List ℤ) : Type 0 where
  pub accepted : (build_refusal side points counts table ≡ 0) ↔ All Yes (building_questions side points counts table)
  pub refused1 : (build_refusal side points counts table ≡ 1) ↔ No (question1 side)
  pub refused2 : (build_refusal side points counts table ≡ 2) ↔ DecidedBy (question1 side ∷ []) (question2 side table)
  pub refused4 : (build_refusal side points counts table ≡ 4) ↔ DecidedBy (question1 side ∷ question2 side table ∷ []) (question4 counts)
  pub refused5 : (build_refusal side points counts table ≡ 5)
      ↔ DecidedBy (question1 side ∷ question2 side table ∷ question4 counts ∷ []) (question5 counts)
  pub refused3 : (build_refusal side points counts table ≡ 3)
      ↔ DecidedBy (question1 side ∷ question2 side table ∷ question4 counts ∷ question5 counts ∷ []) (question3 points counts)
  pub refused6 : (build_refusal side points counts table ≡ 6)
      ↔ DecidedBy (question1 side ∷ question2 side table ∷ question4 counts ∷ question5 counts ∷ question3 points counts ∷ []) (question6 side points)
  pub no_other : OneOf (build_refusal side points counts table) (0 ∷ 1 ∷ 2 ∷ 4 ∷ 5 ∷ 3 ∷ 6 ∷ [])

-- ---- with a placement: 1, 2, 4, 5, 3, 12, 6
pub record PlacedRefusals (side : ℕ) (points : List ℤ) (counts : List ℕ) (placement : Placement) (table : List ℤ) : Type 0 where
  pub accepted : (placed_refusal side points counts placement table ≡ 0) ↔ All Yes (placed_questions side points counts placement table)
  pub refused1 : (placed_refusal side points counts placement table ≡ 1) ↔ No (question1 side)
  pub refused2 : (placed_refusal side points counts placement table ≡ 2) ↔ DecidedBy (question1 side ∷ []) (question2 side table)
  pub refused4 : (placed_refusal side points counts placement table ≡ 4)
      ↔ DecidedBy (question1 side ∷ question2 side table ∷ []) (question4 counts)
  pub refused5 : (placed_refusal side points counts placement table ≡ 5)
      ↔ DecidedBy (question1 side ∷ question2 side table ∷ question4 counts ∷ []) (question5 counts)
  pub refused3 : (placed_refusal side points counts placement table ≡ 3)
      ↔ DecidedBy (question1 side ∷ question2 side table ∷ question4 counts ∷ question5 counts ∷ []) (question3 points counts)
  pub refused12 : (placed_refusal side points counts placement table ≡ 12)
      ↔ DecidedBy (question1 side ∷ question2 side table ∷ question4 counts ∷ question5 counts ∷ question3 points counts ∷ []) (question12 placement points)
  pub refused6 : (placed_refusal side points counts placement table ≡ 6)
      ↔ DecidedBy
      (question1 side ∷ question2 side table ∷ question4 counts ∷ question5 counts ∷ question3 points counts ∷ question12 placement points ∷ [])
      (question6 side (placed placement points))
  pub no_other : OneOf (placed_refusal side points counts placement table) (0 ∷ 1 ∷ 2 ∷ 4 ∷ 5 ∷ 3 ∷ 12 ∷ 6 ∷ [])

-- ---- "Pictures and greys: 1, 2, 7, 8, 9."
pub record DrawingRefusals (side level : ℕ) (table : List ℤ) (size : ℕ) : Type 0 where
  pub accepted : (draw_refusal side level table size ≡ 0) ↔ All Yes (drawing_questions side level table size)
  pub refused1 : (draw_refusal side level table size ≡ 1) ↔ No (question1 side)
  pub refused2 : (draw_refusal side level table size ≡ 2) ↔ DecidedBy (question1 side ∷ []) (question2 side table)
  pub refused7 : (draw_refusal side level table size ≡ 7) ↔ DecidedBy (question1 side ∷ question2 side table ∷ []) (question7 side level)
  pub refused8 : (draw_refusal side level table size ≡ 8)
      ↔ DecidedBy (question1 side ∷ question2 side table ∷ question7 side level ∷ []) (question8 level size)
  pub refused9 : (draw_refusal side level table size ≡ 9)
      ↔ DecidedBy (question1 side ∷ question2 side table ∷ question7 side level ∷ question8 level size ∷ []) (question9 table)
  pub no_other : OneOf (draw_refusal side level table size) (0 ∷ 1 ∷ 2 ∷ 7 ∷ 8 ∷ 9 ∷ [])

-- ---- "One cell: 1, 2, 7, 10, 9."
pub record CellRefusals (side level cx cy : ℕ) (table : List ℤ) : Type 0 where
  pub accepted : (cell_refusal side level cx cy table ≡ 0) ↔ All Yes (cell_questions side level cx cy table)
  pub refused1 : (cell_refusal side level cx cy table ≡ 1) ↔ No (question1 side)
  pub refused2 : (cell_refusal side level cx cy table ≡ 2) ↔ DecidedBy (question1 side ∷ []) (question2 side table)
  pub refused7 : (cell_refusal side level cx cy table ≡ 7) ↔ DecidedBy (question1 side ∷ question2 side table ∷ []) (question7 side level)
  pub refused10 : (cell_refusal side level cx cy table ≡ 10)
      ↔ DecidedBy (question1 side ∷ question2 side table ∷ question7 side level ∷ []) (question10 level cx cy)
  pub refused9 : (cell_refusal side level cx cy table ≡ 9)
      ↔ DecidedBy (question1 side ∷ question2 side table ∷ question7 side level ∷ question10 level cx cy ∷ []) (question9 table)
  pub no_other : OneOf (cell_refusal side level cx cy table) (0 ∷ 1 ∷ 2 ∷ 7 ∷ 10 ∷ 9 ∷ [])

-- ---- all levels in one buffer: 1, 2, 8, 9
pub record PyramidRefusals (side : ℕ) (table : List ℤ) (size : ℕ) : Type 0 where
  pub accepted : (pyramid_refusal side table size ≡ 0) ↔ All Yes (pyramid_questions side table size)
  pub refused1 : (pyramid_refusal side table size ≡ 1) ↔ No (question1 side)
  pub refused2 : (pyramid_refusal side table size ≡ 2) ↔ DecidedBy (question1 side ∷ []) (question2 side table)
  pub refused8 : (pyramid_refusal side table size ≡ 8) ↔ DecidedBy (question1 side ∷ question2 side table ∷ []) (question8_all side size)
  pub refused9 : (pyramid_refusal side table size ≡ 9)
      ↔ DecidedBy (question1 side ∷ question2 side table ∷ question8_all side size ∷ []) (question9 table)
  pub no_other : OneOf (pyramid_refusal side table size) (0 ∷ 1 ∷ 2 ∷ 8 ∷ 9 ∷ [])
