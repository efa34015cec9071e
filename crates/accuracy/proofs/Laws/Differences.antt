-- The exact details are 01's differences of areas. The quarter law gives each quarter's area from the details; its four equations together give the
-- details from the quarters' areas.
--
-- Main results
--   differences_of_quarters      four numbers that obey the quarter law
--   outline_differences          the exact areas of a cell's quarters
use Rattle.std.specs.Prelude.{◌≡◌, List, [], ◌∷◌, ℕ, suc, ◌+◌, ◌*◌, ◌/◌, ◌%◌, ◌<◌, ℤ, pos, ◌+ℤ◌, ◌*ℤ◌}
use Rattle.std.proofs.Common.{◌∙◌, ap₂, arith}
use Rattle.integers.proofs.Theorems.Linear.{eq, ◌&◌, linear, lin≡}
use Rattle.edge.specs.declared.Edge.{Edge}
use Rattle.haar.specs.Plane.{h_detail, v_detail, d_detail, quarter_details, at}
use Rattle.accuracy.specs.Outline.{ClosedEdges}
use Rattle.accuracy.specs.ExactArea.{exact_area_num}
use Rattle.accuracy.specs.ExactDetails.{exact_detail_num, QuarterDifferences}
use Rattle.accuracy.proofs.Laws.OutlineQuarter.{outline_quarter}

pub differences_of_quarters : (area : ℤ) (q : ℕ → ℕ → ℤ) (w : ℕ → ℤ)
    → ((a b : ℕ) → a < 2 → b < 2 → pos 4 *ℤ q a b ≡ area +ℤ quarter_details w a b) → QuarterDifferences q w
differences_of_quarters area q w law =
    let atoms = area ∷ q 0 0 ∷ q 1 0 ∷ q 0 1 ∷ q 1 1 ∷ w h_detail ∷ w v_detail ∷ w d_detail ∷ [] in
    let upper_left = law 0 0 (omega arith) (omega arith) in
    let upper_right = law 1 0 (omega arith) (omega arith) in
    let lower_left = law 0 1 (omega arith) (omega arith) in
    let lower_right = law 1 1 (omega arith) (omega arith) in
    let four = eq upper_left & eq upper_right & eq lower_left & eq lower_right in
    record {
      h = lin≡ atoms four (search linear depth 40) (tt, tt);
      v = lin≡ atoms four (search linear depth 40) (tt, tt);
      d = lin≡ atoms four (search linear depth 40) (tt, tt);
    }

-- ---- the cells of a tile: cell 2 c + a of the next level, in one direction, lies in cell c, as its half a
half_of_child : (c a : ℕ) → a < 2 → (2 * c + a) / 2 ≡ c
half_of_child c a h = omega arith

rest_of_child : (c a : ℕ) → a < 2 → (2 * c + a) % 2 ≡ a
rest_of_child c a h = omega arith

pub outline_differences : {es : List Edge} → ClosedEdges es → (depth j cx cy : ℕ) → j < depth
    → QuarterDifferences (λ a b. exact_area_num depth es (suc j) (at (2 * cx + a) (2 * cy + b))) (exact_detail_num depth es j (at cx cy))
outline_differences {es} closed depth j cx cy h =
    differences_of_quarters (exact_area_num depth es j (at cx cy)) (λ a b. exact_area_num depth es (suc j) (at (2 * cx + a) (2 * cy + b)))
    (exact_detail_num depth es j (at cx cy)) law
  where
    right : ℕ → ℕ → ℕ → ℕ → ℤ
    right x y a b = exact_area_num depth es j (at x y) +ℤ quarter_details (exact_detail_num depth es j (at x y)) a b

    law : (a b : ℕ) → a < 2 → b < 2 → pos 4 *ℤ exact_area_num depth es (suc j) (at (2 * cx + a) (2 * cy + b)) ≡ right cx cy a b
    law a b i k =
        outline_quarter closed depth j (2 * cx + a) (2 * cy + b) h
        ∙ ap₂ (λ x y. right x y ((2 * cx + a) % 2) ((2 * cy + b) % 2)) (half_of_child cx a i) (half_of_child cy b k)
        ∙ ap₂ (right cx cy) (rest_of_child cx a i) (rest_of_child cy b k)
