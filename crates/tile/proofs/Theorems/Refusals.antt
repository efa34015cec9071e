-- Laws of what specs/Refusals.antt defines. The head of that file lists the main results.
use Rattle.std.specs.Prelude.{◌≡◌, refl, List, [], ◌∷◌, ◌↔◌, ◌&&◌, ℕ, zero, suc, ◌*◌, ◌^◌, ◌<◌, ◌≤◌, leb, ltb, length, ℤ, pos, neg_ℤ, ◌≤ℤ◌}
use Rattle.std.proofs.Common.{arith}
use Rattle.std.specs.Int.Count.{count_trailing_zeros}
use Rattle.std.specs.Int.Signed.{le_z}
use Rattle.integers.specs.Units.{steps_per_pixel, greatest_depth, fewest_points, most_points, most_edges, entry_limit}
use Rattle.integers.specs.Within.{Within}
use Rattle.integers.specs.ListSum.{All}
use Rattle.haar.specs.Greys.{grey_of}
use Rattle.haar.specs.Plane.{figure_in, picture_in}
use Rattle.haar.specs.Pyramid.{places, pyramid_in}
use Rattle.placement.specs.declared.Placement.{Placement}
use Rattle.placement.specs.Placed.{placed}
use Rattle.placement.specs.Placeable.{Placeable}
use Rattle.placement.proofs.Theorems.Placeable.{placeable_means}
use Rattle.accuracy.specs.Outline.{edge_count}
use Rattle.tile.specs.Questions.{Yes, depth_of, question1, question2, question3, question4, question5, question6, question7, question8, question9, question10, question12}
use Rattle.tile.specs.Questions.{question8_all, building_questions, placed_questions, drawing_questions, cell_questions, pyramid_questions}
use Rattle.tile.specs.Outcomes.{table_of, build_refusal, build_result, build_table, placed_refusal, placed_result, placed_table, draw_refusal, figures_picture, greys_picture, cell_refusal, cell_result, pyramid_refusal, pyramid_pictures}
use Rattle.tile.proofs.Laws.IfDone.{if_refused}
use Rattle.tile.proofs.Laws.Sides.{side_power, side_depth}
use Rattle.integers.proofs.Theorems.Tests.{eqb_means, leb_means, ltb_means, and_means, every_means, between_means, within_means, one_of_means}
use Rattle.integers.specs.Tests.{OneOf}
use Rattle.tile.proofs.Laws.FirstNo.{each_number, first_no_among}
use Rattle.tile.specs.Refusals.{BuildingRefusals, CellRefusals, DrawingRefusals, PlacedRefusals, PyramidRefusals}

pub building_refusals : (side : ℕ) (points : List ℤ) (counts : List ℕ) (table : List ℤ) → BuildingRefusals side points counts table
building_refusals side points counts table =
    let each = each_number (building_questions side points counts table) tt in
    record {
      refused1 = each.0;
      refused2 = each.1.0;
      refused4 = each.1.1.0;
      refused5 = each.1.1.1.0;
      refused3 = each.1.1.1.1.0;
      refused6 = each.1.1.1.1.1.0;
      accepted = each.1.1.1.1.1.1;
      no_other = first_no_among (building_questions side points counts table);
    }

pub placed_refusals : (side : ℕ) (points : List ℤ) (counts : List ℕ) (placement : Placement) (table : List ℤ)
    → PlacedRefusals side points counts placement table
placed_refusals side points counts placement table =
    let each = each_number (placed_questions side points counts placement table) tt in
    record {
      refused1 = each.0;
      refused2 = each.1.0;
      refused4 = each.1.1.0;
      refused5 = each.1.1.1.0;
      refused3 = each.1.1.1.1.0;
      refused12 = each.1.1.1.1.1.0;
      refused6 = each.1.1.1.1.1.1.0;
      accepted = each.1.1.1.1.1.1.1;
      no_other = first_no_among (placed_questions side points counts placement table);
    }

pub drawing_refusals : (side level : ℕ) (table : List ℤ) (size : ℕ) → DrawingRefusals side level table size
drawing_refusals side level table size =
    let each = each_number (drawing_questions side level table size) tt in
    record {
      refused1 = each.0;
      refused2 = each.1.0;
      refused7 = each.1.1.0;
      refused8 = each.1.1.1.0;
      refused9 = each.1.1.1.1.0;
      accepted = each.1.1.1.1.1;
      no_other = first_no_among (drawing_questions side level table size);
    }

pub cell_refusals : (side level cx cy : ℕ) (table : List ℤ) → CellRefusals side level cx cy table
cell_refusals side level cx cy table =
    let each = each_number (cell_questions side level cx cy table) tt in
    record {
      refused1 = each.0;
      refused2 = each.1.0;
      refused7 = each.1.1.0;
      refused10 = each.1.1.1.0;
      refused9 = each.1.1.1.1.0;
      accepted = each.1.1.1.1.1;
      no_other = first_no_among (cell_questions side level cx cy table);
    }

pub pyramid_refusals : (side : ℕ) (table : List ℤ) (size : ℕ) → PyramidRefusals side table size
pyramid_refusals side table size =
    let each = each_number (pyramid_questions side table size) tt in
    record {
      refused1 = each.0;
      refused2 = each.1.0;
      refused8 = each.1.1.0;
      refused9 = each.1.1.1.0;
      accepted = each.1.1.1.1;
      no_other = first_no_among (pyramid_questions side table size);
    }

-- ---- "A refusal carries its number and the edge count or figure 0; tables and pictures keep what they held."
nonzero : {n : ℕ} → 0 < n → n ≡ 0 → ⊥
nonzero h e = omega arith

pub refused_edges : (side : ℕ) (points : List ℤ) (counts : List ℕ) (table : List ℤ) → 0 < build_refusal side points counts table
    → (build_result side points counts table).edges ≡ 0
refused_edges side points counts table h = if_refused (edge_count counts) 0 (nonzero h)

pub refused_table : (side : ℕ) (points : List ℤ) (counts : List ℕ) (table : List ℤ) → 0 < build_refusal side points counts table
    → build_table side points counts table ≡ table
refused_table side points counts table h = if_refused (table_of side points counts) table (nonzero h)

pub refused_placed_edges : (side : ℕ) (points : List ℤ) (counts : List ℕ) (placement : Placement) (table : List ℤ)
    → 0 < placed_refusal side points counts placement table → (placed_result side points counts placement table).edges ≡ 0
refused_placed_edges side points counts placement table h = if_refused (edge_count counts) 0 (nonzero h)

pub refused_placed_table : (side : ℕ) (points : List ℤ) (counts : List ℕ) (placement : Placement) (table : List ℤ)
    → 0 < placed_refusal side points counts placement table → placed_table side points counts placement table ≡ table
refused_placed_table side points counts placement table h = if_refused (table_of side (placed placement points) counts) table (nonzero h)

pub refused_figures : (side level : ℕ) (table picture : List ℤ) → 0 < draw_refusal side level table (length picture)
    → figures_picture side level table picture ≡ picture
refused_figures side level table picture h = if_refused (picture_in (λ f. f) table level) picture (nonzero h)

pub refused_greys : (side level : ℕ) (table : List ℤ) (picture : List ℕ) → 0 < draw_refusal side level table (length picture)
    → greys_picture side level table picture ≡ picture
refused_greys side level table picture h = if_refused (picture_in (grey_of side) table level) picture (nonzero h)

pub refused_figure : (side level cx cy : ℕ) (table : List ℤ) → 0 < cell_refusal side level cx cy table → (cell_result side level cx cy table).figure ≡ pos 0
refused_figure side level cx cy table h = if_refused (figure_in table level cx cy) (pos 0) (nonzero h)

pub refused_pyramid : (side : ℕ) (table : List ℤ) (pictures : List ℕ) → 0 < pyramid_refusal side table (length pictures)
    → pyramid_pictures side table pictures ≡ pictures
refused_pyramid side table pictures h = if_refused (pyramid_in (grey_of side) table (suc (depth_of side))) pictures (nonzero h)

-- ---- the questions
-- "Is the side 1, 2, 4, 8, 16, 32 or 64?"
pub question1_means : (side : ℕ) → Yes (question1 side) ↔ OneOf side (1 ∷ 2 ∷ 4 ∷ 8 ∷ 16 ∷ 32 ∷ 64 ∷ [])
question1_means side = one_of_means side (1 ∷ 2 ∷ 4 ∷ 8 ∷ 16 ∷ 32 ∷ 64 ∷ [])

-- "The side is a power of two", and "Depth runs from 0 to 6."
pub side_of_depth : (side : ℕ) → Yes (question1 side) → (side ≡ 2 ^ depth_of side) × (depth_of side ≤ greatest_depth)
side_of_depth side y = (side_power side y, side_depth side y)

pub depth_of_side : (depth : ℕ) → depth ≤ greatest_depth → Yes (question1 (2 ^ depth)) × (depth_of (2 ^ depth) ≡ depth)
unfolding count_trailing_zeros
depth_of_side zero h = (refl, refl)
depth_of_side (suc zero) h = (refl, refl)
depth_of_side (suc (suc zero)) h = (refl, refl)
depth_of_side (suc (suc (suc zero))) h = (refl, refl)
depth_of_side (suc (suc (suc (suc zero)))) h = (refl, refl)
depth_of_side (suc (suc (suc (suc (suc zero))))) h = (refl, refl)
depth_of_side (suc (suc (suc (suc (suc (suc zero)))))) h = (refl, refl)
depth_of_side (suc (suc (suc (suc (suc (suc (suc d))))))) h = absurd (omega arith)

-- "Does the table have exactly side × side entries?"
pub question2_means : (side : ℕ) (table : List ℤ) → Yes (question2 side table) ↔ (length table ≡ side * side)
question2_means side table = eqb_means (length table) (side * side)

-- "Are the points exactly twice as many numbers as the counts' sum?"
pub question3_means : (points : List ℤ) (counts : List ℕ) → Yes (question3 points counts) ↔ (length points ≡ 2 * edge_count counts)
question3_means points counts = eqb_means (length points) (2 * edge_count counts)

-- "Is every count from 3 to 1,024?"
pub question4_means : (counts : List ℕ) → Yes (question4 counts) ↔ All (λ n. (fewest_points ≤ n) × (n ≤ most_points)) counts
question4_means counts =
    every_means (λ n. leb fewest_points n && leb n most_points)
    (λ n. and_means (leb fewest_points n) (leb n most_points) (leb_means fewest_points n) (leb_means n most_points)) counts

-- "Is the counts' sum at most 1,024?"
pub question5_means : (counts : List ℕ) → Yes (question5 counts) ↔ (edge_count counts ≤ most_edges)
question5_means counts = leb_means (edge_count counts) most_edges

-- "Is every coordinate from 0 to 256 × side?"
pub question6_means : (side : ℕ) (points : List ℤ) → Yes (question6 side points) ↔ All (λ z. (pos 0 ≤ℤ z) × (z ≤ℤ pos (steps_per_pixel * side))) points
question6_means side points =
    every_means (λ z. le_z (pos 0) z && le_z z (pos (steps_per_pixel * side))) (between_means (pos 0) (pos (steps_per_pixel * side))) points

-- "Is the level at most the depth?"
pub question7_means : (side level : ℕ) → Yes (question7 side level) ↔ (level ≤ depth_of side)
question7_means side level = leb_means level (depth_of side)

-- "Has the picture exactly 4^level places?"
pub question8_means : (level size : ℕ) → Yes (question8 level size) ↔ (size ≡ 4 ^ level)
question8_means level size = eqb_means size (4 ^ level)

-- all levels: exactly 1 + 4 + .. + 4^depth places
pub question8_all_means : (side size : ℕ) → Yes (question8_all side size) ↔ (size ≡ places (suc (depth_of side)))
question8_all_means side size = eqb_means size (places (suc (depth_of side)))

-- "Is every entry of the table from −2^40 to 2^40?"
pub question9_means : (table : List ℤ) → Yes (question9 table) ↔ All (Within (pos entry_limit)) table
question9_means table = every_means (λ z. le_z (neg_ℤ (pos entry_limit)) z && le_z z (pos entry_limit)) (within_means (pos entry_limit)) table

-- "Are both cell numbers below 2^level?"
pub question10_means : (level cx cy : ℕ) → Yes (question10 level cx cy) ↔ ((cx < 2 ^ level) × (cy < 2 ^ level))
question10_means level cx cy = and_means (ltb cx (2 ^ level)) (ltb cy (2 ^ level)) (ltb_means cx (2 ^ level)) (ltb_means cy (2 ^ level))

-- "Every float handed in must be a multiple of 1/65,536; factors (a, b, d, e) lie from −2 to 2, offsets (c, f and a shift's two) from −16,384 to 16,384.
-- Points to be moved lie from −32,768 to 32,767 before it."
pub question12_means : (placement : Placement) (points : List ℤ) → Yes (question12 placement points) ↔ Placeable placement points
question12_means placement points = placeable_means placement points
