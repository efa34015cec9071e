-- What the answers mean to `haar`: what is not refused can be drawn.
--
-- Main results
--   entries-in-range, in-range-entries        question 9 is `haar`'s `InRange`
--   level_le, level_shallow, tile_shallow     a level of a tile is no deeper than a tile can be, nor is the tile
--   drawable-picture, drawable-cell,
--   drawable-pyramid                          what is not refused can be drawn
use Rattle.std.specs.Prelude.{◌≡◌, refl, List, ℕ, ◌^◌, ◌≤◌, length, ℤ, pos}
use Rattle.std.proofs.Common.{sym, ◌∙◌, le_trans, le_of_eq, lit<}
use Rattle.std.proofs.Math.Nat.{pow-le-pow_right}
use Rattle.integers.specs.Units.{greatest_depth, entry_limit}
use Rattle.integers.specs.Within.{Within}
use Rattle.integers.proofs.Theorems.Within.{within_zero}
use Rattle.integers.proofs.Theorems.ListSum.{all_get_d, get_d_all}
use Rattle.haar.specs.Cells.{children}
use Rattle.haar.specs.Plane.{dimensions}
use Rattle.haar.specs.Drawable.{InRange, Drawable, DrawablePicture, DrawableCell}
use Rattle.haar.specs.Pyramid.{DrawablePyramid}
use Rattle.tile.specs.Questions.{Yes, depth_of, first_no, question1, question2, question7, question9, table_questions}
use Rattle.tile.specs.Inner.{level_questions}
use Rattle.tile.specs.Outcomes.{draw_refusal, cell_refusal, pyramid_refusal}
use Rattle.tile.proofs.Theorems.Refusals.{drawing_refusals, cell_refusals, pyramid_refusals, question8_all_means, question2_means, question7_means, question8_means, question9_means, question10_means}
use Rattle.tile.proofs.Laws.FirstNo.{first_no-zero}
use Rattle.tile.proofs.Laws.Sides.{side_depth, side_cells}

-- ---- entries
pub entries-in-range : (table : List ℤ) → Yes (question9 table) → InRange table
entries-in-range table y = record {
  each = all_get_d (Within (pos entry_limit)) (pos 0) (within_zero entry_limit) table ((question9_means table).0 y);
}

pub in-range-entries : (table : List ℤ) → InRange table → Yes (question9 table)
in-range-entries table r = (question9_means table).1 (get_d_all (Within (pos entry_limit)) (pos 0) table (λ i h. r.each i))

-- ---- what is not refused can be drawn
module _ (side level : ℕ) (yes1 : Yes (question1 side)) (yes7 : Yes (question7 side level)) where
  shallow : level ≤ depth_of side
  shallow = (question7_means side level).0 yes7

  pub level_le : level ≤ greatest_depth
  level_le = le_trans shallow (side_depth side yes1)

  drawable : (table : List ℤ) → Yes (question2 side table) → Yes (question9 table) → Drawable table level
  drawable table yes2 yes9 =
      let cells : length table ≡ children dimensions ^ depth_of side = (question2_means side table).0 yes2 ∙ side_cells side yes1 in
      record {
        shallow = level_le;
        long = le_trans (pow-le-pow_right (lit< tt) shallow) (le_of_eq (sym cells));
        in_range_lem = entries-in-range table yes9;
      }

-- by what the questions about the level, or about the tile alone, answered
pub level_shallow : (side level : ℕ) (table : List ℤ) → 0 ≡ first_no (level_questions side level table) → level ≤ greatest_depth
level_shallow side level table e =
    let y = (first_no-zero (level_questions side level table) tt).0 (sym e) in
    level_le side level y.0 y.1.1.0

pub tile_shallow : (side : ℕ) (table : List ℤ) → 0 ≡ first_no (table_questions side table) → depth_of side ≤ greatest_depth
tile_shallow side table e = side_depth side ((first_no-zero (table_questions side table) tt).0 (sym e)).0

pub drawable-picture : (side level : ℕ) (table : List ℤ) (size : ℕ) → draw_refusal side level table size ≡ 0 → DrawablePicture table level size
drawable-picture side level table size e =
    let y = (drawing_refusals side level table size).accepted.0 e in
    record {
      drawable = drawable side level y.0 y.1.1.0 table y.1.0 y.1.1.1.1.0;
      exact = (question8_means level size).0 y.1.1.1.0;
    }

pub drawable-cell : (side level cx cy : ℕ) (table : List ℤ) → cell_refusal side level cx cy table ≡ 0 → DrawableCell table level cx cy
drawable-cell side level cx cy table e =
    let y = (cell_refusals side level cx cy table).accepted.0 e in
    let b = (question10_means level cx cy).0 y.1.1.1.0 in
    record { drawable = drawable side level y.0 y.1.1.0 table y.1.0 y.1.1.1.1.0; x_below = b.0; y_below = b.1 }

pub drawable-pyramid : (side : ℕ) (table : List ℤ) (size : ℕ) → pyramid_refusal side table size ≡ 0 → DrawablePyramid table (depth_of side) size
drawable-pyramid side table size e =
    let y = (pyramid_refusals side table size).accepted.0 e in
    record {
      drawable = drawable side (depth_of side) y.0 ((question7_means side (depth_of side)).1 (le_of_eq refl)) table y.1.0 y.1.1.1.0;
      exact = (question8_all_means side size).0 y.1.1.0;
    }
