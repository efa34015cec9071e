-- Two children of a cell that lie side by side: what the contracts of the functions that work them out cite.
--
-- Definitions
--   Refinable entries level x cy f              a cell, two of whose children are wanted, and its figure
--   scale_limit, parent_limit, PairBounds       how large the numbers are that these are worked out from
--   pair_of, IsPair                             the two, by those numbers and by their figures
use Rattle.std.specs.Prelude.{◌≡◌, List, ℕ, suc, ◌+◌, ◌*◌, ◌-◌, ◌/◌, ◌^◌, ◌<◌, ℤ, pos, ◌+ℤ◌, ◌-ℤ◌, ◌*ℤ◌}
use Rattle.integers.specs.Units.{greatest_depth, entry_limit}
use Rattle.integers.specs.Within.{Within}
use Rattle.haar.specs.Cells.{children}
use Rattle.haar.specs.Plane.{dimensions, figure_in}
use Rattle.haar.specs.declared.Pair.{Pair}

-- cell (x, cy / 2), two of whose children are in row cy of the next level, and its figure
pub record Refinable (entries : List ℤ) (level x cy : ℕ) (f : ℤ) : Type 0 where
  pub x_below : x < 2 ^ level
  pub y_below : cy < 2 ^ suc level
  pub is_figure : f ≡ figure_in entries level x (cy / 2)

-- the greatest scale of a cell that has children: 4^5
abbrev pub scale_limit : ℕ
scale_limit = children dimensions ^ (greatest_depth - 1)

-- and so the greatest figure of one, of a table in range
abbrev pub parent_limit : ℕ
parent_limit = scale_limit * entry_limit

-- a cell's figure, its level's scale, the same with v's sign, and its details
pub record PairBounds (f scale turned h v d : ℤ) : Type 0 where
  pub figure_within : Within (pos parent_limit) f
  pub scale_within : Within (pos scale_limit) scale
  pub turned_within : Within (pos scale_limit) turned
  pub h_within : Within (pos entry_limit) h
  pub v_within : Within (pos entry_limit) v
  pub d_within : Within (pos entry_limit) d

abbrev pub pair_of : ℤ → ℤ → ℤ → ℤ → ℤ → ℤ → Pair
pair_of f scale turned h v d = record {
  left = f +ℤ turned *ℤ v +ℤ (scale *ℤ h +ℤ turned *ℤ d);
  right = f +ℤ turned *ℤ v -ℤ (scale *ℤ h +ℤ turned *ℤ d);
}

-- the figures of the two children of cell (x, cy / 2) in row cy
pub record IsPair (entries : List ℤ) (level x cy : ℕ) (p : Pair) : Type 0 where
  pub left_is : p.left ≡ figure_in entries (suc level) (2 * x) cy
  pub right_is : p.right ≡ figure_in entries (suc level) (2 * x + 1) cy
