-- Laws of what specs/Units.antt defines. The head of that file lists the main results.
use Rattle.std.specs.Prelude.{◌≡◌, refl, ◌*◌, ◌^◌}
use Rattle.integers.specs.Units.{built_entry_limit, figure_limit, greatest_coordinate, greatest_sheet_coordinate, greatest_side, greatest_tile_side, most_splits, numerator_limit, placed_limit, steps_per_pixel, units_per_pixel, width_times_extent_limit}

pixel_is : units_per_pixel ≡ 131072
pixel_is = refl

side_is : greatest_side ≡ 64
side_is = refl

coordinate_is : greatest_coordinate ≡ 16384
coordinate_is = refl

width_times_extent_is : width_times_extent_limit ≡ 2 ^ 28
width_times_extent_is = refl

tile_side_is : greatest_tile_side ≡ 32
tile_side_is = refl

-- The sheet is twice as wide as 01's greatest tile, and its tiles half as wide: so an edge's extent times a cell's width is no larger there.
sheet_times_tile_is : greatest_sheet_coordinate * (steps_per_pixel * greatest_tile_side) ≡ width_times_extent_limit
sheet_times_tile_is = refl

numerator_is : numerator_limit ≡ 2 ^ 57
numerator_is = refl

built_entry_is : built_entry_limit ≡ 2 ^ 38
built_entry_is = refl

figure_limit_is : figure_limit ≡ 2 ^ 52
figure_limit_is = refl

placed_limit_is : placed_limit ≡ 147456
placed_limit_is = refl

most_splits_is : 2 * greatest_sheet_coordinate ≡ 4 * 4 ^ most_splits
most_splits_is = refl
