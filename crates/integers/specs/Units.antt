-- The numbers that 01 and 02 fix, each with its reason, and what is worked out from them. This is their only home: a definition, a bound or a contract
-- names them from here, so that a request which moves one moves one definition and the checks in proofs/Theorems/Units.antt.
--
-- Definitions
--   steps_per_pixel; units_per_half_square_step, units_per_pixel          length and area
--   greatest_depth, greatest_side, greatest_coordinate                    the tile
--   greatest_sheet_side, greatest_sheet_coordinate,
--   greatest_tile_depth, greatest_tile_side                               the sheet, and a tile of it
--   fewest_points, most_points, most_edges                                the outline
--   width_times_extent_limit, detail_limit, numerator_limit               an edge's arithmetic
--   entry_limit, built_entry_limit, figure_limit, full_grey, text_limit   the table, what is drawn of it, the program
--   parts_per_step, factor_limit, offset_limit, movable_limit,
--   placed_limit                                                          placements
--   most_splits, most_chords                                              curves
use Rattle.std.specs.Prelude.{ℕ, ◌+◌, ◌*◌, ◌^◌}

-- ---- length: "A step is 1/256 pixel." Coordinates are whole steps.
abbrev pub steps_per_pixel : ℕ
steps_per_pixel = 256

-- ---- area: "The unit is half a square step", since a polygon with whole corners has a whole number of half square steps.
-- How many units there are to half a square step: 1, so that the unit is 01's. The pixel and the numerators' limit are worked out from it.
abbrev pub units_per_half_square_step : ℕ
units_per_half_square_step = 1

-- "so a full pixel is 131,072 units"
abbrev pub units_per_pixel : ℕ
units_per_pixel = units_per_half_square_step * (2 * (steps_per_pixel * steps_per_pixel))

-- ---- the tile: "a square of side 1 to 64 pixels", a power of two; "Depth runs from 0 to 6."
abbrev pub greatest_depth : ℕ
greatest_depth = 6

abbrev pub greatest_side : ℕ
greatest_side = 2 ^ greatest_depth

-- "A point has whole x and y from 0 to 256 × side": the greatest that a tile has
abbrev pub greatest_coordinate : ℕ
greatest_coordinate = steps_per_pixel * greatest_side

-- ---- the outline: "Is every count from 3 to 1,024?" Fewer than three points enclose nothing, and no contour has more points than an outline has edges.
abbrev pub fewest_points : ℕ
fewest_points = 3

abbrev pub most_points : ℕ
most_points = 1024

-- "Is the counts' sum at most 1,024?" The misses of so many edges stay below one grey.
abbrev pub most_edges : ℕ
most_edges = 1024

-- ---- an edge's arithmetic: a cell's width times an edge's extent in x or in y, which on a tile is at most the square of the greatest coordinate
abbrev pub width_times_extent_limit : ℕ
width_times_extent_limit = greatest_coordinate * greatest_coordinate

-- ---- the sheet (02, P5): "a sheet of side up to 128 pixels, a power of two", and on it "one tile of side up to 32"
abbrev pub greatest_sheet_side : ℕ
greatest_sheet_side = 128

abbrev pub greatest_sheet_coordinate : ℕ
greatest_sheet_coordinate = steps_per_pixel * greatest_sheet_side

abbrev pub greatest_tile_depth : ℕ
greatest_tile_depth = 5

abbrev pub greatest_tile_side : ℕ
greatest_tile_side = 2 ^ greatest_tile_depth

-- ---- what comes of it
-- what an edge adds to an entry at most, in units: its extent times a cell's width
abbrev pub detail_limit : ℕ
detail_limit = units_per_half_square_step * width_times_extent_limit

-- "no numerator passes 2^57": twice the width's square times both extents
abbrev pub numerator_limit : ℕ
numerator_limit = units_per_half_square_step * (2 * (width_times_extent_limit * width_times_extent_limit))

-- ---- the table: "Is every entry of the table from −2^40 to 2^40?" A built table stays within 2^38, and figures of a table in this range within 2^52.
abbrev pub entry_limit : ℕ
entry_limit = 2 ^ 40

-- what the most edges add to an entry
abbrev pub built_entry_limit : ℕ
built_entry_limit = most_edges * detail_limit

-- A figure is at most as many times an entry as its level has cells.
abbrev pub figure_limit : ℕ
figure_limit = greatest_side * greatest_side * entry_limit

-- ---- greys: "held between 0 and 255", white and full ink, so that one fits a byte
abbrev pub full_grey : ℕ
full_grey = 255

-- ---- the program: "Is the text at most 16,384 bytes" long? That is about twice the text of the largest accepted outline, so that one with somewhat too
-- many points is answered by the questions about counts and not by this one.
abbrev pub text_limit : ℕ
text_limit = 16384

-- ---- placements (02, P1): "Every float handed in must be a multiple of 1/65,536". A part is that much. Products of a factor and a coordinate, and
-- their sums, are then whole numbers of parts, small enough for a 64-bit float to hold them exactly.
abbrev pub parts_per_step : ℕ
parts_per_step = 65536

-- "factors (a, b, d, e) lie from −2 to 2": no coordinate counts more than twice
abbrev pub factor_limit : ℕ
factor_limit = 2

-- "offsets (c, f and a shift's two) from −16,384 to 16,384": the width of the largest tile, either way
abbrev pub offset_limit : ℕ
offset_limit = 16384

-- "Points to be moved lie from −32,768 to 32,767 before it": from −movable_limit to movable_limit − 1, the whole numbers of 16 bits
abbrev pub movable_limit : ℕ
movable_limit = 32768

-- A placed coordinate is at most so far from 0: two products and an offset.
abbrev pub placed_limit : ℕ
placed_limit = 2 * (factor_limit * movable_limit) + offset_limit

-- ---- curves (02, P6): "k is the least from 0 to 7". A curve on the greatest sheet bends by at most twice the sheet's width, which is 4 × 4^7 steps, and 2^7 chords
-- follow that to one step.
abbrev pub most_splits : ℕ
most_splits = 7

abbrev pub most_chords : ℕ
most_chords = 2 ^ most_splits
