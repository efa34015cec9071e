-- So few edges are accepted that their misses come to less than one grey.
use Rattle.std.specs.Prelude.{◌*◌, ◌≤◌}
use Rattle.std.proofs.Common.{arith}
use Rattle.integers.specs.Units.{units_per_pixel, most_edges, full_grey}

-- The one comparison of constants: 255 × 1,024 = 261,120 is at most 2 × 131,072 = 262,144. An edge makes a figure miss by less than 4^level / 2, and
-- a grey is a 255th of 131,072 × 4^depth, so the misses of `most_edges` edges come to less than one grey.
pub most_edges_within_grey : full_grey * most_edges ≤ 2 * units_per_pixel
most_edges_within_grey = omega arith
