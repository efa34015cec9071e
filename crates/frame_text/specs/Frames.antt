-- A frame: a side, a level and an outline, and its text. The whole text is one frame, in several lines:
--
-- "in lowercase hexadecimal, each line closed by byte 0A. Line one: side, two digits, then level, two digits. Each further line is a contour: for each
-- point four digits of x and four of y."
--
-- Definitions
--   Frame                            what a frame says; the outline is its coordinates, x and y in turn, and its counts
--   frame side level points counts   the frame that says these
--   head_width, head_length          how many digits the side and the level have, each and together
--   coordinate_width, point_width    and a coordinate and a point
--   contour_text counts points       the contours' lines
--   frame_text f                     the text of a frame
--   Sayable z, Writable f            each number fits in its digits, each contour has a point, and all points are counted
use Rattle.std.specs.Prelude.{◌≡◌, ℕ, ◌+◌, ◌*◌, ◌^◌, ◌<◌, List, [], ◌∷◌, ◌++◌, map, length, take, drop, ℤ, pos, ◌≤ℤ◌, unsigned_abs}
use Rattle.integers.specs.ListSum.{All}
use Rattle.accuracy.specs.Outline.{edge_count}
use Rattle.frame_text.specs.Lines.{line_text}

pub record Frame : Type 0 where
  pub side : ℕ
  pub level : ℕ
  pub points : List ℤ
  pub counts : List ℕ

abbrev pub frame : ℕ → ℕ → List ℤ → List ℕ → Frame
frame side level points counts = record { side = side; level = level; points = points; counts = counts }

-- "side, two digits, then level, two digits"
abbrev pub head_width : ℕ
head_width = 2

abbrev pub head_length : ℕ
head_length = head_width + head_width

-- "for each point four digits of x and four of y"
abbrev pub coordinate_width : ℕ
coordinate_width = 4

abbrev pub point_width : ℕ
point_width = coordinate_width + coordinate_width

-- A contour is the run of points that begins where the one before ended. A coordinate that can be written is not negative.
unfoldable pub contour_text : List ℕ → List ℤ → List ℕ
contour_text [] points = []
contour_text (n ∷ counts) points = line_text coordinate_width (map unsigned_abs (take (2 * n) points)) ++ contour_text counts (drop (2 * n) points)

abbrev pub frame_text : Frame → List ℕ
frame_text f = line_text head_width (f.side ∷ f.level ∷ []) ++ contour_text f.counts f.points

-- a coordinate that four digits can say
pub record Sayable (z : ℤ) : Type 0 where
  pub not_negative : pos 0 ≤ℤ z
  pub four-digits : unsigned_abs z < 16 ^ coordinate_width

-- a frame that has a text; "with at least one point a line" is `some_points`
pub record Writable (f : Frame) : Type 0 where
  pub side_fits : f.side < 16 ^ head_width
  pub level_fits : f.level < 16 ^ head_width
  pub points_fit : All Sayable f.points
  pub some_points : All (λ n. 0 < n) f.counts
  pub all_points : length f.points ≡ 2 * edge_count f.counts
