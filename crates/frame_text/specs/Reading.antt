-- Reading a frame: the test of question 11, and what a text that passes it says. `RoundTrip` has that a text passes where it is the text of a frame and
-- within the limit, and only there, and that what is read is that frame.
--
-- Definitions
--   is_head, is_contour           is it a frame's first line, or a contour's?
--   are_frame_lines ls            are the lines so formed?
--   is_frame t                    is the text so formed, and no longer than the limit?
--   coordinates l, point_count l  the numbers of a contour's line, and how many points it has
--   all_coordinates ls            the numbers of several
--   first_line, other_lines       of a list of lines
--   frame_of t                    what a text says
use Rattle.std.specs.Prelude.{ℕ, ◌/◌, ◌%◌, Bool, false, ◌&&◌, List, [], ◌∷◌, ◌++◌, map, length, take, drop, ℤ, pos, ◌==◌, nat_le, nat_lt}
use Rattle.integers.specs.Units.{text_limit}
use Rattle.integers.specs.Tests.{every}
use Rattle.frame_text.specs.Digits.{is_digit, hex_value}
use Rattle.frame_text.specs.Lines.{lines, closes}
use Rattle.frame_text.specs.Frames.{Frame, head_width, head_length, point_width}

-- "Line one: side, two digits, then level, two digits."
abbrev pub is_head : List ℕ → Bool
is_head l = length l == head_length && every is_digit l

-- "for each point four digits of x and four of y", "with at least one point a line"
abbrev pub is_contour : List ℕ → Bool
is_contour l = nat_lt 0 (length l) && (length l % point_width == 0 && every is_digit l)

abbrev pub are_frame_lines : List (List ℕ) → Bool
are_frame_lines [] = false
are_frame_lines (l ∷ ls) = is_head l && every is_contour ls

-- "at most 16,384 bytes and so formed, with at least one point a line"
abbrev pub is_frame : List ℕ → Bool
is_frame t = nat_le (length t) text_limit && (closes t && are_frame_lines (lines t))

-- ---- what a text says
-- four digits at a time
unfoldable pub coordinates : List ℕ → List ℤ
coordinates [] = []
coordinates (a ∷ []) = []
coordinates (a ∷ b ∷ []) = []
coordinates (a ∷ b ∷ c ∷ []) = []
coordinates (a ∷ b ∷ c ∷ d ∷ l) = pos (hex_value (a ∷ b ∷ c ∷ d ∷ [])) ∷ coordinates l

-- the coordinates of all contours, one contour after the other
unfoldable pub all_coordinates : List (List ℕ) → List ℤ
all_coordinates [] = []
all_coordinates (l ∷ ls) = coordinates l ++ all_coordinates ls

abbrev pub point_count : List ℕ → ℕ
point_count l = length l / point_width

abbrev pub first_line : List (List ℕ) → List ℕ
first_line [] = []
first_line (l ∷ ls) = l

abbrev pub other_lines : List (List ℕ) → List (List ℕ)
other_lines [] = []
other_lines (l ∷ ls) = ls

abbrev pub frame_of : List ℕ → Frame
frame_of t = record {
  side = hex_value (take head_width (first_line (lines t)));
  level = hex_value (drop head_width (first_line (lines t)));
  points = all_coordinates (other_lines (lines t));
  counts = map point_count (other_lines (lines t));
}
