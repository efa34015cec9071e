-- What inner functions answer.
--
-- Definitions
--   line_length t                           how many bytes stand before the first 0A, or how many there are
--   FirstLine t line after                  the first line, closed, and what comes after its end
--   is_body t                               is the text after a frame's first line so formed?
--   body_coordinates, body_counts, size_of  what such a text says, and how much
--   Readable                                what reading it asks: room for a coordinate for each four bytes, and for a contour for each nine
use Rattle.std.specs.Prelude.{◌≡◌, ℕ, suc, ◌*◌, ◌<◌, ◌≤◌, Bool, true, cond, ◌&&◌, List, [], ◌∷◌, map, length, take, drop, ℤ, ◌==◌}
use Rattle.integers.specs.Units.{text_limit}
use Rattle.integers.specs.Tests.{every}
use Rattle.frame_text.specs.declared.reading.Size.{Size}
use Rattle.frame_text.specs.Lines.{newline, lines, closes}
use Rattle.frame_text.specs.Frames.{coordinate_width, point_width}
use Rattle.frame_text.specs.Reading.{is_contour, all_coordinates, point_count}

unfoldable pub line_length : List ℕ → ℕ
line_length [] = 0
line_length (b ∷ t) = cond (b == newline) 0 (suc (line_length t))

pub record FirstLine (t line after : List ℕ) : Type 0 where
  pub closed : line_length t < length t
  pub line_is : line ≡ take (line_length t) t
  pub after_is : after ≡ drop (suc (line_length t)) t

abbrev pub is_body : List ℕ → Bool
is_body t = closes t && every is_contour (lines t)

abbrev pub body_coordinates : List ℕ → List ℤ
body_coordinates t = all_coordinates (lines t)

abbrev pub body_counts : List ℕ → List ℕ
body_counts t = map point_count (lines t)

abbrev pub size_of : List ℕ → Size
size_of t = record { coordinates = length (body_coordinates t); contours = length (body_counts t) }

pub record Readable (body : List ℕ) (room_points room-counts : ℕ) : Type 0 where
  pub formed : is_body body ≡ true
  pub short : length body ≤ text_limit
  pub for_points : length body ≤ coordinate_width * room_points
  pub for_counts : length body ≤ suc point_width * room-counts
