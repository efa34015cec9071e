-- The contours of a frame, line by line: what is read up to a place of the text, and what is left.
--
-- Main results
--   LinesRead, lines_start               what the two lists hold when some of the lines are read, and the rest is left
--   points_room, counts-room             there is room for the next line
--   lines_step                           it is read
--   all_points, all_counts, whole_size   none is left
use Rattle.std.proofs.Common.{◌≡◌, ℕ, suc, ◌+◌, ◌-◌, ◌*◌, ◌/◌, ◌<◌, ◌≤◌, true, List, [], ◌∷◌, ◌++◌, length, set, ℤ, sym, refl, ap, ◌∙◌, ap₂, arith, length-append, length-drop, length-set, length-take-le, eqb-true}
use Rattle.integers.proofs.Theorems.Below.{both}
use Rattle.frame_text.specs.declared.reading.Size.{Size}
use Rattle.frame_text.specs.Over.{over}
use Rattle.frame_text.specs.Lines.{lines}
use Rattle.frame_text.specs.Reading.{is_contour, coordinates, all_coordinates}
use Rattle.frame_text.specs.Inner.{line_length, FirstLine, is_body, body_coordinates, body_counts, size_of}
use Rattle.frame_text.proofs.Laws.Over.{over_at, written, written_length, over_entry, over_end}
use Rattle.frame_text.proofs.Laws.Lines.{line_length-le, body_line, body_end}
use Rattle.frame_text.proofs.Laws.Reading.{ContourLine, contour_line, coordinates-length, body_coordinates_next, body_counts_next}

-- a text, and what the two lists held before
module _ (body : List ℕ) (points₀ : List ℤ) (counts₀ : List ℕ) where
  pub record LinesRead (points : List ℤ) (counts : List ℕ) (size : Size) (rest : List ℕ) : Type 0 where
    pub formed : is_body rest ≡ true
    -- four bytes of text at least for each coordinate, and nine for each contour
    pub few-coordinates : 4 * size.coordinates + length rest ≤ length body
    pub few_contours : 9 * size.contours + length rest ≤ length body
    pub same_points : length points ≡ length points₀
    pub same_counts : length counts ≡ length counts₀
    pub all_coordinates_lem : size.coordinates + length (body_coordinates rest) ≡ length (body_coordinates body)
    pub all_contours : size.contours + length (body_counts rest) ≡ length (body_counts body)
    pub points_left : over_at size.coordinates (body_coordinates rest) points ≡ over (body_coordinates body) points₀
    pub counts-left : over_at size.contours (body_counts rest) counts ≡ over (body_counts body) counts₀

  pub lines_start : is_body body ≡ true → LinesRead points₀ counts₀ (record { coordinates = 0; contours = 0 }) body
  lines_start e = record {
    formed = e;
    few-coordinates = omega arith;
    few_contours = omega arith;
    same_points = refl;
    same_counts = refl;
    all_coordinates_lem = omega arith;
    all_contours = omega arith;
    points_left = refl;
    counts-left = refl;
  }

-- a line of coordinates is written into the points, and its count into the counts
module _ {body : List ℕ} {points₀ : List ℤ} {counts₀ : List ℕ} {points : List ℤ} {counts : List ℕ} {size : Size} {rest line after : List ℕ}
    (r : LinesRead body points₀ counts₀ points counts size rest) (f : FirstLine rest line after) where
  abbrev p : ℕ
  p = size.coordinates

  abbrev c : ℕ
  c = size.contours

  abbrev n : ℕ
  n = length line

  line-is : n ≡ line_length rest
  line-is = ap length f.line_is ∙ length-take-le (line_length rest) rest (line_length-le rest)

  rest-is : length rest ≡ n + 1 + length after
  rest-is = omega (arith, f.closed, line-is, ap length f.after_is, length-drop (suc (line_length rest)) rest)

  parts : (is_contour line ≡ true) × (is_body after ≡ true)
  parts = both (is_contour line) (is_body after) (sym (body_line f) ∙ r.formed)

  formed-line : ContourLine line
  formed-line = contour_line line parts.0

  eight : 8 ≤ n
  eight = omega (arith, formed-line.some, formed-line.eights)

  coordinates-count : length (coordinates line) ≡ n / 4
  coordinates-count = coordinates-length line

  coordinates_are : body_coordinates rest ≡ coordinates line ++ body_coordinates after
  coordinates_are = body_coordinates_next rest f.closed ∙ ap₂ (λ l t. coordinates l ++ body_coordinates t) (sym f.line_is) (sym f.after_is)

  counts_are : body_counts rest ≡ (n / 8) ∷ body_counts after
  counts_are = body_counts_next rest f.closed ∙ ap₂ (λ k t. (k / 8) ∷ body_counts t) (sym line-is) (sym f.after_is)

  module _ (room_points : length body ≤ 4 * length points₀) (room-counts : length body ≤ 9 * length counts₀) where
    pub points_room : n ≤ 4 * (length points - p)
    points_room = omega (arith, rest-is, r.few-coordinates, r.same_points)

    pub counts-room : c < length counts
    counts-room = omega (arith, rest-is, eight, r.few_contours, r.same_counts)

    pub lines_step : {points' : List ℤ} → points' ≡ over_at p (coordinates line) points
        → LinesRead body points₀ counts₀ points' (set counts c (n / 8)) (record { coordinates = p + n / 4; contours = c + 1 }) after
    lines_step e = record {
      formed = parts.1;
      few-coordinates = omega (arith, r.few-coordinates, rest-is);
      few_contours = omega (arith, r.few_contours, eight, rest-is);
      same_points = written_length p (coordinates line) points e (omega (arith, points_room, coordinates-count, r.few-coordinates, r.same_points, rest-is)) ∙ r.same_points;
      same_counts = length-set counts c (n / 8) ∙ r.same_counts;
      all_coordinates_lem =
          omega (arith, r.all_coordinates_lem, ap length coordinates_are, length-append (coordinates line) (body_coordinates after), coordinates-count);
      all_contours = omega (arith, r.all_contours, ap length counts_are);
      points_left =
          written p (coordinates line) (body_coordinates after) points e (omega (arith, points_room, eight))
          (ap (λ k. p + k) (sym coordinates-count))
          ∙ ap (λ l. over_at p l points) (sym coordinates_are) ∙ r.points_left;
      counts-left =
          over_entry c (n / 8) (body_counts after) counts counts-room
          ∙ ap (λ l. over_at c l counts) (sym counts_are) ∙ r.counts-left;
    }

module _ {body : List ℕ} {points₀ : List ℤ} {counts₀ : List ℕ} {points : List ℤ} {counts : List ℕ} {size : Size} {rest : List ℕ}
    (r : LinesRead body points₀ counts₀ points counts size rest) (h : line_length rest ≡ length rest) where
  nothing : rest ≡ []
  nothing = none rest (eqb-true (length rest) 0 (sym (body_end rest h) ∙ r.formed))
    where
      none : (t : List ℕ) → length t ≡ 0 → t ≡ []
      none [] e = refl
      none (b ∷ t) e = absurd (omega (arith, e))

  pub all_points : points ≡ over (body_coordinates body) points₀
  unfolding lines all_coordinates
  all_points = sym (over_end size.coordinates points) ∙ ap (λ t. over_at size.coordinates (body_coordinates t) points) (sym nothing) ∙ r.points_left

  pub all_counts : counts ≡ over (body_counts body) counts₀
  unfolding lines
  all_counts = sym (over_end size.contours counts) ∙ ap (λ t. over_at size.contours (body_counts t) counts) (sym nothing) ∙ r.counts-left

  abbrev sized : ℕ → ℕ → Size
  sized p c = record { coordinates = p; contours = c }

  pub whole_size : size ≡ size_of body
  unfolding lines all_coordinates
  whole_size =
      ap₂ sized
      (let e = ap (λ t. length (body_coordinates t)) nothing in omega (arith, r.all_coordinates_lem, e))
      (let e = ap (λ t. length (body_counts t)) nothing in omega (arith, r.all_contours, e))
