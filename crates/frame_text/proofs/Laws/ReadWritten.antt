-- The text of a frame, read again.
--
-- Main results
--   all_hex, line_text_is            a line's digits, and the end of the line
--   lines_line, closes_line          lines are where they were written
--   written_is_frame                 the text of a frame passes question 11
--   written_frame                    and what is read of it is the frame
use Rattle.std.specs.Prelude.{◌≡◌, ℕ, suc, ◌*◌, ◌/◌, ◌%◌, ◌<◌, ◌≤◌, Bool, true, false, cond, ◌&&◌, List, [], ◌∷◌, ◌++◌, map, length, take, drop, ℤ, pos, negsuc, ◌≤ℤ◌, ◌==◌, unsigned_abs, refl}
use Rattle.std.proofs.Common.{sym, ◌∙◌, true≢false, append_assoc, suc-mul, mul-div_cancel, arith, length-append, length-drop, take-append-drop, length-take-le, eqb-true, eq-eqb, le-leb, lt-ltb}
use Rattle.std.proofs.Math.Path.{ap, ap₂}
use Rattle.std.proofs.Math.Nat.{mul-mod_left}
use Rattle.integers.specs.Units.{text_limit}
use Rattle.integers.proofs.Theorems.Below.{both}
use Rattle.integers.specs.ListSum.{All, tally}
use Rattle.integers.proofs.Theorems.ListSum.{all_take, all_drop}
use Rattle.accuracy.specs.Outline.{edge_count}
use Rattle.integers.specs.Tests.{every}
use Rattle.frame_text.specs.Digits.{is_digit, index_of, hex, hex_value}
use Rattle.frame_text.specs.Lines.{newline, into_first_line, lines, closes, line_text}
use Rattle.frame_text.specs.Frames.{Frame, frame, head_width, coordinate_width, contour_text, frame_text, Sayable, Writable}
use Rattle.frame_text.specs.Reading.{is_contour, are_frame_lines, is_frame, coordinates, all_coordinates, point_count, first_line, other_lines, frame_of}
use Rattle.frame_text.proofs.Laws.Digits.{hex-length, hex-digits, value_hex, every_append}
use Rattle.frame_text.proofs.Laws.Lines.{closes-newline, closes_after}

-- ---- a line
unfoldable pub all_hex : ℕ → List ℕ → List ℕ
all_hex width [] = []
all_hex width (n ∷ ns) = hex width n ++ all_hex width ns

pub line_text_is : (width : ℕ) (ns t : List ℕ) → line_text width ns ++ t ≡ all_hex width ns ++ (newline ∷ t)
unfolding line_text all_hex
line_text_is width [] t = refl
line_text_is width (n ∷ ns) t =
    append_assoc (hex width n) (line_text width ns) t ∙ ap (λ l. hex width n ++ l) (line_text_is width ns t)
    ∙ sym (append_assoc (hex width n) (all_hex width ns) (newline ∷ t))

all_hex-length : (width : ℕ) (ns : List ℕ) → length (all_hex width ns) ≡ length ns * width
unfolding all_hex
all_hex-length width [] = omega (arith, suc-mul 0 width)
all_hex-length width (n ∷ ns) =
    length-append (hex width n) (all_hex width ns) ∙ omega (arith, hex-length width n, all_hex-length width ns, suc-mul (length ns) width)

all_hex-digits : (width : ℕ) (ns : List ℕ) → every is_digit (all_hex width ns) ≡ true
unfolding all_hex
all_hex-digits width [] = refl
all_hex-digits width (n ∷ ns) =
    every_append is_digit (hex width n) (all_hex width ns) ∙ ap₂ ◌&&◌ (hex-digits width n) (all_hex-digits width ns)

-- ---- lines
no_newline : (b : ℕ) → is_digit b ≡ true → (b == newline) ≡ false
unfolding index_of
no_newline b e = go (b == newline) refl
  where
    go : (t : Bool) → (b == newline) ≡ t → t ≡ false
    go true q = absurd (true≢false (sym e ∙ ap is_digit (eqb-true b newline q)))
    go false q = refl

pub lines_line : (l t : List ℕ) → every is_digit l ≡ true → lines (l ++ (newline ∷ t)) ≡ l ∷ lines t
unfolding lines
lines_line [] t e = refl
lines_line (b ∷ l) t e =
    let d = both (is_digit b) (every is_digit l) e in
    ap (λ x. cond x ([] ∷ lines (l ++ (newline ∷ t))) (into_first_line b (lines (l ++ (newline ∷ t))))) (no_newline b d.0)
    ∙ ap (into_first_line b) (lines_line l t d.1)

pub closes_line : (l t : List ℕ) → closes (l ++ (newline ∷ t)) ≡ closes t
closes_line [] t = closes-newline newline t refl
closes_line (b ∷ l) t =
    closes_after b (l ++ (newline ∷ t)) (omega (arith, length-append l (newline ∷ t)))
    ∙ closes_line l t

-- ---- the contours
-- their lines, as they are printed
unfoldable contour_lines : List ℕ → List ℤ → List (List ℕ)
contour_lines [] points = []
contour_lines (n ∷ counts) points = all_hex coordinate_width (map unsigned_abs (take (2 * n) points)) ∷ contour_lines counts (drop (2 * n) points)

contour_text_is : (n : ℕ) (counts : List ℕ) (points : List ℤ)
    → contour_text (n ∷ counts) points
    ≡ all_hex coordinate_width (map unsigned_abs (take (2 * n) points)) ++ (newline ∷ contour_text counts (drop (2 * n) points))
unfolding contour_text
contour_text_is n counts points = line_text_is coordinate_width (map unsigned_abs (take (2 * n) points)) (contour_text counts (drop (2 * n) points))

contour_lines_lem : (counts : List ℕ) (points : List ℤ) → lines (contour_text counts points) ≡ contour_lines counts points
unfolding contour_lines contour_text lines
contour_lines_lem [] points = refl
contour_lines_lem (n ∷ counts) points =
    let ns = map unsigned_abs (take (2 * n) points) in
    ap lines (contour_text_is n counts points)
    ∙ lines_line (all_hex coordinate_width ns) (contour_text counts (drop (2 * n) points)) (all_hex-digits coordinate_width ns)
    ∙ ap (λ ls. all_hex coordinate_width ns ∷ ls) (contour_lines_lem counts (drop (2 * n) points))

contour_closes : (counts : List ℕ) (points : List ℤ) → closes (contour_text counts points) ≡ true
unfolding contour_text closes
contour_closes [] points = refl
contour_closes (n ∷ counts) points =
    ap closes (contour_text_is n counts points)
    ∙ closes_line (all_hex coordinate_width (map unsigned_abs (take (2 * n) points))) (contour_text counts (drop (2 * n) points))
    ∙ contour_closes counts (drop (2 * n) points)

map-length : (ps : List ℤ) → length (map unsigned_abs ps) ≡ length ps
map-length [] = refl
map-length (p ∷ ps) = ap suc (map-length ps)

-- a contour's line has eight digits for each point
contour_length : (n : ℕ) (points : List ℤ) → 2 * n ≤ length points → length (all_hex coordinate_width (map unsigned_abs (take (2 * n) points))) ≡ n * 8
contour_length n points h =
    all_hex-length coordinate_width (map unsigned_abs (take (2 * n) points)) ∙ omega (arith, map-length (take (2 * n) points), length-take-le (2 * n) points h)

is_contour_lem : (n : ℕ) (points : List ℤ) → 0 < n → 2 * n ≤ length points → is_contour (all_hex coordinate_width (map unsigned_abs (take (2 * n) points))) ≡ true
is_contour_lem n points h k =
    let l = all_hex coordinate_width (map unsigned_abs (take (2 * n) points)) in
    let m = contour_length n points k in
    ap₂ ◌&&◌ (lt-ltb 0 (length l) (omega arith))
    (ap₂ ◌&&◌ (eq-eqb (length l % 8) 0 (ap (λ i. i % 8) m ∙ mul-mod_left n 8)) (all_hex-digits coordinate_width (map unsigned_abs (take (2 * n) points))))

are_contours : (counts : List ℕ) (points : List ℤ) → All (λ n. 0 < n) counts → length points ≡ 2 * edge_count counts
    → every is_contour (contour_lines counts points) ≡ true
unfolding contour_lines tally
are_contours [] points h e = refl
are_contours (n ∷ counts) points h e =
    ap₂ ◌&&◌ (is_contour_lem n points h.0 (omega arith))
    (are_contours counts (drop (2 * n) points) h.1 (length-drop (2 * n) points ∙ omega arith))

-- ---- and what is read of them
back : (z : ℤ) → pos 0 ≤ℤ z → pos (unsigned_abs z) ≡ z
back (pos n) h = refl
back (negsuc n) h = absurd h.le

coordinates-hex : (n : ℕ) (l : List ℕ) → coordinates (hex coordinate_width n ++ l) ≡ pos (hex_value (hex coordinate_width n)) ∷ coordinates l
unfolding hex coordinates
coordinates-hex n l = refl

coordinates-back : (ps : List ℤ) → All Sayable ps → coordinates (all_hex coordinate_width (map unsigned_abs ps)) ≡ ps
unfolding all_hex coordinates
coordinates-back [] h = refl
coordinates-back (p ∷ ps) h =
    coordinates-hex (unsigned_abs p) (all_hex coordinate_width (map unsigned_abs ps))
    ∙ ap₂ ◌∷◌ (ap pos (value_hex coordinate_width (unsigned_abs p) h.0.four-digits) ∙ back p h.0.not_negative) (coordinates-back ps h.1)

points_back : (counts : List ℕ) (points : List ℤ) → All Sayable points → length points ≡ 2 * edge_count counts → all_coordinates (contour_lines counts points) ≡ points
unfolding contour_lines all_coordinates tally
points_back [] [] h e = refl
points_back [] (p ∷ ps) h e = absurd (omega arith)
points_back (n ∷ counts) points h e =
    ap₂ ◌++◌ (coordinates-back (take (2 * n) points) (all_take Sayable (2 * n) points h))
    (points_back counts (drop (2 * n) points) (all_drop Sayable (2 * n) points h) (length-drop (2 * n) points ∙ omega arith))
    ∙ take-append-drop (2 * n) points

counts-back : (counts : List ℕ) (points : List ℤ) → length points ≡ 2 * edge_count counts → map point_count (contour_lines counts points) ≡ counts
unfolding contour_lines tally
counts-back [] points e = refl
counts-back (n ∷ counts) points e =
    ap₂ ◌∷◌ (ap (λ m. m / 8) (contour_length n points (omega arith)) ∙ mul-div_cancel n (omega arith))
    (counts-back counts (drop (2 * n) points) (length-drop (2 * n) points ∙ omega arith))

-- ---- the frame
module _ (f : Frame) (w : Writable f) where
  head : List ℕ
  head = all_hex head_width (f.side ∷ f.level ∷ [])

  body : List ℕ
  body = contour_text f.counts f.points

  text_is : frame_text f ≡ head ++ (newline ∷ body)
  unfolding head body
  text_is = line_text_is head_width (f.side ∷ f.level ∷ []) (contour_text f.counts f.points)

  lines_are : lines (frame_text f) ≡ head ∷ contour_lines f.counts f.points
  unfolding head body
  lines_are =
      ap lines text_is
      ∙ lines_line head body (all_hex-digits head_width (f.side ∷ f.level ∷ []))
      ∙ ap (λ ls. head ∷ ls) (contour_lines_lem f.counts f.points)

  pub written_is_frame : length (frame_text f) ≤ text_limit → is_frame (frame_text f) ≡ true
  unfolding head body all_hex
  written_is_frame h =
      ap₂ ◌&&◌ (le-leb (length (frame_text f)) text_limit h)
      (ap₂ ◌&&◌ (ap closes text_is ∙ closes_line head body ∙ contour_closes f.counts f.points)
      (ap are_frame_lines lines_are
      ∙ ap₂ ◌&&◌
      (ap₂ ◌&&◌ (eq-eqb (length head) 4 (all_hex-length head_width (f.side ∷ f.level ∷ []))) (all_hex-digits head_width (f.side ∷ f.level ∷ [])))
      (are_contours f.counts f.points w.some_points w.all_points)))

  pub written_frame : frame_of (frame_text f) ≡ f
  unfolding head all_hex hex
  written_frame =
      let cs = contour_lines f.counts f.points in
      ap (λ ls. frame (hex_value (take head_width (first_line ls))) (hex_value (drop head_width (first_line ls))) (all_coordinates (other_lines ls)) (map point_count (other_lines ls))) lines_are
      ∙ ap₂ (λ a b. frame a b (all_coordinates cs) (map point_count cs)) (value_hex head_width f.side w.side_fits) (value_hex head_width f.level w.level_fits)
      ∙ ap₂ (frame f.side f.level) (points_back f.counts f.points w.points_fit w.all_points) (counts-back f.counts f.points w.all_points)
