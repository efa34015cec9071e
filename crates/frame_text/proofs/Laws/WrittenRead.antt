-- What is read of a text, written again.
--
-- Main results
--   unlines, lines-joined            a text that ends with a line is its lines, each with its end
--   read_text                        the text of the frame that is read of a text is that text
--   read_writable                    and each of its numbers fits in its digits
use Rattle.std.specs.Prelude.{◌≡◌, ℕ, ◌-◌, ◌*◌, ◌%◌, ◌^◌, ◌<◌, Bool, true, false, cond, ◌&&◌, List, [], ◌∷◌, ◌++◌, map, length, take, drop, ◌==◌, nat_le, unsigned_abs, refl}
use Rattle.std.proofs.Common.{sym, ◌∙◌, ap, ap₂, subst, true≢false, arith, length-append, length-drop, take-append-drop, take_at, drop_at, length-take-le, eqb-true}
use Rattle.std.proofs.Math.Path.{subst⁻¹}
use Rattle.integers.specs.Units.{text_limit}
use Rattle.integers.proofs.Theorems.Order.{nonneg}
use Rattle.integers.proofs.Theorems.Below.{both}
use Rattle.integers.specs.ListSum.{All, tally}
use Rattle.integers.proofs.Theorems.ListSum.{all_append}
use Rattle.accuracy.specs.Outline.{edge_count}
use Rattle.integers.specs.Tests.{every}
use Rattle.frame_text.specs.Digits.{is_digit, hex_value}
use Rattle.frame_text.specs.Lines.{newline, into_first_line, lines, closes, line_text}
use Rattle.frame_text.specs.Frames.{Frame, frame, head_width, coordinate_width, contour_text, frame_text, Sayable, Writable}
use Rattle.frame_text.specs.Reading.{is_contour, are_frame_lines, is_frame, coordinates, all_coordinates, point_count, first_line, other_lines, frame_of}
use Rattle.frame_text.proofs.Laws.Digits.{hex_value_lem, value_lt, every_append}
use Rattle.frame_text.proofs.Laws.Lines.{closes-newline, closes_after}
use Rattle.frame_text.proofs.Laws.Reading.{ContourLine, contour_line, coordinates-length, Framed, framed}
use Rattle.frame_text.proofs.Laws.ReadWritten.{all_hex, line_text_is}

-- ---- lines
unfoldable pub unlines : List (List ℕ) → List ℕ
unlines [] = []
unlines (l ∷ ls) = l ++ (newline ∷ unlines ls)

-- a byte that is no end of a line does not end a text
not_alone : (b : ℕ) (t : List ℕ) → (b == newline) ≡ false → closes (b ∷ t) ≡ true → 0 < length t
unfolding closes
not_alone b [] q e = absurd (true≢false (sym e ∙ q))
not_alone b (c ∷ t) q e = omega arith

pub lines-joined : (t : List ℕ) → closes t ≡ true → unlines (lines t) ≡ t
unfolding lines unlines
lines-joined [] e = refl
lines-joined (b ∷ t) e = go (b == newline) refl (lines-joined t)
  where
    more : (ls : List (List ℕ)) → unlines ls ≡ t → 0 < length t → unlines (into_first_line b ls) ≡ b ∷ t
    more [] q h = absurd (omega (arith, ap length q))
    more (l ∷ ls) q h = ap (λ x. b ∷ x) q

    go : (x : Bool) → (b == newline) ≡ x → (closes t ≡ true → unlines (lines t) ≡ t) → unlines (cond x ([] ∷ lines t) (into_first_line b (lines t))) ≡ b ∷ t
    go true q further = ap₂ ◌∷◌ (sym (eqb-true b newline q)) (further (sym (closes-newline b t q) ∙ e))
    go false q further = let h = not_alone b t q e in more (lines t) (further (sym (closes_after b t h) ∙ e)) h

-- ---- a line's digits are those of its numbers
read_hex : (l : List ℕ) → every is_digit l ≡ true → length l % 4 ≡ 0 → all_hex coordinate_width (map unsigned_abs (coordinates l)) ≡ l
unfolding all_hex coordinates
read_hex [] d e = refl
read_hex (a ∷ []) d e = absurd (omega arith)
read_hex (a ∷ b ∷ []) d e = absurd (omega arith)
read_hex (a ∷ b ∷ c ∷ []) d e = absurd (omega arith)
read_hex (a ∷ b ∷ c ∷ x ∷ l) d e =
    let s = every_append is_digit (a ∷ b ∷ c ∷ x ∷ []) l in
    let p = both (every is_digit (a ∷ b ∷ c ∷ x ∷ [])) (every is_digit l) (sym s ∙ d) in
    ap₂ ◌++◌ (hex_value_lem (a ∷ b ∷ c ∷ x ∷ []) p.0) (read_hex l p.1 (omega arith))

-- ---- a contour's line
-- two coordinates for each of its points
two_each : (l : List ℕ) → ContourLine l → length (coordinates l) ≡ 2 * point_count l
two_each l c = coordinates-length l ∙ omega (arith, c.eights)

contours_text : (ls : List (List ℕ)) → every is_contour ls ≡ true → contour_text (map point_count ls) (all_coordinates ls) ≡ unlines ls
unfolding contour_text all_coordinates unlines
contours_text [] e = refl
contours_text (l ∷ ls) e =
    let b = both (is_contour l) (every is_contour ls) e in
    let c = contour_line l b.0 in
    let n = two_each l c in
    ap₂ (λ x y. line_text coordinate_width (map unsigned_abs x) ++ contour_text (map point_count ls) y)
    (take_at (coordinates l) (all_coordinates ls) (2 * point_count l) n) (drop_at (coordinates l) (all_coordinates ls) (2 * point_count l) n)
    ∙ line_text_is coordinate_width (map unsigned_abs (coordinates l)) (contour_text (map point_count ls) (all_coordinates ls))
    ∙ ap₂ (λ x y. x ++ (newline ∷ y)) (read_hex l c.digits (omega (arith, c.eights))) (contours_text ls b.1)

-- ---- what four digits say
sayable : (l : List ℕ) → every is_digit l ≡ true → All Sayable (coordinates l)
unfolding coordinates
sayable [] d = tt
sayable (a ∷ []) d = tt
sayable (a ∷ b ∷ []) d = tt
sayable (a ∷ b ∷ c ∷ []) d = tt
sayable (a ∷ b ∷ c ∷ x ∷ l) d =
    let s = every_append is_digit (a ∷ b ∷ c ∷ x ∷ []) l in
    let p = both (every is_digit (a ∷ b ∷ c ∷ x ∷ [])) (every is_digit l) (sym s ∙ d) in
    (record { not_negative = nonneg _; four-digits = value_lt (a ∷ b ∷ c ∷ x ∷ []) p.0 }, sayable l p.1)

all_sayable : (ls : List (List ℕ)) → every is_contour ls ≡ true → All Sayable (all_coordinates ls)
unfolding all_coordinates
all_sayable [] e = tt
all_sayable (l ∷ ls) e =
    let b = both (is_contour l) (every is_contour ls) e in
    all_append Sayable (coordinates l) (all_coordinates ls) (sayable l (contour_line l b.0).digits) (all_sayable ls b.1)

all_some : (ls : List (List ℕ)) → every is_contour ls ≡ true → All (λ n. 0 < n) (map point_count ls)
all_some [] e = tt
all_some (l ∷ ls) e =
    let b = both (is_contour l) (every is_contour ls) e in
    let c = contour_line l b.0 in
    (omega (arith, c.some, c.eights), all_some ls b.1)

all_counted : (ls : List (List ℕ)) → every is_contour ls ≡ true → length (all_coordinates ls) ≡ 2 * edge_count (map point_count ls)
unfolding all_coordinates tally
all_counted [] e = refl
all_counted (l ∷ ls) e =
    let b = both (is_contour l) (every is_contour ls) e in
    length-append (coordinates l) (all_coordinates ls) ∙ omega (arith, two_each l (contour_line l b.0), all_counted ls b.1)

-- ---- the frame
abbrev of_lines : List (List ℕ) → Frame
of_lines ls =
    frame (hex_value (take head_width (first_line ls))) (hex_value (drop head_width (first_line ls))) (all_coordinates (other_lines ls)) (map point_count (other_lines ls))

-- its first line
record HeadLine (h : List ℕ) : Type 0 where
  four : length h ≡ 4
  digits : every is_digit h ≡ true

frame_text_lem : (h : List ℕ) (cs : List (List ℕ)) → HeadLine h → every is_contour cs ≡ true → frame_text (of_lines (h ∷ cs)) ≡ unlines (h ∷ cs)
unfolding unlines all_hex
frame_text_lem [] cs k e = absurd (omega (arith, k.four))
frame_text_lem (a ∷ []) cs k e = absurd (omega (arith, k.four))
frame_text_lem (a ∷ b ∷ []) cs k e = absurd (omega (arith, k.four))
frame_text_lem (a ∷ b ∷ c ∷ []) cs k e = absurd (omega (arith, k.four))
frame_text_lem (a ∷ b ∷ c ∷ d ∷ []) cs k e =
    let p = both (every is_digit (a ∷ b ∷ [])) (every is_digit (c ∷ d ∷ [])) (sym (every_append is_digit (a ∷ b ∷ []) (c ∷ d ∷ [])) ∙ k.digits) in
    line_text_is head_width (hex_value (a ∷ b ∷ []) ∷ hex_value (c ∷ d ∷ []) ∷ []) (contour_text (map point_count cs) (all_coordinates cs))
    ∙ ap₂ (λ x y. (x ++ (y ++ [])) ++ (newline ∷ contour_text (map point_count cs) (all_coordinates cs))) (hex_value_lem (a ∷ b ∷ []) p.0) (hex_value_lem (c ∷ d ∷ []) p.1)
    ∙ ap (λ x. (a ∷ b ∷ c ∷ d ∷ []) ++ (newline ∷ x)) (contours_text cs e)
frame_text_lem (a ∷ b ∷ c ∷ d ∷ x ∷ h) cs k e = absurd (omega (arith, k.four))

frame_writable : (h : List ℕ) (cs : List (List ℕ)) → HeadLine h → every is_contour cs ≡ true → Writable (of_lines (h ∷ cs))
frame_writable h cs k e =
    let p = both (every is_digit (take 2 h)) (every is_digit (drop 2 h)) (sym (every_append is_digit (take 2 h) (drop 2 h)) ∙ ap (every is_digit) (take-append-drop 2 h) ∙ k.digits) in
    record {
      side_fits = subst (λ n. hex_value (take 2 h) < 16 ^ n) (length-take-le 2 h (omega (arith, k.four))) (value_lt (take 2 h) p.0);
      level_fits = subst (λ n. hex_value (drop 2 h) < 16 ^ n) (length-drop 2 h ∙ ap (λ n. n - 2) k.four) (value_lt (drop 2 h) p.1);
      points_fit = all_sayable cs e;
      some_points = all_some cs e;
      all_points = all_counted cs e;
    }

module _ (t : List ℕ) (e : is_frame t ≡ true) where
  is_framed : Framed t
  is_framed = framed t e

  head_line : HeadLine (take 4 t)
  head_line = record { four = length-take-le 4 t (omega (arith, is_framed.long)); digits = is_framed.digits }

  contours : every is_contour (lines (drop 5 t)) ≡ true
  contours = (both (closes (drop 5 t)) (every is_contour (lines (drop 5 t))) is_framed.body).1

  text_closes : closes t ≡ true
  text_closes = (both (closes t) (are_frame_lines (lines t)) (both (nat_le (length t) text_limit) (closes t && are_frame_lines (lines t)) e).1).0

  pub read_text : frame_text (frame_of t) ≡ t
  read_text =
      let q = is_framed.lines_are in
      ap (λ ls. frame_text (of_lines ls)) q ∙ frame_text_lem (take 4 t) (lines (drop 5 t)) head_line contours ∙ sym (ap unlines q) ∙ lines-joined t text_closes

  pub read_writable : Writable (frame_of t)
  read_writable = subst⁻¹ (λ ls. Writable (of_lines ls)) is_framed.lines_are (frame_writable (take 4 t) (lines (drop 5 t)) head_line contours)
