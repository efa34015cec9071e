-- What is read of a text that passes question 11.
--
-- Main results
--   coordinates_next, coordinates_none       the numbers of a line, one after the other
--   coordinates-length                       how many there are
--   ContourLine, contour_line                a contour's line
--   Closed, closed                           a line of a text after a frame's first line: it is closed, and a contour's; and the text after it is so formed
--   body_coordinates_next, body_counts_next  what is read of it and of the lines after it
--   Framed, framed                           a frame's first line, and the text after it
--   frame_is                                 what is read of both
use Rattle.std.specs.Prelude.{◌≡◌, ℕ, suc, ◌/◌, ◌%◌, ◌<◌, ◌≤◌, true, ◌&&◌, List, [], ◌∷◌, ◌++◌, map, length, take, drop, pos, ◌==◌, nat_le, nat_lt, refl}
use Rattle.std.proofs.Common.{sym, ◌∙◌, ap, ap₂, subst, true≢false, arith, length-take-le, eqb-true, leb-true, ltb-true}
use Rattle.std.proofs.Math.Decide.{dec_lt}
use Rattle.integers.specs.Units.{text_limit}
use Rattle.integers.proofs.Theorems.Below.{both}
use Rattle.integers.specs.Tests.{every}
use Rattle.frame_text.specs.Digits.{is_digit, hex_value}
use Rattle.frame_text.specs.Lines.{lines}
use Rattle.frame_text.specs.Frames.{frame}
use Rattle.frame_text.specs.Reading.{is_head, is_contour, is_frame, coordinates, all_coordinates, point_count, other_lines, frame_of}
use Rattle.frame_text.specs.Inner.{line_length, is_body, body_coordinates, body_counts}
use Rattle.frame_text.proofs.Laws.Lines.{line_length-le, lines_cut, body_cut, body_open, frame-cut, frame_open}

-- ---- the numbers of a line
pub coordinates_next : (l : List ℕ) → 4 ≤ length l → coordinates l ≡ pos (hex_value (take 4 l)) ∷ coordinates (drop 4 l)
unfolding coordinates
coordinates_next [] h = absurd (omega arith)
coordinates_next (a ∷ []) h = absurd (omega arith)
coordinates_next (a ∷ b ∷ []) h = absurd (omega arith)
coordinates_next (a ∷ b ∷ c ∷ []) h = absurd (omega arith)
coordinates_next (a ∷ b ∷ c ∷ d ∷ l) h = refl

pub coordinates_four : (x l : List ℕ) → length x ≡ 4 → coordinates (x ++ l) ≡ pos (hex_value x) ∷ coordinates l
unfolding coordinates
coordinates_four [] l e = absurd (omega (arith, e))
coordinates_four (a ∷ []) l e = absurd (omega (arith, e))
coordinates_four (a ∷ b ∷ []) l e = absurd (omega (arith, e))
coordinates_four (a ∷ b ∷ c ∷ []) l e = absurd (omega (arith, e))
coordinates_four (a ∷ b ∷ c ∷ d ∷ []) l e = refl
coordinates_four (a ∷ b ∷ c ∷ d ∷ f ∷ x) l e = absurd (omega (arith, e))

pub coordinates_none : (l : List ℕ) → length l < 4 → coordinates l ≡ []
unfolding coordinates
coordinates_none [] h = refl
coordinates_none (a ∷ []) h = refl
coordinates_none (a ∷ b ∷ []) h = refl
coordinates_none (a ∷ b ∷ c ∷ []) h = refl
coordinates_none (a ∷ b ∷ c ∷ d ∷ l) h = absurd (omega arith)

pub coordinates-length : (l : List ℕ) → length (coordinates l) ≡ length l / 4
unfolding coordinates
coordinates-length [] = refl
coordinates-length (a ∷ []) = refl
coordinates-length (a ∷ b ∷ []) = refl
coordinates-length (a ∷ b ∷ c ∷ []) = refl
coordinates-length (a ∷ b ∷ c ∷ d ∷ l) = omega (arith, coordinates-length l)

-- ---- a contour's line
pub record ContourLine (l : List ℕ) : Type 0 where
  pub some : 0 < length l
  pub eights : length l % 8 ≡ 0
  pub digits : every is_digit l ≡ true

pub contour_line : (l : List ℕ) → is_contour l ≡ true → ContourLine l
contour_line l e =
    let p = both (nat_lt 0 (length l)) (length l % 8 == 0 && every is_digit l) e in
    let q = both (length l % 8 == 0) (every is_digit l) p.1 in
    record { some = ltb-true 0 (length l) p.0; eights = eqb-true (length l % 8) 0 q.0; digits = q.1 }

-- ---- a line of a text after a frame's first line
pub record Closed (t : List ℕ) : Type 0 where
  pub closed : line_length t < length t
  pub some : 0 < line_length t
  pub points : line_length t % 8 ≡ 0
  pub rest : is_body (drop (suc (line_length t)) t) ≡ true

pub closed : (t : List ℕ) → 0 < length t → is_body t ≡ true → Closed t
closed t h e = elim (dec_lt (line_length t) (length t)) [ yes k ↦ go k | no k ↦ absurd (true≢false (sym e ∙ body_open t h (omega arith))) ]
  where
    go : line_length t < length t → Closed t
    go k =
        let line = take (line_length t) t in
        let b = both (is_contour line) (is_body (drop (suc (line_length t)) t)) (sym (body_cut t k) ∙ e) in
        let c = contour_line line b.0 in
        let n : length line ≡ line_length t = length-take-le (line_length t) t (line_length-le t) in
        record {
          closed = k;
          some = subst (λ m. 0 < m) n c.some;
          points = subst (λ m. m % 8 ≡ 0) n c.eights;
          rest = b.1;
        }

pub body_coordinates_next : (t : List ℕ) → line_length t < length t
    → body_coordinates t ≡ coordinates (take (line_length t) t) ++ body_coordinates (drop (suc (line_length t)) t)
unfolding all_coordinates
body_coordinates_next t h = ap all_coordinates (lines_cut t h)

pub body_counts_next : (t : List ℕ) → line_length t < length t → body_counts t ≡ (line_length t / 8) ∷ body_counts (drop (suc (line_length t)) t)
body_counts_next t h =
    ap (map point_count) (lines_cut t h)
    ∙ ap (λ n. (n / 8) ∷ body_counts (drop (suc (line_length t)) t)) (length-take-le (line_length t) t (line_length-le t))

-- ---- a frame: its first line has four digits, and their end is the fifth byte
pub record Framed (t : List ℕ) : Type 0 where
  pub short : length t ≤ text_limit
  pub long : 5 ≤ length t
  pub lines_are : lines t ≡ take 4 t ∷ lines (drop 5 t)
  pub digits : every is_digit (take 4 t) ≡ true
  pub body : is_body (drop 5 t) ≡ true

pub framed : (t : List ℕ) → is_frame t ≡ true → Framed t
framed t e = elim (dec_lt (line_length t) (length t)) [ yes k ↦ go k | no k ↦ absurd (true≢false (sym e ∙ frame_open t (omega arith))) ]
  where
    go : line_length t < length t → Framed t
    go k =
        let n = line_length t in
        let a = both (nat_le (length t) text_limit) (is_head (take n t) && is_body (drop (suc n) t)) (sym (frame-cut t k) ∙ e) in
        let b = both (is_head (take n t)) (is_body (drop (suc n) t)) a.1 in
        let h = both (length (take n t) == 4) (every is_digit (take n t)) b.0 in
        let four : n ≡ 4 = sym (length-take-le n t (line_length-le t)) ∙ eqb-true (length (take n t)) 4 h.0 in
        record {
          short = leb-true (length t) text_limit a.0;
          long = omega arith;
          lines_are = subst (λ m. lines t ≡ take m t ∷ lines (drop (suc m) t)) four (lines_cut t k);
          digits = subst (λ m. every is_digit (take m t) ≡ true) four h.1;
          body = subst (λ m. is_body (drop (suc m) t) ≡ true) four b.1;
        }

pub frame_is : (t : List ℕ) → is_frame t ≡ true → (side level : ℕ) → side ≡ (frame_of t).side → level ≡ (frame_of t).level
    → frame side level (body_coordinates (drop 5 t)) (body_counts (drop 5 t)) ≡ frame_of t
frame_is t e side level s l =
    let q = (framed t e).lines_are in
    ap₂ (λ a b. frame a b (body_coordinates (drop 5 t)) (body_counts (drop 5 t))) s l
    ∙ ap (λ ls. frame (frame_of t).side (frame_of t).level (all_coordinates (other_lines ls)) (map point_count (other_lines ls))) (sym q)
