-- Lines, one after the other.
--
-- Main results
--   line_length-le                     a line is no longer than the text
--   lines_cut, closes_cut              a line that is closed, and what comes after it
--   closes_open                        a text of one line that is not closed
--   body_cut, body_open                so of the text after a frame's first line
--   body_line, body_end                by a first line and what comes after it; none is closed
--   frame-cut, frame_line, frame_open  and of a frame
use Rattle.std.specs.Prelude.{◌≡◌, ℕ, suc, ◌<◌, ◌≤◌, Bool, true, false, cond, ◌&&◌, List, [], ◌∷◌, length, take, drop, ◌==◌, nat_le, refl}
use Rattle.std.proofs.Common.{sym, ◌∙◌, ap, ap₂, arith, le-leb, ne_eqb}
use Rattle.integers.specs.Units.{text_limit}
use Rattle.integers.specs.Tests.{every}
use Rattle.frame_text.specs.Lines.{newline, into_first_line, lines, closes}
use Rattle.frame_text.specs.Reading.{is_head, is_contour, are_frame_lines, is_frame}
use Rattle.frame_text.specs.Inner.{line_length, FirstLine, is_body}

pub line_length-le : (t : List ℕ) → line_length t ≤ length t
unfolding line_length
line_length-le [] = omega arith
line_length-le (b ∷ t) = go (b == newline) (line_length-le t)
  where
    go : (e : Bool) → line_length t ≤ length t → cond e 0 (suc (line_length t)) ≤ suc (length t)
    go true h = omega arith
    go false h = omega arith

-- a line that is closed, and the text after it
record Cut (t : List ℕ) (n : ℕ) : Type 0 where
  lines_are : lines t ≡ take n t ∷ lines (drop (suc n) t)
  closes_is : closes t ≡ closes (drop (suc n) t)

pub closes_after : (b : ℕ) (t : List ℕ) → 0 < length t → closes (b ∷ t) ≡ closes t
unfolding closes
closes_after b [] h = absurd (omega arith)
closes_after b (c ∷ t) h = refl

pub closes-newline : (b : ℕ) (t : List ℕ) → (b == newline) ≡ true → closes (b ∷ t) ≡ closes t
unfolding closes
closes-newline b [] e = e
closes-newline b (c ∷ t) e = refl

cut : (t : List ℕ) → line_length t < length t → Cut t (line_length t)
unfolding line_length lines
cut [] h = absurd (omega arith)
cut (b ∷ t) h = go (b == newline) refl h (cut t)
  where
    go : (e : Bool) → (b == newline) ≡ e → cond e 0 (suc (line_length t)) < suc (length t) → (line_length t < length t → Cut t (line_length t))
        → Cut (b ∷ t) (cond e 0 (suc (line_length t)))
    go true e h further = record { lines_are = ap (λ x. cond x ([] ∷ lines t) (into_first_line b (lines t))) e; closes_is = closes-newline b t e }
    go false e h further =
        let k : line_length t < length t = omega arith in
        let c = further k in
        record {
          lines_are = ap (λ x. cond x ([] ∷ lines t) (into_first_line b (lines t))) e ∙ ap (into_first_line b) c.lines_are;
          closes_is = closes_after b t (omega arith) ∙ c.closes_is;
        }

pub lines_cut : (t : List ℕ) → line_length t < length t → lines t ≡ take (line_length t) t ∷ lines (drop (suc (line_length t)) t)
lines_cut t h = (cut t h).lines_are

pub closes_cut : (t : List ℕ) → line_length t < length t → closes t ≡ closes (drop (suc (line_length t)) t)
closes_cut t h = (cut t h).closes_is

pub closes_open : (t : List ℕ) → 0 < length t → length t ≤ line_length t → closes t ≡ false
unfolding line_length closes
closes_open [] h k = absurd (omega arith)
closes_open (b ∷ []) h k = go (b == newline) k
  where
    go : (e : Bool) → 1 ≤ cond e 0 1 → e ≡ false
    go true k = absurd (omega arith)
    go false k = refl
closes_open (b ∷ c ∷ t) h k = go (b == newline) k (closes_open (c ∷ t) (omega arith))
  where
    go : (e : Bool) → suc (length (c ∷ t)) ≤ cond e 0 (suc (line_length (c ∷ t))) → (length (c ∷ t) ≤ line_length (c ∷ t) → closes (c ∷ t) ≡ false)
        → closes (c ∷ t) ≡ false
    go true k further = absurd (omega arith)
    go false k further = further (omega arith)

-- ---- the tests of a frame, line by line
swap : (a b c : Bool) → (a && (b && c)) ≡ (b && (a && c))
swap true true c = refl
swap true false c = refl
swap false true c = refl
swap false false c = refl

and_false : (a : Bool) → (a && false) ≡ false
and_false true = refl
and_false false = refl

pub body_cut : (t : List ℕ) → line_length t < length t → is_body t ≡ (is_contour (take (line_length t) t) && is_body (drop (suc (line_length t)) t))
body_cut t h =
    ap₂ (λ a ls. a && every is_contour ls) (closes_cut t h) (lines_cut t h)
    ∙ swap (closes (drop (suc (line_length t)) t)) (is_contour (take (line_length t) t)) (every is_contour (lines (drop (suc (line_length t)) t)))

pub body_open : (t : List ℕ) → 0 < length t → length t ≤ line_length t → is_body t ≡ false
body_open t h k = ap (λ a. a && every is_contour (lines t)) (closes_open t h k)

-- the same of a first line and what comes after its end
pub body_line : {t line after : List ℕ} → FirstLine t line after → is_body t ≡ (is_contour line && is_body after)
body_line {t} f = body_cut t f.closed ∙ ap₂ (λ l r. is_contour l && is_body r) (sym f.line_is) (sym f.after_is)

-- no line is closed: only nothing is left to read
pub body_end : (t : List ℕ) → line_length t ≡ length t → is_body t ≡ (length t == 0)
unfolding lines closes
body_end [] e = refl
body_end (b ∷ t) e = body_open (b ∷ t) (omega arith) (omega (arith, e)) ∙ sym (ne_eqb (length (b ∷ t)) 0 (omega arith))

pub frame-cut : (t : List ℕ) → line_length t < length t
    → is_frame t ≡ (nat_le (length t) text_limit && (is_head (take (line_length t) t) && is_body (drop (suc (line_length t)) t)))
frame-cut t h =
    let n = line_length t in
    ap (λ b. nat_le (length t) text_limit && b)
    (ap₂ (λ a ls. a && are_frame_lines ls) (closes_cut t h) (lines_cut t h) ∙ swap (closes (drop (suc n) t)) (is_head (take n t)) (every is_contour (lines (drop (suc n) t))))

pub frame_open : (t : List ℕ) → length t ≤ line_length t → is_frame t ≡ false
unfolding lines closes
frame_open [] k = refl
frame_open (b ∷ t) k = ap (λ a. nat_le (length (b ∷ t)) text_limit && (a && are_frame_lines (lines (b ∷ t)))) (closes_open (b ∷ t) (omega arith) k) ∙ and_false (nat_le (length (b ∷ t)) text_limit)

pub frame_line : {t line after : List ℕ} → length t ≤ text_limit → FirstLine t line after → is_frame t ≡ (is_head line && is_body after)
frame_line {t} h f =
    frame-cut t f.closed ∙ ap₂ (λ a b. a && b) (le-leb (length t) text_limit h) (ap₂ (λ l r. is_head l && is_body r) (sym f.line_is) (sym f.after_is))
