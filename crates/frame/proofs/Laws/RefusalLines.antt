-- The lines of refusals: two numbers have two lines, and a picture's first line is none of them.
--
-- Main results
--   refusal_injective        numbers of two digits with the same line are the same
--   drawn_no_refusal         what is printed of a picture begins with a digit, and no refusal does
--   refusal_decides          so the line that is printed says which number was the text's
use Rattle.std.specs.Prelude.{◌≡◌, List, ◌↔◌, ℕ, zero, suc, ◌/◌, ◌%◌, ◌<◌, get_or}
use Rattle.std.proofs.Common.{sym, ◌∙◌, ap, true≢false, mod-lt, arith, lit<}
use Rattle.accuracy.specs.Outline.{edge_count}
use Rattle.tile.specs.Outcomes.{if_done}
use Rattle.tile.proofs.Laws.IfDone.{if_refused}
use Rattle.frame_text.specs.Digits.{index_of, digit_char, digit_value, is_digit, hex}
use Rattle.frame_text.specs.Frames.{Frame}
use Rattle.frame_text.specs.Reading.{frame_of}
use Rattle.frame_text.specs.OutputLines.{refusal_text}
use Rattle.frame_text.proofs.Laws.Digits.{digit_value_char, digit_char_digit}
use Rattle.frame.specs.Output.{frame_questions, frame_refusal, drawn_text, output_text}
use Rattle.frame.proofs.Laws.Output.{first_below}

digit_injective : (m n : ℕ) → m < 16 → n < 16 → digit_char m ≡ digit_char n → m ≡ n
digit_injective m n h k e = sym (digit_value_char m h) ∙ ap digit_value e ∙ digit_value_char n k

pub refusal_injective : (m n : ℕ) → m < 100 → n < 100 → refusal_text m ≡ refusal_text n → m ≡ n
refusal_injective m n h k e =
    let tens = digit_injective (m / 10) (n / 10) (omega arith) (omega arith) (ap (λ l. get_or l 8 0) e) in
    let units = digit_injective (m % 10) (n % 10) (omega arith) (omega arith) (ap (λ l. get_or l 9 0) e) in
    omega arith

pub drawn_no_refusal : (f : Frame) (n : ℕ) → drawn_text f ≡ refusal_text n → ⊥
unfolding hex index_of
drawn_no_refusal f n e =
    let first = edge_count f.counts / 16 / 16 / 16 % 16 in
    true≢false (sym (digit_char_digit first (mod-lt (edge_count f.counts / 16 / 16 / 16) (omega arith))) ∙ ap (λ l. is_digit (get_or l 0 0)) e)

pub refusal_decides : (t : List ℕ) (number : ℕ) → 0 < number → number < 100 → (output_text t ≡ refusal_text number) ↔ (frame_refusal t ≡ number)
refusal_decides t number h k = (to, back)
  where
    small : frame_refusal t < 100
    small = first_below 100 (frame_questions t) (lit< tt) (lit< tt, (lit< tt, (lit< tt, (lit< tt, (lit< tt, (lit< tt, tt))))))

    at : (m : ℕ) → m < 100 → if_done m (drawn_text (frame_of t)) (refusal_text m) ≡ refusal_text number → m ≡ number
    at zero s e = absurd (drawn_no_refusal (frame_of t) number e)
    at (suc m) s e = refusal_injective (suc m) number s k e

    to : output_text t ≡ refusal_text number → frame_refusal t ≡ number
    to e = at (frame_refusal t) small e

    nonzero : number ≡ 0 → ⊥
    nonzero z = omega arith

    back : frame_refusal t ≡ number → output_text t ≡ refusal_text number
    back e = ap (λ m. if_done m (drawn_text (frame_of t)) (refusal_text m)) e ∙ if_refused (drawn_text (frame_of t)) (refusal_text number) nonzero
