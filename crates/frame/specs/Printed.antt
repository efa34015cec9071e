-- Demand 3 of what is printed, from the text of a frame to the bytes that `draw` answers. `Answered` stands in the contract of `draw`, so it is
-- proved of the code that runs.
--
-- Definitions
--   digits_at level cx cy         where the two digits of a cell's grey stand
--   printed_grey                  the number that they stand for
--   Printed f out                 what is promised of the output of a frame that is not refused
--   printed_of r, Answered t r    what an answer prints, and what is promised of the answer to a text
use Rattle.std.specs.Prelude.{◌≡◌, List, ℕ, ◌+◌, ◌*◌, ◌^◌, ◌<◌, length, get_or, take, drop}
use Rattle.haar.specs.Greys.{grey, OneApart}
use Rattle.accuracy.specs.Outline.{edge_count, signed_area}
use Rattle.tile.specs.Outcomes.{edges_of}
use Rattle.tile.specs.Faithful.{exact_figure_num, exact_denominator}
use Rattle.frame_text.specs.Digits.{hex, hex_value}
use Rattle.frame_text.specs.Lines.{newline}
use Rattle.frame_text.specs.Frames.{Frame}
use Rattle.frame_text.specs.Reading.{frame_of}
use Rattle.frame_text.specs.OutputLines.{refusal_text, grey_width, summary_text, summary_length, row_length}
use Rattle.frame.specs.declared.Answer.{Answer}
use Rattle.frame.specs.Output.{frame_refusal}

-- after the first line and the rows above, two digits for each of the cells before it
abbrev pub digits_at : ℕ → ℕ → ℕ → ℕ
digits_at level cx cy = summary_length + (cy * row_length (2 ^ level) + grey_width * cx)

abbrev pub printed_grey : List ℕ → ℕ → ℕ → ℕ → ℕ
printed_grey out level cx cy = hex_value (take grey_width (drop (digits_at level cx cy) out))

pub record Printed (f : Frame) (out : List ℕ) : Type 0 where
  -- the first line has the edge count (the counts' sum) and the outline's signed area
  pub first_line_lem : take summary_length out ≡ summary_text (edge_count f.counts) (signed_area (edges_of f.points f.counts))
  -- "A cell's grey is still at most one from the grey of the exact area, taken the same way": `grey` is of the magnitude. The exact area is a fraction.
  pub greys : (cx cy : ℕ) → cx < 2 ^ f.level → cy < 2 ^ f.level
      → OneApart (printed_grey out f.level cx cy)
      (grey f.side (exact_figure_num f.side f.points f.counts f.level cx cy) (exact_denominator f.points f.counts))
  pub denominator-positive : 0 < exact_denominator f.points f.counts
  -- and these are its two digits, each row has its end, and nothing comes after the last
  pub digits : (cx cy : ℕ) → cx < 2 ^ f.level → cy < 2 ^ f.level
      → take grey_width (drop (digits_at f.level cx cy) out) ≡ hex grey_width (printed_grey out f.level cx cy)
  pub ends : (cy : ℕ) → cy < 2 ^ f.level → get_or out (digits_at f.level (2 ^ f.level) cy) 0 ≡ newline
  pub size : length out ≡ summary_length + 2 ^ f.level * row_length (2 ^ f.level)

-- the first `len` bytes of an answer are what is printed
abbrev pub printed_of : Answer → List ℕ
printed_of r = take r.len r.bytes

pub record Answered (t : List ℕ) (r : Answer) : Type 0 where
  pub drawn : frame_refusal t ≡ 0 → Printed (frame_of t) (printed_of r)
  pub refused : (frame_refusal t ≡ 0 → ⊥) → printed_of r ≡ refusal_text (frame_refusal t)
