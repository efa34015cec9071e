-- What is printed of a frame is near the ink, for every text that is not refused and whatever the table held before.
--
-- Main results
--   printed                      `Printed` holds of the output
--   answered                     and `Answered` of the answer that has it
use Rattle.std.specs.Prelude.{◌≡◌, cond, List, ◌++◌, ℕ, ◌+◌, ◌*◌, ◌^◌, ◌<◌, ◌≤◌, ℤ, pos, length, get_or, take, drop}
use Rattle.std.proofs.Common.{sym, ◌∙◌, ap, subst, arith, length-append, get_or-append-add, take_at}
use Rattle.std.proofs.Math.Path.{subst⁻¹}
use Rattle.std.proofs.Math.Seq.{drop-append-add}
use Rattle.integers.specs.ListSum.{All}
use Rattle.haar.specs.Greys.{grey, OneApart}
use Rattle.haar.specs.Plane.{figure_in}
use Rattle.haar.proofs.Laws.Greys.{grey_byte}
use Rattle.accuracy.specs.Outline.{edge_count}
use Rattle.tile.specs.Questions.{Yes, depth_of}
use Rattle.tile.specs.Outcomes.{if_done, draw_refusal, picture_index}
use Rattle.tile.proofs.Theorems.Refusals.{question7_means}
use Rattle.tile.proofs.Theorems.DrawnFigures.{greys_drawn_lem, grey_in_picture}
use Rattle.tile.specs.Faithful.{exact_figure_num, exact_denominator}
use Rattle.tile.specs.Faithful as tile-drawn
use Rattle.tile.proofs.Theorems.Theorem.{faithful}
use Rattle.tile.proofs.Laws.IfDone.{if_refused}
use Rattle.tile.proofs.Laws.FirstNo.{first_no-zero}
use Rattle.frame_text.specs.Digits.{hex, hex_value}
use Rattle.frame_text.specs.Lines.{newline}
use Rattle.frame_text.specs.Frames.{Frame}
use Rattle.frame_text.specs.Reading.{frame_of}
use Rattle.frame_text.specs.OutputLines.{refusal_text, rows_text, grey_width, summary_text, summary_length}
use Rattle.frame_text.proofs.Laws.Digits.{value_hex}
use Rattle.frame_text.proofs.Laws.Printing.{summary_length_lem, rows_text_length}
use Rattle.frame_text.proofs.Laws.WrittenRead.{read_writable}
use Rattle.frame_text.proofs.Laws.PrintedGreys.{picture-digits, picture_end}
use Rattle.frame.specs.declared.Answer.{Answer}
use Rattle.frame.specs.Output.{frame_questions, frame_refusal, frame_table, frame_greys, drawn_text, output_text, zeros, answer_of}
use Rattle.frame.proofs.Theorems.Refusals.{frame_refusals}
use Rattle.frame.specs.Printed.{digits_at, printed_grey, Printed, Answered}
use Rattle.frame.specs.Inner.{picture_size, draw_number, greys_drawn, used_table, build_number}
use Rattle.frame.proofs.Laws.Output.{Drawn, drawn, zeros-length, answer_printed}
use Rattle.frame.proofs.Laws.FrameNumber.{blank, blank-length, build_questions, build_number_is, built_table_lem, draw_number_is}

-- what the program's table held does not matter: a blank one stands in for it
module _ (t : List ℕ) (done : frame_refusal t ≡ 0) where
  abbrev f : Frame
  f = frame_of t

  abbrev built : List ℤ
  built = frame_table f

  abbrev yes : All Yes (frame_questions t)
  yes = (frame_refusals t).accepted.0 done

  written : length f.points ≡ 2 * edge_count f.counts
  written = (read_writable t yes.0).all_points

  building : build_number f blank ≡ 0
  building = build_number_is f written blank blank-length ∙ (first_no-zero (build_questions f) tt).1 (yes.1.0, (yes.1.1.0, (yes.1.1.1.0, (yes.1.1.1.1.0, tt))))

  drawing : draw_number f.side f.level built ≡ 0
  drawing = draw_number_is f written blank blank-length building ∙ ap (λ b. cond b 0 7) yes.1.1.1.1.1.0

  all_drawn : Drawn f.side f.level built
  all_drawn = drawn f.side f.level built drawing

  -- the greys, as the call leaves them
  drawn-size : draw_refusal f.side f.level built (length (zeros (picture_size f.level))) ≡ 0
  drawn-size = ap (draw_refusal f.side f.level built) (zeros-length (picture_size f.level)) ∙ drawing

  greys_are : greys_drawn f.side f.level built ≡ frame_greys f
  greys_are = greys_drawn_lem f.side f.level built (zeros (picture_size f.level)) drawn-size

  -- what is printed, in its parts
  abbrev first : List ℕ
  first = summary_text (edge_count f.counts) (get_or built 0 (pos 0))

  abbrev rows : List ℕ
  rows = rows_text (2 ^ f.level) (2 ^ f.level) (frame_greys f)

  output : output_text t ≡ first ++ rows
  output = ap (λ n. if_done n (drawn_text f) (refusal_text n)) done

  -- demand 3 of the table that building left
  shallow : f.level ≤ depth_of f.side
  shallow = (question7_means f.side f.level).0 yes.1.1.1.1.1.0

  near : tile-drawn.DrawnOutline f.side f.points f.counts built f.level
  near =
      subst (λ l. tile-drawn.DrawnOutline f.side f.points f.counts l f.level) (built_table_lem f written blank blank-length building)
      ((faithful f.side f.points f.counts (used_table f blank)).drawn building f.level shallow)

  first_length : length first ≡ summary_length
  first_length = summary_length_lem (edge_count f.counts) (get_or built 0 (pos 0))

  greys_room : 2 ^ f.level * 2 ^ f.level ≤ length (frame_greys f)
  greys_room = omega (arith, all_drawn.rows, ap length greys_are)

  module _ (cx cy : ℕ) (x_below : cx < 2 ^ f.level) (y_below : cy < 2 ^ f.level) where
    abbrev cell_grey : ℕ
    cell_grey = get_or (frame_greys f) (picture_index f.level cx cy) 0

    grey_small : cell_grey < 16 ^ grey_width
    grey_small =
        omega (
          arith,
          ap (λ l. get_or l (picture_index f.level cx cy) 0) greys_are,
          grey_in_picture f.side f.level built cx cy x_below y_below (zeros (picture_size f.level)) drawn-size,
          grey_byte f.side (figure_in built f.level cx cy) 1,
        )

    digits_are : take grey_width (drop (digits_at f.level cx cy) (first ++ rows)) ≡ hex grey_width cell_grey
    digits_are =
        let place = cy * (2 * 2 ^ f.level + 1) + 2 * cx in
        let n : summary_length + place ≡ length first + place = omega (arith, first_length) in
        ap (λ i. take 2 (drop i (first ++ rows))) n
        ∙ ap (take 2) (drop-append-add first rows place)
        ∙ picture-digits (2 ^ f.level) cx cy (frame_greys f) x_below y_below greys_room

    grey_is : printed_grey (first ++ rows) f.level cx cy ≡ cell_grey
    grey_is = ap hex_value digits_are ∙ value_hex grey_width cell_grey grey_small

    grey-near : OneApart (printed_grey (first ++ rows) f.level cx cy)
        (grey f.side (exact_figure_num f.side f.points f.counts f.level cx cy) (exact_denominator f.points f.counts))
    grey-near =
        subst⁻¹ (λ g. OneApart g (grey f.side (exact_figure_num f.side f.points f.counts f.level cx cy) (exact_denominator f.points f.counts)))
        (grey_is ∙ sym (ap (λ l. get_or l (picture_index f.level cx cy) 0) greys_are))
        ((near.each_cell cx cy x_below y_below).greys (zeros (picture_size f.level)) (zeros-length (picture_size f.level) ∙ all_drawn.places))

  row_ends : (cy : ℕ) → cy < 2 ^ f.level → get_or (first ++ rows) (digits_at f.level (2 ^ f.level) cy) 0 ≡ newline
  row_ends cy h =
      let place = cy * (2 * 2 ^ f.level + 1) + 2 * 2 ^ f.level in
      let n : summary_length + place ≡ length first + place = omega (arith, first_length) in
      ap (λ i. get_or (first ++ rows) i 0) n ∙ get_or-append-add first rows place 0 ∙ picture_end (2 ^ f.level) cy (frame_greys f) h greys_room

  pub printed : Printed f (output_text t)
  printed =
      subst⁻¹ (Printed f) output
      (record {
        first_line_lem = take_at first rows summary_length first_length ∙ ap (summary_text (edge_count f.counts)) near.root_entry;
        greys = grey-near;
        denominator-positive = (faithful f.side f.points f.counts (used_table f blank)).denominator-positive;
        digits = λ cx cy h k. digits_are cx cy h k ∙ ap (hex grey_width) (sym (grey_is cx cy h k));
        ends = row_ends;
        size =
            length-append first rows
            ∙ omega (arith, first_length, rows_text_length (2 ^ f.level) (2 ^ f.level) (frame_greys f) greys_room);
      })

pub answered : (t : List ℕ) {r : Answer} → r ≡ answer_of (output_text t) → Answered t r
answered t e =
    let out = answer_printed (output_text t) e in
    record {
      drawn = λ done. subst⁻¹ (Printed (frame_of t)) out (printed t done);
      refused = λ n. out ∙ if_refused (drawn_text (frame_of t)) (refusal_text (frame_refusal t)) n;
    }
