-- Question 11; and then what the frame says is read and drawn.
use Rattle.std.proofs.Common.{◌≡◌, true, false, cond, List, ℕ, ◌*◌, ◌≤◌, ℤ, pos, length, take, drop, replicate, sym, ◌∙◌, ap, ap₂, arith, length-drop}
use Rattle.accuracy.specs.Outline.{edge_count}
use Rattle.frame_text.specs.declared.reading.Size.{Size}
use Rattle.tile.specs.Outcomes.{if_done}
use Rattle.frame_text.specs.Over.{over}
use Rattle.frame_text.specs.Frames.{Frame, frame}
use Rattle.frame_text.specs.Reading.{is_frame, frame_of}
use Rattle.frame_text.specs.OutputLines.{refusal_text}
use Rattle.frame_text.specs.Inner.{is_body, body_coordinates, body_counts, size_of, Readable}
use Rattle.frame_text.proofs.Laws.Over.{over-front}
use Rattle.frame_text.proofs.Laws.Reading.{framed, frame_is}
use Rattle.frame_text.proofs.Laws.WrittenRead.{read_writable}
use Rattle.frame_text.proofs.Laws.Parts.{part_is}
use Rattle.frame.specs.Output.{frame_refusal, frame_table, drawn_text, answer_of}
use Rattle.frame.specs.Inner.{outline_refusal, frame_output, frame_table_after}
use Rattle.frame.proofs.draw_text.Goals as goal

module _ (text : List ℕ) (is : is_frame text ≡ true) where
  abbrev body : List ℕ
  body = drop 5 text

  long : 5 ≤ length text
  long = (framed text is).long

  -- room for 4,096 coordinates and 1,820 contours, as a text of the limit asks for
  readable : {part : List ℕ} → part ≡ body → Readable part 4096 1820
  readable e =
      let n = ap length e ∙ length-drop 5 text in
      let short = (framed text is).short in
      record {
        formed = ap is_body e ∙ (framed text is).body;
        short = omega arith;
        for_points = omega arith;
        for_counts = omega arith;
      }

  -- what is read of the part after the first line
  frame_read : {part : List ℕ} → part ≡ body → {size : Size} {points : List ℤ} {counts : List ℕ} → size ≡ size_of part
      → points ≡ over (body_coordinates part) (replicate 4096 (pos 0)) → counts ≡ over (body_counts part) (replicate 1820 0)
      → {side level : ℕ} → side ≡ (frame_of text).side → level ≡ (frame_of text).level
      → frame side level (take size.coordinates points) (take size.contours counts) ≡ frame_of text
  frame_read {part} part_is {size} {points} {counts} size_is points_left counts_left {side} {level} side_is level_is =
      let s = size_is ∙ ap size_of part_is in
      let p = points_left ∙ ap (λ b. over (body_coordinates b) (replicate 4096 (pos 0))) part_is in
      let c = counts_left ∙ ap (λ b. over (body_counts b) (replicate 1820 0)) part_is in
      ap₂ (frame side level) (over-front (body_coordinates body) (replicate 4096 (pos 0)) (ap (λ z. z.coordinates) s) p)
      (over-front (body_counts body) (replicate 1820 0) (ap (λ z. z.contours) s) c)
      ∙ frame_is text is side level side_is level_is

  writable : {f : Frame} → f ≡ frame_of text → length f.points ≡ 2 * edge_count f.counts
  writable e = ap (λ g. length g.points) e ∙ (read_writable text is).all_points ∙ sym (ap (λ g. 2 * edge_count g.counts) e)

  -- a text that passes question 11: the others decide
  number_is : frame_refusal text ≡ outline_refusal (frame_of text)
  number_is = ap (λ b. cond b (outline_refusal (frame_of text)) 11) is

-- a text that does not pass it
refused_number : (text : List ℕ) → is_frame text ≡ false → frame_refusal text ≡ 11
refused_number text e = ap (λ b. cond b (outline_refusal (frame_of text)) 11) e

pub returns-then-not-is_frame-clause-value : goal.returns-then-not-is_frame-clause-value
returns-then-not-is_frame-clause-value c =
    let t = c.args.text.now in
    ap answer_of
    (sym (ap (λ k. if_done k (drawn_text (frame_of t)) (refusal_text k)) (refused_number t (sym c.is_frame.ensures ∙ c.if-not-is_frame.true))))

pub returns-then-not-is_frame-clause-table_after : goal.returns-then-not-is_frame-clause-table_after
returns-then-not-is_frame-clause-table_after c =
    let t = c.args.text.now in
    sym
    (ap (λ k. if_done k (over (frame_table (frame_of t)) c.args.table.now) c.args.table.now) (refused_number t (sym c.is_frame.ensures ∙ c.if-not-is_frame.true)))

pub slice_bounds-read_contours-count : goal.slice_bounds-read_contours-count
slice_bounds-read_contours-count c = long c.args.text.now (sym c.is_frame.ensures ∙ c.if-not-is_frame.false)

pub slice_bounds-read_contours-start : goal.slice_bounds-read_contours-start
slice_bounds-read_contours-start c = long c.args.text.now (sym c.is_frame.ensures ∙ c.if-not-is_frame.false)

pub read_contours-size-requires : goal.read_contours-size-requires
read_contours-size-requires c = readable c.args.text.now (sym c.is_frame.ensures ∙ c.if-not-is_frame.false) (part_is 5 c.args.text.now)

pub draw_frame-requires : goal.draw_frame-requires
draw_frame-requires c =
    let t = c.args.text.now in
    let is = sym c.is_frame.ensures ∙ c.if-not-is_frame.false in
    let r = c.read_contours-size.ensures in
    (c.requires, writable t is (frame_read t is (part_is 5 t) r.value r.points_after r.counts_after c.side_of.ensures c.level_of.ensures))

pub returns-clause-value : goal.returns-clause-value
returns-clause-value c =
    let t = c.args.text.now in
    let is = sym c.is_frame.ensures ∙ c.if-not-is_frame.false in
    let r = c.read_contours-size.ensures in
    let f = frame_read t is (part_is 5 t) r.value r.points_after r.counts_after c.side_of.ensures c.level_of.ensures in
    c.draw_frame.ensures.value ∙ ap (λ g. answer_of (frame_output g)) f
    ∙ sym (ap (λ k. answer_of (if_done k (drawn_text (frame_of t)) (refusal_text k))) (number_is t is))

pub returns-clause-table_after : goal.returns-clause-table_after
returns-clause-table_after c =
    let t = c.args.text.now in
    let is = sym c.is_frame.ensures ∙ c.if-not-is_frame.false in
    let r = c.read_contours-size.ensures in
    let f = frame_read t is (part_is 5 t) r.value r.points_after r.counts_after c.side_of.ensures c.level_of.ensures in
    c.draw_frame.ensures.table_after ∙ ap (λ g. frame_table_after g c.args.table.now) f
    ∙ sym (ap (λ k. if_done k (over (frame_table (frame_of t)) c.args.table.now) c.args.table.now) (number_is t is))
