-- The next row, and what is left after it.
use Rattle.std.proofs.Common.{◌≡◌, ℕ, suc, ◌+◌, ◌-◌, ◌*◌, ◌<◌, ◌≤◌, List, ◌++◌, length, take, drop, sym, ap, ◌∙◌, suc-mul, mul-add, arith, length-drop, drop-drop}
use Rattle.frame_text.specs.Over.{over}
use Rattle.frame_text.specs.Lines.{line_text}
use Rattle.frame_text.specs.OutputLines.{grey_width, rows_text}
use Rattle.frame_text.proofs.Laws.Over.{over_at, written, written_length, over_end}
use Rattle.frame_text.proofs.Laws.Printing.{rows_next, row-length}
use Rattle.frame_text.proofs.Laws.Parts.{part_over}
use Rattle.frame_text.proofs.printing.put_rows.Invariants.{RowsLeft}
use Rattle.frame_text.proofs.printing.put_rows.Goals as goal

module _ {across : ℕ} {out₀ picture out : List ℕ} {at from y : ℕ} (r : RowsLeft across out₀ picture out at from y) (h : y < across) where
  one_more : across - y ≡ suc (across - (y + 1))
  one_more = omega arith

  row_room : at + (2 * across + 1) + (across - (y + 1)) * (2 * across + 1) ≤ length out
  row_room = omega (arith, r.room, ap (λ k. k * (2 * across + 1)) one_more, suc-mul (across - (y + 1)) (2 * across + 1))

  row-greys : from + across + (across - (y + 1)) * across ≤ length picture
  row-greys = omega (arith, r.greys, ap (λ k. k * across) one_more, suc-mul (across - (y + 1)) across)

  abbrev row : List ℕ
  row = take across (drop from picture)

  rows_step : {out' : List ℕ} → out' ≡ over_at at (line_text grey_width row) out → RowsLeft across out₀ picture out' (at + (2 * across + 1)) (from + across) (y + 1)
  rows_step e =
      let n = row-length across (drop from picture) (omega (arith, row-greys, length-drop from picture)) in
      let l = written_length at (line_text grey_width row) out e (omega (arith, n, row_room)) in
      record {
        same_length = l ∙ r.same_length;
        room = omega (arith, row_room, l);
        greys = row-greys;
        left =
            written at (line_text grey_width row) (rows_text across (across - (y + 1)) (drop (from + across) picture)) out e (omega (arith, row_room))
            (ap (λ k. at + k) (sym n))
            ∙ ap (λ t. over_at at t out)
            (ap (λ t. line_text grey_width row ++ rows_text across (across - (y + 1)) t) (sym (drop-drop across from picture))
            ∙ sym (rows_next across (across - (y + 1)) (drop from picture))
            ∙ ap (λ k. rows_text across k (drop from picture)) (sym one_more))
            ∙ r.left;
      }

pub loop-y-preserved : goal.loop-y-preserved
loop-y-preserved c =
    let l = c.loop-y in
    let across = c.args.across in
    let at = (2 * across + 1) * l.y in
    let from = across * l.y in
    let greys = drop from c.args.picture.now in
    let e : from + across - from ≡ across = omega arith in
    let i : at + (2 * across + 1) ≡ (2 * across + 1) * (l.y + 1) = omega (arith, mul-add (2 * across + 1) l.y 1) in
    let j : from + across ≡ across * (l.y + 1) = omega (arith, mul-add across l.y 1) in
    rw (← i, ← j)
    (rows_step l.invariant c.loop-y-test.true
    (part_over at l.out (line_text grey_width (take across greys))
    (c.put_row.ensures ∙ ap (λ k. over (line_text grey_width (take k greys)) (take (length l.out - at) (drop at l.out))) e)))

pub returns : goal.returns
unfolding rows_text
returns c =
    let l = c.loop-y in
    let a = c.args.across in
    let at = (2 * a + 1) * l.y in
    let none : a - l.y ≡ 0 = omega arith in
    sym (over_end at l.out) ∙ sym (ap (λ k. over_at at (rows_text a k (drop (a * l.y) c.args.picture.now)) l.out) none) ∙ l.invariant.left
