-- The greys, or their refusal.
use Rattle.std.proofs.Common.{◌≡◌, List, ◌++◌, ℕ, ◌*◌, ◌^◌, ◌≤◌, ℤ, pos, length, get_or, take, drop, sym, ◌∙◌, ap, ap₂, arith, rules, length-append}
use lib.Seq.{take_at}
use Rattle.std.proofs.lemmas.Result.{err_from_is_err_and}
use Rattle.integers.proofs.Theorems.Bits.{field_is}
use Rattle.tile.specs.declared.refusal.Refusal.{Refusal}
use Rattle.tile.specs.Answers.{number_of}
use Rattle.tile.specs.Outcomes.{draw_refusal, greys_picture}
use Rattle.tile.proofs.Laws.IfDone.{if_done_lem, refused_keeps}
use Rattle.frame_text.specs.OutputLines.{refusal_text, rows_text, summary_text}
use Rattle.frame.specs.Output.{zeros, answer_of}
use Rattle.frame.specs.Inner.{picture_size, draw_number, greys_drawn, picture_text, table_text}
use Rattle.frame.proofs.Laws.Output.{picture-size-le, zeros-length, take-zeros, Drawn, drawn}
use Rattle.frame.proofs.draw_table.Goals as goal

-- the picture has as many places as the level's
module _ (side level edges : ℕ) (table : List ℤ) {places : ℕ} (p : places ≡ picture_size level) where
  places-le : places ≤ 4096
  places-le = omega (arith, p, picture-size-le level)

  part_is : take places (zeros 4096) ≡ zeros (picture_size level)
  part_is = take-zeros places 4096 places-le ∙ ap zeros p

  number_is : {n : ℕ} → n ≡ draw_refusal side level table (length (take places (zeros 4096))) → n ≡ draw_number side level table
  number_is e = e ∙ ap (λ l. draw_refusal side level table (length l)) part_is ∙ ap (draw_refusal side level table) (zeros-length (picture_size level))

  refusal_said : (r : Refusal) → number_of r ≡ draw_refusal side level table (length (take places (zeros 4096)))
      → answer_of (refusal_text (number_of r)) ≡ answer_of (table_text side level edges table)
  refusal_said r e = ap answer_of (ap refusal_text (number_is e) ∙ refused_keeps _ _ r (number_is e))

  -- the greys are drawn
  module _ (z : 0 ≡ draw_refusal side level table (length (take places (zeros 4096)))) where
    done : draw_number side level table ≡ 0
    done = sym (number_is z)

    all_drawn : Drawn side level table
    all_drawn = drawn side level table done

    module _ {left : List ℕ} (l : left ≡ greys_picture side level table (take places (zeros 4096))) where
      left_is : left ≡ greys_drawn side level table
      left_is = l ∙ ap (greys_picture side level table) part_is

      left-length : length left ≡ places
      left-length = ap length left_is ∙ all_drawn.greys_length ∙ sym all_drawn.places ∙ sym p

      picture-is : take places (left ++ drop places (zeros 4096)) ≡ greys_drawn side level table
      picture-is = take_at left (drop places (zeros 4096)) places left-length ∙ left_is

      picture-length : length (take places (left ++ drop places (zeros 4096))) ≡ places
      picture-length = ap length picture-is ∙ sym (ap length left_is) ∙ left-length

pub slice_bounds-picture-end : goal.slice_bounds-picture-end
slice_bounds-picture-end c = places-le c.args.side c.args.level c.args.edges c.args.table.now c.picture_size-places.ensures

pub slice_bounds-greys-end : goal.slice_bounds-greys-end
slice_bounds-greys-end c =
    let n = c.picture_size-places.result in
    sym (ap length (take-zeros n 4096 (places-le c.args.side c.args.level c.args.edges c.args.table.now c.picture_size-places.ensures)) ∙ zeros-length n)

pub returns-in_err-greys-clause-value : goal.returns-in_err-greys-clause-value
returns-in_err-greys-clause-value c =
    let a = c.args in
    let e = refusal_said a.side a.level a.edges a.table.now c.picture_size-places.ensures _ c.in_err-greys.ensures.value in
    let p = err_from_is_err_and c.from_residual.result c.from_residual.ensures.1 in
    rw (p.1, p.2) e

pub bounds-table-0 : goal.bounds-table-0
bounds-table-0 c = (all_drawn c.args.side c.args.level c.args.edges c.args.table.now c.picture_size-places.ensures c.in_ok-greys.ensures.value).has-root

pub slice_bounds-picture-end-2 : goal.slice_bounds-picture-end-2
slice_bounds-picture-end-2 c =
    let a = c.args in
    omega (
      arith,
      length-append c.greys.new.picture (drop c.picture_size-places.result (zeros 4096)),
      left-length a.side a.level a.edges a.table.now c.picture_size-places.ensures c.in_ok-greys.ensures.value c.greys.ensures.picture_after,
    )

pub slice_bounds-put_drawn-end : goal.slice_bounds-put_drawn-end
slice_bounds-put_drawn-end c =
    let a = c.args in
    sym (picture-length a.side a.level a.edges a.table.now c.picture_size-places.ensures c.in_ok-greys.ensures.value c.greys.ensures.picture_after)

pub cells_across-across-requires : goal.cells_across-across-requires
cells_across-across-requires c = (all_drawn c.args.side c.args.level c.args.edges c.args.table.now c.picture_size-places.ensures c.in_ok-greys.ensures.value).level_le

pub put_drawn-requires : goal.put_drawn-requires
put_drawn-requires c =
    let a = c.args in
    let d = all_drawn a.side a.level a.edges a.table.now c.picture_size-places.ensures c.in_ok-greys.ensures.value in
    let e = picture-is a.side a.level a.edges a.table.now c.picture_size-places.ensures c.in_ok-greys.ensures.value c.greys.ensures.picture_after in
    let n = c.cells_across-across.ensures in
    (c.requires, omega (arith, n, d.across-le), omega (arith, ap₂ ◌*◌ n n ∙ d.rows ∙ sym (ap length e)))

pub returns-clause-value : goal.returns-clause-value
returns-clause-value c =
    let a = c.args in
    let places = c.picture_size-places.result in
    let left = c.greys.new.picture in
    let z = c.in_ok-greys.ensures.value in
    let e = picture-is a.side a.level a.edges a.table.now c.picture_size-places.ensures z c.greys.ensures.picture_after in
    let n = c.cells_across-across.ensures in
    c.put_drawn.ensures
    ∙ ap answer_of
    (ap₂ (λ text k. text ++ rows_text k k (take places (left ++ drop places (zeros 4096))))
    (ap (summary_text a.edges) (field_is _ (search rules))) n
    ∙ ap (λ l. summary_text a.edges (get_or a.table.now 0 (pos 0)) ++ rows_text (2 ^ a.level) (2 ^ a.level) l) e
    ∙ sym (if_done_lem (picture_text a.side a.level a.edges a.table.now) (refusal_text (draw_number a.side a.level a.table.now)) (done a.side a.level a.edges a.table.now c.picture_size-places.ensures z)))
