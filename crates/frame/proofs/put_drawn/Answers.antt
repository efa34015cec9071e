-- The summary over the start of zeros, and the rows after it.
use mathlib.Core.Path.{◌≡◌, refl, sym, ◌∙◌, ap, ap₂}
use mathlib.Core.List.{List, ◌++◌}
use Prim.Native.Nat.{ℕ, ◌+◌, ◌*◌, ◌-◌, ◌≤◌}
use native.Mathlib.Nat.{mul-le-mul}
use native.Mathlib.Omega.{arith}
use lib.IntN.{ℤ}
use lib.ListN.{length, take, drop, length-append}
use mir.Syntax.{w64}
use mir.Val.{SFits, to_z, of_z}
use mir.Facts.{to_z-of_z}
use borrow.Rule.Slice.PartMut.{put_mid}
use Rattle.frame_text.specs.Over.{over}
use Rattle.frame_text.specs.OutputLines.{summary_text, rows_text}
use Rattle.frame_text.proofs.Laws.Over.{written, written_length}
use Rattle.frame_text.proofs.Laws.Printing.{summary_length_lem, rows_text_length}
use Rattle.frame_text.proofs.Laws.Parts.{part_over, part_length}
use Rattle.frame.specs.declared.Answer.{Answer}
use Rattle.frame.specs.Output.{zeros}
use Rattle.frame.specs.Inner.{blank}
use Rattle.frame.proofs.Laws.Output.{zeros-length}
use Rattle.frame.proofs.put_drawn.Goals as goal

-- 64 rows of 129 bytes are the most
rows-room : (across : ℕ) → across ≤ 64 → across * (2 * across + 1) ≤ 8256
rows-room across h = omega (arith, mul-le-mul {n₁ = across} {m₁ = 2 * across + 1} {n₂ = 64} {m₂ = 129} h (omega arith))

abbrev answer : List ℕ → ℕ → Answer
answer bytes len = record { bytes = bytes; len = len }

-- Over n zeros, n being a variable so that nothing computes them. In the code n is 8,277, the longest answer, of which the summary takes 21 bytes and
-- leaves 8,256.
module _ (n edges : ℕ) (root : ℤ) (old head : List ℕ) (long : 21 ≤ n) (z : length old ≡ n) (h : head ≡ over (summary_text edges root) old) where
  head-length : length head ≡ n
  head-length = written_length 0 (summary_text edges root) old h (omega (arith, summary_length_lem edges root, z)) ∙ z

  part_room : (k : ℕ) → k ≡ n - 21 → length (take k (drop 21 head)) ≡ n - 21
  part_room k e = let m : k ≡ length head - 21 = omega (arith, head-length) in ap (λ i. length (take i (drop 21 head))) m ∙ part_length 21 head ∙ omega (arith, head-length)

  all-written : (k : ℕ) → k ≡ n - 21 → (text rows : List ℕ) → rows ≡ over text (take k (drop 21 head))
      → put_mid 21 k head rows ≡ over (summary_text edges root ++ text) old
  all-written k e text rows r =
      let m : k ≡ length head - 21 = omega (arith, head-length) in
      let next : 21 ≡ 0 + length (summary_text edges root) = omega (arith, summary_length_lem edges root) in
      ap (λ i. put_mid 21 i head rows) m
      ∙ part_over 21 head text (r ∙ ap (λ i. over text (take i (drop 21 head))) m)
      ∙ written 0 (summary_text edges root) text old h (omega arith) next

-- the root as it was given, over the bytes of a blank answer
root-back : (edges : ℕ) {root : ℤ} → SFits w64 root → {a : Answer} → a ≡ blank
    → over (summary_text edges (to_z w64 (of_z w64 root))) a.bytes ≡ over (summary_text edges root) (zeros 8277)
root-back edges r e = ap₂ (λ z a. over (summary_text edges z) a.bytes) (to_z-of_z r) e

pub put_rows-requires : goal.put_rows-requires
put_rows-requires c =
    let s = c.args in
    let room = part_room 8277 s.edges s.root (zeros 8277) c.put_summary.new.out (omega arith) (zeros-length 8277) (c.put_summary.ensures ∙ root-back s.edges c.ranges.root c.requires.0) 8256 refl in
    (c.requires.1, c.requires.2, omega (arith, room, rows-room s.across c.requires.1))

pub returns : goal.returns
returns c =
    let s = c.args in
    let rows = rows_text s.across s.across s.greys.now in
    ap₂ answer
    (all-written 8277 s.edges s.root (zeros 8277) c.put_summary.new.out (omega arith) (zeros-length 8277) (c.put_summary.ensures ∙ root-back s.edges c.ranges.root c.requires.0) 8256 refl rows
    c.put_rows.new.out c.put_rows.ensures)
    (sym
    (length-append (summary_text s.edges s.root) rows
    ∙ omega (arith, summary_length_lem s.edges s.root, rows_text_length s.across s.across s.greys.now c.requires.2)))
