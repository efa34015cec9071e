-- The edge count, the root, and the end of the line.
use Rattle.std.proofs.Common.{◌≡◌, ℕ, ◌+◌, ◌-◌, ◌≤◌, List, [], ◌∷◌, ◌++◌, length, take, drop, set, ℤ, pos, negsuc, w64, refl, sym, ap, ◌∙◌, arith, to_z-of_z}
use Rattle.std.specs.Int.{cast_unsigned}
use borrow.Rule.Slice.PartMut.{put_mid}
use Rattle.frame_text.specs.Over.{over}
use Rattle.frame_text.specs.Digits.{hex, twos_complement}
use Rattle.frame_text.specs.Lines.{newline}
use Rattle.frame_text.specs.OutputLines.{summary_text}
use Rattle.frame_text.proofs.Laws.Digits.{hex-length}
use Rattle.frame_text.proofs.Laws.Over.{over_at, written, written_length, over_entry, over_end}
use Rattle.frame_text.proofs.Laws.Parts.{part_over}
use Rattle.frame_text.proofs.printing.put_summary.Goals as goal

summary-written : (edges : ℕ) (root : ℤ) (out counted part : List ℕ) → 21 ≤ length out → counted ≡ over (hex 4 edges) out
    → part ≡ over (hex 16 (twos_complement root)) (take (length counted - 4) (drop 4 counted))
    → set (put_mid 4 (length counted - 4) counted part) 20 newline ≡ over (summary_text edges root) out
summary-written edges root out counted part h e d =
    let bits = hex 16 (twos_complement root) in
    let both = put_mid 4 (length counted - 4) counted part in
    let four : 4 ≡ 0 + length (hex 4 edges) = omega (arith, hex-length 4 edges) in
    let twenty : 20 ≡ 4 + length bits = omega (arith, hex-length 16 (twos_complement root)) in
    let counted-length : length counted ≡ length out = written_length 0 (hex 4 edges) out e (omega arith) in
    let is : both ≡ over_at 4 bits counted = part_over 4 counted bits d in
    let both-length : length both ≡ length out = written_length 4 bits counted is (omega arith) ∙ counted-length in
    sym (over_end 21 (set both 20 newline))
    ∙ over_entry 20 newline [] both (omega arith)
    ∙ written 4 bits (newline ∷ []) counted is (omega arith) twenty
    ∙ written 0 (hex 4 edges) (bits ++ (newline ∷ [])) out e (omega arith) four

bits_are : (z : ℤ) → cast_unsigned w64 z ≡ twos_complement z
unfolding twos_complement
bits_are (pos n) = refl
bits_are (negsuc n) = refl

pub returns : goal.returns
returns c =
    let counted = c.put_hex.new.out in
    summary-written c.args.edges c.args.root c.args.out.now counted c.put_hex-2.new.out c.requires c.put_hex.ensures
    (c.put_hex-2.ensures ∙ ap (λ v. over (hex 16 v) (take (length counted - 4) (drop 4 counted)))
    (c.cast_unsigned.ensures ∙ bits_are _ ∙ ap twos_complement (to_z-of_z c.ranges.root)))
