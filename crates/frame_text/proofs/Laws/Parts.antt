-- A part of a slice, from a place to its end, was lent to a function that wrote over its start.
--
-- Main results
--   part_is, part_length         the part is what stands from the place on
--   part_over                    afterwards the slice has the piece from the place on
use Rattle.std.specs.Prelude.{◌≡◌, ℕ, ◌-◌, List, [], ◌++◌, length, take, drop}
use Rattle.std.proofs.Common.{◌∙◌, ap, append-nil, arith, length-drop, drop_of_length-le, take_all}
use borrow.Rule.Slice.PartMut.{put_mid}
use Rattle.frame_text.specs.Over.{over}
use Rattle.frame_text.proofs.Laws.Over.{over_at}

module _ {A : Type 0} (at : ℕ) (old : List A) where
  pub part_is : take (length old - at) (drop at old) ≡ drop at old
  part_is = take_all (length old - at) (drop at old) (omega (arith, length-drop at old))

  pub part_length : length (take (length old - at) (drop at old)) ≡ length old - at
  part_length = ap length part_is ∙ length-drop at old

  pub part_over : (piece : List A) {part : List A} → part ≡ over piece (take (length old - at) (drop at old))
      → put_mid at (length old - at) old part ≡ over_at at piece old
  part_over piece {part} e =
      let nothing : drop (length old - at) (drop at old) ≡ [] = drop_of_length-le (drop at old) {i = length old - at} (omega (arith, length-drop at old)) in
      ap (λ l. take at old ++ (part ++ l)) nothing ∙ ap (λ l. take at old ++ l) (append-nil part ∙ e ∙ ap (over piece) part_is)
