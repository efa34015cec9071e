-- Writing over a list, piece by piece.
--
-- Main results
--   over_at at new old         the old list with the new one written over it from a place on
--   over-piece                 a piece is written from the place on: the rest goes after it
--   written, written_length    the same of a list that a function left
--   set-over, over_entry       one entry
--   over_end                   nothing is left
--   over-length                the list keeps its length
--   over-front, over-room      what was written stands at the start
use Rattle.std.specs.Prelude.{◌≡◌, ℕ, ◌+◌, ◌<◌, ◌≤◌, List, [], ◌∷◌, ◌++◌, length, take, drop, slice_set, refl}
use Rattle.std.proofs.Math.Path.{sym, ap, ap₂}
use Rattle.std.proofs.Common.{◌∙◌, add-one, arith, length-drop, take-append-drop, drop-drop, length-take-le}
use mathlib.Core.List.{append_assoc}
use Rattle.std.proofs.Math.ListN.{length-append}
use Rattle.std.proofs.Math.Seq.{take_at, drop_at}
use Rattle.std.proofs.lemmas.List.{set_split}
use Rattle.frame_text.specs.Over.{over}

abbrev pub over_at : {A : Type 0} → ℕ → List A → List A → List A
over_at at new old = take at old ++ over new (drop at old)

module _ {A : Type 0} where
  pub over-length : (new old : List A) → length new ≤ length old → length (over new old) ≡ length old
  over-length new old h = length-append new (drop (length new) old) ∙ omega (arith, length-drop (length new) old)

  -- what was written, and that it is no longer than the list
  pub over-front : (new old : List A) {n : ℕ} {l : List A} → n ≡ length new → l ≡ over new old → take n l ≡ new
  over-front new old e w = ap₂ take e w ∙ take_at new (drop (length new) old) (length new) refl

  pub over-room : (new old : List A) {n : ℕ} {l : List A} → n ≡ length new → l ≡ over new old → n ≤ length l
  over-room new old e w = omega (arith, ap length w, length-append new (drop (length new) old))

  pub over_end : (at : ℕ) (old : List A) → over_at at [] old ≡ old
  over_end at old = take-append-drop at old

  -- the list with a piece written at a place, read from there and from after the piece
  module _ (at : ℕ) (piece old : List A) (h : at ≤ length old) where
    front : List A
    front = take at old ++ piece

    front_length : length front ≡ at + length piece
    unfolding front
    front_length = length-append (take at old) piece ∙ ap (λ n. n + length piece) (length-take-le at old h)

    whole : over_at at piece old ≡ front ++ drop (at + length piece) old
    unfolding front
    whole = ap (λ l. take at old ++ (piece ++ l)) (drop-drop (length piece) at old) ∙ sym (append_assoc (take at old) piece (drop (at + length piece) old))

  pub over-piece : (at : ℕ) (piece rest old : List A) → at ≤ length old
      → over_at (at + length piece) rest (over_at at piece old) ≡ over_at at (piece ++ rest) old
  unfolding front
  over-piece at piece rest old h =
      let w = whole at piece old h in
      let f = front_length at piece old h in
      let t : take (at + length piece) (over_at at piece old) ≡ front at piece old h = ap (take (at + length piece)) w ∙ take_at (front at piece old h) (drop (at + length piece) old) (at + length piece) f in
      let d : drop (at + length piece) (over_at at piece old) ≡ drop (at + length piece) old = ap (drop (at + length piece)) w ∙ drop_at (front at piece old h) (drop (at + length piece) old) (at + length piece) f in
      let n : at + length piece + length rest ≡ at + length (piece ++ rest) = omega (arith, length-append piece rest) in
      ap₂ (λ a b. a ++ (rest ++ drop (length rest) b)) t d
      ∙ ap (λ l. front at piece old h ++ (rest ++ l)) (drop-drop (length rest) (at + length piece) old ∙ ap (λ k. drop k old) n ∙ sym (drop-drop (length (piece ++ rest)) at old))
      ∙ append_assoc (take at old) piece (rest ++ drop (length (piece ++ rest)) (drop at old))
      ∙ ap (λ l. take at old ++ l) (sym (append_assoc piece rest (drop (length (piece ++ rest)) (drop at old))))

  pub written : (at : ℕ) (piece rest old : List A) {next : ℕ} {new : List A} → new ≡ over_at at piece old → at ≤ length old → next ≡ at + length piece
      → over_at next rest new ≡ over_at at (piece ++ rest) old
  written at piece rest old e h n = ap₂ (λ k l. over_at k rest l) n e ∙ over-piece at piece rest old h

  pub written_length : (at : ℕ) (piece old : List A) {new : List A} → new ≡ over_at at piece old → at + length piece ≤ length old → length new ≡ length old
  written_length at piece old e h =
      ap length e ∙ length-append (take at old) (over piece (drop at old))
      ∙ omega (arith, length-take-le at old (omega arith), over-length piece (drop at old) (omega (arith, length-drop at old)), length-drop at old)

  pub set-over : (at : ℕ) (a : A) (old : List A) → at < length old → slice_set old at a ≡ over_at at (a ∷ []) old
  set-over at a old h =
      set_split old at a h ∙ ap (λ k. take at old ++ (a ∷ drop k old)) (sym (add-one at)) ∙ ap (λ l. take at old ++ (a ∷ l)) (sym (drop-drop 1 at old))

  pub over_entry : (at : ℕ) (a : A) (rest old : List A) → at < length old → over_at (at + 1) rest (slice_set old at a) ≡ over_at at (a ∷ rest) old
  over_entry at a rest old h = ap (over_at (at + 1) rest) (set-over at a old h) ∙ over-piece at (a ∷ []) rest old (omega arith)
