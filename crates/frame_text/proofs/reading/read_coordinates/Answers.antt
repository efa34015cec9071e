-- The next four digits, and the number that is written.
use Rattle.std.proofs.Common.{◌≡◌, ℕ, ◌+◌, ◌<◌, List, ◌++◌, length, slice_set, ℤ, pos, sym, ap, ◌∙◌, arith, length-append, w64}
use Rattle.std.proofs.lemmas.Int.{to_z_pos}
use Rattle.std.proofs.lemmas.List.{set-get_or}
use Rattle.frame_text.specs.Digits.{hex_value}
use Rattle.frame_text.specs.Over.{over}
use Rattle.frame_text.specs.Reading.{coordinates}
use Rattle.frame_text.proofs.Laws.Over.{over_at, over_entry, over_end}
use Rattle.frame_text.proofs.Laws.Reading.{coordinates_four, coordinates_none}
use Rattle.frame_text.proofs.reading.read_coordinates.Invariants.{NumbersLeft}
use Rattle.frame_text.proofs.reading.read_coordinates.Goals as goal

next : {line : List ℕ} {points₀ points : List ℤ} {rest after : List ℕ} {size size' n : ℕ} (r : NumbersLeft line points₀ points rest size n) (x : List ℕ) (value : ℤ)
    → rest ≡ x ++ after → length x ≡ size → size' ≡ size → value ≡ pos (hex_value x) → n < length points
    → NumbersLeft line points₀ (slice_set points n value) after size' (n + 1)
next {points = points} {after = after} {n = n} r x value e k s v h = record {
  fours = s ∙ r.fours;
  all_bytes = omega (arith, r.all_bytes, ap length e, length-append x after, k, r.fours);
  left =
      ap (λ z. over_at (n + 1) (coordinates after) (slice_set points n z)) v
      ∙ over_entry n (pos (hex_value x)) (coordinates after) points h
      ∙ ap (λ ns. over_at n ns points) (sym (ap coordinates e ∙ coordinates_four x after (k ∙ r.fours)))
      ∙ r.left;
}

-- less than a number is left
whole : {line : List ℕ} {points₀ points : List ℤ} {rest : List ℕ} {size n : ℕ} (r : NumbersLeft line points₀ points rest size n) → length rest < 4
    → points ≡ over (coordinates line) points₀
whole {points = points} {rest = rest} {n = n} r h = sym (over_end n points) ∙ sym (ap (λ ns. over_at n ns points) (coordinates_none rest h)) ∙ r.left

pub loop-point-preserved : goal.loop-point-preserved
loop-point-preserved c =
    let s = c.in-Some.ensures.steps in
    next c.loop-point.invariant c.in-Some.digits.now _ s.1.0 s.1.1 s.0 (to_z_pos w64 _ (omega arith) ∙ ap pos c.value_of.ensures) (omega arith)

pub returns-after-loop-point : goal.returns-after-loop-point
returns-after-loop-point c =
    let r = c.loop-point.invariant in
    whole r (omega (arith, r.all_bytes, c.requires))

pub returns-in_default : goal.returns-in_default
returns-in_default c =
    let r = c.loop-point.invariant in
    set-get_or c.loop-point.point-items c.loop-point.point-index (pos 0) ∙ whole r (omega (arith, c.in_default.ensures.steps, r.fours))
