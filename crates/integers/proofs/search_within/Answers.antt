-- The place in a pair, or in what is left after the pairs, counted from where that stands.
use Rattle.std.proofs.Common.{sym, ◌∙◌, ap, ap₂, is_none, length, drop, take, ◌+◌, ◌*◌, ◌/◌, ◌&&◌, List, [], ◌++◌, ℤ, ℕ, ◌≡◌, Option, Some, None, Bool, to_z-of_z, SFits, w64, arith, take-add}
use Rattle.std.specs.Option.{option_map}
use Rattle.integers.specs.Bits.{back}
use Rattle.integers.specs.Tests.{every, between}
use Rattle.integers.specs.Search.{first_failing, looked_at, looked_of}
use Rattle.integers.proofs.Theorems.Every.{every_append}
use Rattle.integers.proofs.Theorems.Search.{answer_says, first_answers, first_after, first_here, part_is}
use Rattle.integers.proofs.search_within.Invariants.{turn}
use Rattle.integers.proofs.search_within.Goals as goal

-- the bounds as they are held
abbrev held : ℤ → ℤ → ℤ → Bool
held low high = between (back low) (back high)

-- what the function answers, by the bounds as they are held
module _ (low high : ℤ) (l : List ℤ) where
  abbrev Answers : Option ℕ → Type 0
  Answers r = record {
    first_value : r ≡ first_failing (between low high) l;
    within_value : is_none r ≡ every (between low high) l;
    looked_value : looked_of (length l) r ≡ looked_at (between low high) l;
  }

  answers : SFits w64 low → SFits w64 high → (r : Option ℕ) → r ≡ first_failing (held low high) l → Answers r
  answers f g r e = answer_says (between low high) l r (e ∙ ap₂ (λ low high. first_failing (between low high) l) (to_z-of_z f) (to_z-of_z g))

pub returns-in-Some : goal.returns-in-Some
returns-in-Some c =
    let l = c.args.numbers.now in
    let k = c.loop-k.k in
    let test = held c.args.low c.args.high in
    let part = part_is turn (length l / turn) k l [] (omega arith) in
    let pair : first_failing test (take turn (drop (turn * k) l)) ≡ Some c.in-Some.j = cc in
    let place = first_after test (turn * k) l c.loop-k.invariant ∙ ap (option_map (λ j. turn * k + j)) (first_here test turn (drop (turn * k) l) c.in-Some.j pair) in
    answers _ _ l c.ranges.low c.ranges.high _ (ap Some {y = turn * k + c.in-Some.j} (omega arith) ∙ sym place)

pub loop-k-preserved : goal.loop-k-preserved
loop-k-preserved c =
    let l = c.args.numbers.now in
    let k = c.loop-k.k in
    let test = held c.args.low c.args.high in
    let part = part_is turn (length l / turn) k l [] (omega arith) in
    let pair : first_failing test (take turn (drop (turn * k) l)) ≡ None = cc in
    let more : take (turn * (k + 1)) l ≡ take (turn * k) l ++ take turn (drop (turn * k) l) = ap (λ n. take n l) {x = turn * (k + 1)} (omega arith) ∙ take-add (turn * k) turn l in
    ap (every test) more
    ∙ every_append test (take (turn * k) l) (take turn (drop (turn * k) l))
    ∙ ap₂ ◌&&◌ c.loop-k.invariant (sym (first_answers test (take turn (drop (turn * k) l))) ∙ ap is_none pair)

pub returns-in-Some-first_outside : goal.returns-in-Some-first_outside
returns-in-Some-first_outside c =
    let l = c.args.numbers.now in
    let k = length c.as_chunks.result.0.now in
    let test = held c.args.low c.args.high in
    let pairs = ap (λ k. every test (take (turn * k) l)) {x = k} {y = c.loop-k.k} (omega arith) ∙ c.loop-k.invariant in
    let last : first_failing test (drop (turn * k) l) ≡ Some c.in-Some-first_outside.j = cc (ap (λ n. drop n l) {x = turn * k} {y = length l / turn * turn} (omega arith)) in
    let place = first_after test (turn * k) l pairs ∙ ap (option_map (λ j. turn * k + j)) last in
    answers _ _ l c.ranges.low c.ranges.high _ (ap Some {y = turn * k + c.in-Some-first_outside.j} (omega arith) ∙ sym place)

pub returns-in-None : goal.returns-in-None
returns-in-None c =
    let l = c.args.numbers.now in
    let k = length c.as_chunks.result.0.now in
    let test = held c.args.low c.args.high in
    let pairs = ap (λ k. every test (take (turn * k) l)) {x = k} {y = c.loop-k.k} (omega arith) ∙ c.loop-k.invariant in
    let last : first_failing test (drop (turn * k) l) ≡ None = cc (ap (λ n. drop n l) {x = turn * k} {y = length l / turn * turn} (omega arith)) in
    let place = first_after test (turn * k) l pairs ∙ ap (option_map (λ j. turn * k + j)) last in
    answers _ _ l c.ranges.low c.ranges.high _ (sym place)
