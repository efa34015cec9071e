-- Up to the greatest side, the numbers with one bit are the sides: one computed test of each number. Above it there is no side.
use Rattle.std.proofs.Common.{◌≡◌, ℕ, suc, ◌<◌, ◌≤◌, Bool, true, false, not, cond, eqb, refl, sym, ◌∙◌, arith}
use native.Mathlib.Decide.{dec_lt}
use lib.Count.{ones, ones_in}
use borrow.Author.Tests.{le-leb, lt-leb, eq-eqb, ne_eqb}
use Rattle.integers.specs.Units.{greatest_side}
use Rattle.integers.specs.Below.{all_below}
use Rattle.integers.proofs.Theorems.Below.{below}
use Rattle.tile.specs.Questions.{question1}
use Rattle.tile.proofs.Laws.Sides.{side_le}
use Rattle.tile.proofs.is_side.Goals as goal

-- one bit exactly where the answer is yes
agrees : ℕ → Bool
agrees n = cond (eqb (ones n) 1) (question1 n).answer (not (question1 n).answer)

all-agree : all_below agrees (suc greatest_side) ≡ true
unfolding all_below agrees ones ones_in
all-agree = refl

same : (a b : Bool) → cond a b (not b) ≡ true → a ≡ b
same true b e = sym e
same false true e = e
same false false e = refl

side-one-bit : (side : ℕ) → side ≤ greatest_side → eqb (ones side) 1 ≡ (question1 side).answer
unfolding agrees
side-one-bit side h = same (eqb (ones side) 1) (question1 side).answer (below agrees (suc greatest_side) all-agree side (omega arith))

no-side : (side : ℕ) → greatest_side < side → (question1 side).answer ≡ false
no-side side h = go (question1 side).answer refl
  where
    go : (b : Bool) → (question1 side).answer ≡ b → b ≡ false
    go true e = let k = side_le side e in absurd (omega arith)
    go false e = refl

pub returns-then-side-eq1 : goal.returns-then-side-eq1
returns-then-side-eq1 c =
    let side = c.args.side in
    elim (dec_lt greatest_side side) [
      | yes p ↦ lt-leb side greatest_side p ∙ sym (no-side side p)
      | no p ↦
          (let h : side ≤ greatest_side = omega arith in
          le-leb side greatest_side h ∙ sym (eq-eqb (ones side) 1 c.if-side-eq1.true) ∙ side-one-bit side h)
    ]

pub returns-else-side-eq1 : goal.returns-else-side-eq1
returns-else-side-eq1 c =
    let side = c.args.side in
    elim (dec_lt greatest_side side) [
      | yes p ↦ ne_eqb (ones side) 1 c.if-side-eq1.false ∙ sym (no-side side p)
      | no p ↦ side-one-bit side (omega arith)
    ]
