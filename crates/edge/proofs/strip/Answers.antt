-- The steps of one direction between two lines, by the sign of its walk.
use Rattle.std.proofs.Common.{refl, pos, ◌≤ℤ◌, ◌<ℤ◌, sym, ◌∙◌, inl, inr, to_z-of_z}
use Rattle.std.proofs.Math.Facts.{sfits_lit}
use Rattle.integers.proofs.Theorems.Machine.{tests}
use Rattle.integers.proofs.Theorems.Held.{held_number, held-neg, held_back}
use Rattle.edge.proofs.Lemmas.Records.{span-eq}
use Rattle.edge.proofs.Signs.{strip_forward, strip_backward, strip-between, strip_outside}
use Rattle.edge.proofs.strip.Goals as goal
use Rattle.edge.proofs.strip.Goals.{else-lower-lt0-via-then-lower-lt0+else-upper-gt0, else-lower-lt0-via-else-lower-lt0}

pub returns-then-s-gt0 : goal.returns-then-s-gt0
returns-then-s-gt0 c =
    let a = c.args in
    let i = c.ranges.s in
    let k : pos 0 <ℤ a.s = search (tests, sfits_lit) in
    span-eq (to_z-of_z c.ranges.lower) (to_z-of_z c.ranges.upper) ∙ sym (strip_forward a.s a.lower a.upper a.n k)

pub returns-then-s-lt0 : goal.returns-then-s-lt0
returns-then-s-lt0 c =
    let a = c.args in
    let p = c.requires in
    let i = c.ranges.s in
    let k : a.s <ℤ pos 0 = search (tests, sfits_lit) in
    span-eq (held_back tt (held-neg (held_number tt p.1))).is (held_back tt (held-neg (held_number tt p.0))).is ∙ sym (strip_backward a.s a.lower a.upper a.n k)

pub returns-then-upper-gt0 : goal.returns-then-upper-gt0
returns-then-upper-gt0 c =
    let a = c.args in
    let i = c.ranges.s in
    let j = c.ranges.lower in
    let g = c.ranges.upper in
    let k : a.s ≤ℤ pos 0 = search (tests, sfits_lit) in
    let l : pos 0 ≤ℤ a.s = search (tests, sfits_lit) in
    let o : a.lower <ℤ pos 0 = search (tests, sfits_lit) in
    let p : pos 0 <ℤ a.upper = search (tests, sfits_lit) in
    span-eq refl (to_z-of_z c.ranges.n) ∙ sym (strip-between a.n k l o p)

pub returns-else-lower-lt0 : goal.returns-else-lower-lt0
returns-else-lower-lt0 c =
    let a = c.args in
    let i = c.ranges.s in
    let j = c.ranges.lower in
    let g = c.ranges.upper in
    let k : a.s ≤ℤ pos 0 = search (tests, sfits_lit) in
    let l : pos 0 ≤ℤ a.s = search (tests, sfits_lit) in
    span-eq (to_z-of_z c.ranges.n) refl
    ∙ elim c.else-lower-lt0.branch [
      | else-lower-lt0-via-then-lower-lt0+else-upper-gt0 w ↦ (let o : a.upper ≤ℤ pos 0 = search (tests, sfits_lit) in sym (strip_outside a.n k l (inr o)))
      | else-lower-lt0-via-else-lower-lt0 w ↦ (let o : pos 0 ≤ℤ a.lower = search (tests, sfits_lit) in sym (strip_outside a.n k l (inl o)))
    ]
