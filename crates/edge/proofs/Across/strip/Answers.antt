-- The steps of a direction between its two sides.
use Rattle.std.proofs.Common.{◌≡◌, [], ℤ, ◌∙◌, ap₂, to_z-of_z, rules, SFits, w64}
use Rattle.integers.proofs.Theorems.Linear.{none!, linear, lin≤}
use Rattle.integers.proofs.Theorems.Within.{within_le}
use Rattle.integers.proofs.Theorems.Held.{held_fits, held_back, held_within}
use Rattle.edge.specs.Cuts.{strip}
use Rattle.edge.proofs.AxisNumbers.{sign-held, side_held, sum-held}
use Rattle.edge.proofs.Across.strip.Goals as goal
use Rattle.edge.proofs.Across.strip.Goals.{Start}

pub overflow_mul-lower : goal.overflow_mul-lower
overflow_mul-lower c = held_fits tt (side_held c.args.self.room)

width_fits : (c : Start) → SFits w64 c.args.self.width
width_fits c = search rules

pub overflow_add-lower : goal.overflow_add-lower
overflow_add-lower c = held_fits tt (sum-held c.args.self.room (width_fits (goal.at.overflow_add-lower c).Start))

pub strip-requires : goal.strip-requires
strip-requires c =
    let r = c.args.self.room in (
      within_le (lin≤ [] none! (search linear depth 40) tt) (held_within (held_back tt (side_held r))),
      within_le (lin≤ [] none! (search linear depth 40) tt) (held_within (held_back tt (sum-held r (width_fits (goal.at.strip-requires c).Start)))),
    )

strip-eq : {s s' p p' q q' n n' : ℤ} → s ≡ s' → p ≡ p' → q ≡ q' → n ≡ n' → strip s p q n ≡ strip s' p' q' n'
strip-eq {s} {s'} {p} {p'} {q} {q'} {n} {n'} i j k l = ap₂ (λ x y. strip x y q n) i j ∙ ap₂ (strip s' p') k l

pub returns : goal.returns
returns c =
    let r = c.args.self.room in
    c.strip.ensures ∙ strip-eq (sign-held r).is (held_back tt (side_held r)).is (held_back tt (sum-held r (width_fits (goal.at.returns c).Start))).is (to_z-of_z c.ranges.n)
