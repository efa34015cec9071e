-- Back it is in the second half first.
use Rattle.std.proofs.Common.{◌≡◌, refl, [], ◌∷◌, ℕ, ◌-◌, ℤ, pos, negsuc, ◌≤ℤ◌, ◌<ℤ◌}
use Rattle.std.proofs.Math.Facts.{sfits_lit}
use Rattle.integers.proofs.Theorems.Order.{nonneg}
use Rattle.integers.proofs.Theorems.Linear.{le, lt, ◌&◌, linear, lin⊥}
use Rattle.integers.proofs.Theorems.Machine.{tests}
use Rattle.slanted.specs.Parts.{half_on}
use Rattle.rasterize.proofs.cells.half_on.Goals as goal

back : {s : ℤ} (k : ℕ) → s <ℤ pos 0 → 1 - k ≡ half_on s k
unfolding half_on
back {s = negsuc s} k h = refl
back {s = pos s} k h = absurd (lin⊥ (pos s ∷ []) (lt h & le (nonneg s)) (search linear depth 40) tt)

onward : {s : ℤ} (k : ℕ) → pos 0 ≤ℤ s → k ≡ half_on s k
unfolding half_on
onward {s = pos s} k h = refl
onward {s = negsuc s} k h = absurd h.le

pub returns-then-sign-lt0 : goal.returns-then-sign-lt0
returns-then-sign-lt0 c = back c.args.k (search (tests, sfits_lit))

pub returns-else-sign-lt0 : goal.returns-else-sign-lt0
returns-else-sign-lt0 c = onward c.args.k (search (tests, sfits_lit))
