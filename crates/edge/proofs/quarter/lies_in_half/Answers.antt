-- The comparison is that of the two magnitudes.
use Rattle.std.proofs.Common.{[], ◌∷◌, ℤ, ◌≤ℤ◌, ap₂}
use Rattle.std.specs.Int.Signed.{le_z}
use Rattle.std.proofs.Math.Path.{subst⁻¹}
use Rattle.integers.proofs.Theorems.Order.{le_z-true, le_z-false}
use Rattle.integers.proofs.Theorems.Linear.{le, lt, ◌&◌, linear, lin⊥}
use Rattle.integers.specs.Magnitude.{abs}
use Rattle.edge.specs.WalkOf.{Decides}
use Rattle.edge.proofs.Sizes.{magnitude}
use Rattle.edge.proofs.quarter.lies_in_half.Goals as goal

decides : (a b : ℤ) → Decides (le_z a b) (a ≤ℤ b)
decides a b = record { yes = le_z-true; no = λ e h. lin⊥ (a ∷ b ∷ []) (lt (le_z-false {a = a} {b = b} e) & le h) (search linear depth 40) tt }

pub returns : goal.returns
returns c =
    let p = c.requires in
    subst⁻¹ (λ b. Decides b (abs c.args.run ≤ℤ abs c.args.before))
    (ap₂ le_z (magnitude p.0 c.abs.type_inv c.abs.ensures.value).is (magnitude p.1 c.abs-2.type_inv c.abs-2.ensures.value).is)
    (decides (abs c.args.run) (abs c.args.before))
