-- One direction of a walk across a cell, by its three numbers: what is formed of equal ones is equal.
--
-- Main results
--   strip_across, middle_across          the steps between the sides, and the one at which a middle is crossed
--   reach_across, past_across            the width in its scale, and how far past the side
--   closed_across                        cuts between the sides
--   lies_between                         half of the width is from 0 to the width
use Rattle.std.specs.Prelude.{◌≡◌, [], ◌∷◌, ℤ, pos, ◌+ℤ◌, ◌*ℤ◌, ◌≤ℤ◌}
use Rattle.integers.proofs.Theorems.Linear.{le, eq, ◌&◌, linear, lin≤}
use Rattle.std.proofs.Common.{◌∙◌, ap, ap₂}
use Rattle.std.proofs.Math.Path.{subst⁻¹}
use Rattle.edge.specs.declared.Axis.{Axis}
use Rattle.edge.specs.declared.Samples.{Samples}
use Rattle.edge.specs.Cuts.{strip_of, to_middle}
use Rattle.edge.specs.Code.{beyond_at, SamplesClosed}

module _ {a a' : Axis} {p p' w w' : ℤ} (is : (a ≡ a') × (p ≡ p') × (w ≡ w')) where
  pub strip_across : {n n' : ℤ} → n ≡ n' → strip_of a p w n ≡ strip_of a' p' w' n'
  strip_across {n} {n'} k = ap₂ (λ x y. strip_of x y w n) is.0 is.1 ∙ ap₂ (strip_of a' p') is.2 k

  pub middle_across : {h h' : ℤ} → h ≡ h' → to_middle a p h ≡ to_middle a' p' h'
  middle_across {h} {h'} k = ap₂ (λ x y. to_middle x y h) is.0 is.1 ∙ ap (to_middle a' p') k

  pub reach_across : a.scale *ℤ w ≡ a'.scale *ℤ w'
  reach_across = ap₂ (λ (x : Axis) y. x.scale *ℤ y) is.0 is.2

  pub past_across : (k : Samples) → beyond_at a p k ≡ beyond_at a' p' k
  past_across k = ap₂ (λ x y. beyond_at x y k) is.0 is.1

  pub closed_across : {k : Samples} → SamplesClosed a' p' w' k → SamplesClosed a p w k
  closed_across {k} s =
      subst⁻¹ (λ z. SamplesClosed z p w k) is.0 (subst⁻¹ (λ z. SamplesClosed a' z w k) is.1 (subst⁻¹ (λ z. SamplesClosed a' p' z k) is.2 s))

-- half of the width lies between the sides
pub lies_between : {half h w v : ℤ} → h ≡ half → v ≡ w → w ≡ half +ℤ half → pos 0 ≤ℤ half → (pos 0 ≤ℤ h) × (h ≤ℤ v)
lies_between {half} {h} {w} {v} e i even k = (
  lin≤ (half ∷ h ∷ []) (eq e & le k) (search linear depth 40) tt,
  lin≤ (half ∷ h ∷ w ∷ v ∷ []) (eq e & eq i & eq even & le k) (search linear depth 40) tt,
)
