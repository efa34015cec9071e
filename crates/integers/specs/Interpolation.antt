-- On a step of at most one, clamp and tent are linear: they have corners at whole numbers alone, and none lies inside the step.
--
-- Main results (the laws among them are in proofs/Theorems/Interpolation.antt)
--   clamp_interpolates, tent_interpolates      at r of k equal parts of a step, k times the value lies r / k of the way from one end's to the other's
use Rattle.std.specs.Prelude.{◌≡◌, ℕ, ℤ, pos, ◌+ℤ◌, ◌-ℤ◌, ◌*ℤ◌}

-- f, which counts k times as finely as F, at r of the k parts of the way from v to v + s: k times F, interpolated linearly
abbrev pub Interpolates : (ℤ → ℤ) → (ℤ → ℤ) → ℤ → ℤ → ℕ → ℕ → Type 0
Interpolates f F v s k r = f (pos k *ℤ v +ℤ s *ℤ pos r) ≡ pos k *ℤ F v +ℤ pos r *ℤ (F (v +ℤ s) -ℤ F v)
