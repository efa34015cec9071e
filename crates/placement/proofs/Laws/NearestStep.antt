-- Half a step added and the machine's arithmetic shift: k parts to the nearest step, halves towards the larger.
--
-- Definitions
--   half                          half a step, in parts
-- Main results
--   shifted                       the shift of a number of parts and a half step is `nearest`
use Rattle.std.specs.Prelude.{◌≡◌, ◌/◌, [], ◌∷◌, ℤ, pos, negsuc, ◌+ℤ◌, FitsSigned, refl}
use Rattle.std.proofs.Common.{ap, ◌∙◌, lt_of_le_of_lt, lit<, to_z, of_z, to_z-of_z}
use Rattle.std.specs.Int.Signed.{mag_shr, shr_z}
use Rattle.std.specs.Int.{w64}
use Rattle.integers.specs.Units.{parts_per_step}
use Rattle.integers.proofs.Theorems.Linear.{le, lt, linear, lin≤, lin<}
use Rattle.integers.specs.Rounding.{floor}
use Rattle.integers.proofs.Theorems.RoundHalfUp.{floor_low, floor_high, round_half_up_of_bounds}
use Rattle.placement.specs.Parts.{nearest}

abbrev pub half : ℤ
half = pos (parts_per_step / 2)

shr_floor : (z : ℤ) → shr_z z parts_per_step ≡ floor z parts_per_step
unfolding floor
shr_floor (pos n) = refl
shr_floor (negsuc n) = refl

shr_nearest : (k : ℤ) → shr_z (k +ℤ half) parts_per_step ≡ nearest k
shr_nearest k =
    let z = k +ℤ half in
    let q = floor z parts_per_step in
    shr_floor z ∙ round_half_up_of_bounds {n = k} {d = parts_per_step} {q = q} (lit< tt) (record {
      over = lin≤ (k ∷ q ∷ []) (le (floor_low z {d = parts_per_step} (lit< tt))) (search linear depth 40) tt;
      under = lin< (k ∷ q ∷ []) (lt (floor_high z {d = parts_per_step} (lit< tt))) (search linear depth 40) tt;
    })

-- ---- at 64 bits: z is what the code has added up, and it fits
pub shifted : {z : ℤ} (k : ℤ) → FitsSigned w64 z → z ≡ k +ℤ half → to_z w64 (of_z w64 (shr_z (to_z w64 (of_z w64 z)) parts_per_step)) ≡ nearest k
shifted {z} k f e =
    ap (λ (z : ℤ). to_z w64 (of_z w64 (shr_z z parts_per_step))) (to_z-of_z f)
    ∙ to_z-of_z {w = w64} (record { sfits = lt_of_le_of_lt (mag_shr z parts_per_step) f.sfits })
    ∙ ap (λ (z : ℤ). shr_z z parts_per_step) e
    ∙ shr_nearest k
