-- Laws of what specs/Bits.antt defines. The head of that file lists the main results.
use Rattle.std.specs.Prelude.{◌≡◌, [], ◌∷◌, ℕ, ◌<◌, ◌^◌, T, leb, ℤ, pos}
use Rattle.std.proofs.Common.{sym, ◌∙◌, ap, leb→le, SFits, to_z, of_z, to_z-of_z}
use Rattle.std.proofs.Math.Path.{subst⁻¹}
use Rattle.std.specs.Int.Signed.{mag}
use Rattle.std.specs.Int.{w64}
use Rattle.integers.proofs.Theorems.Order.{pos-≤ℤ}
use Rattle.integers.proofs.Theorems.Linear.{le, ◌&◌}
use Rattle.integers.specs.Within.{Within}
use Rattle.integers.proofs.Theorems.Within.{bounds}
use Rattle.integers.proofs.Theorems.Machine.{machine, linfits}
use Rattle.integers.specs.Bits.{greatest}

-- `b` is a closed number, so the test computes: `fits_within tt`
pub fits_within : {b : ℕ} {z : ℤ} → T (leb b greatest) → Within (pos b) z → SFits w64 z
fits_within {b} {z} t w = linfits (z ∷ pos b ∷ []) (bounds w & le (pos-≤ℤ (leb→le b greatest t))) (search machine depth 40) (tt, tt)

pub back_is : {b : ℕ} {z : ℤ} → T (leb b greatest) → Within (pos b) z → to_z w64 (of_z w64 z) ≡ z
back_is t w = to_z-of_z (fits_within t w)

pub within_back : {b z : ℤ} → SFits w64 z → Within b z → Within b (to_z w64 (of_z w64 z))
within_back {b} f w = subst⁻¹ (Within b) (to_z-of_z f) w

-- what a call answers fits 64 bits
pub result_is : {z v : ℤ} → mag z < 2 ^ 63 → z ≡ v → to_z w64 (of_z w64 z) ≡ v
result_is k e = to_z-of_z {w = w64} (record { sfits = k }) ∙ e

-- and so does what a field holds
pub field_is : (z : ℤ) → mag z < 2 ^ 63 → to_z w64 (of_z w64 z) ≡ z
field_is z k = to_z-of_z {w = w64} (record { sfits = k })

pub same_bits : {y z : ℤ} → SFits w64 y → SFits w64 z → of_z w64 y ≡ of_z w64 z → y ≡ z
same_bits f g e = sym (to_z-of_z f) ∙ ap (to_z w64) e ∙ to_z-of_z g
