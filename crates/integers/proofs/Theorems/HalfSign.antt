-- Laws of what specs/HalfSign.antt defines. The head of that file lists the main results.
use Rattle.std.specs.Prelude.{◌≡◌, refl, ◌⊎◌, ℕ, zero, suc, ◌<◌, pos, negsuc}
use Rattle.std.proofs.Common.{inl, inr, arith}
use Rattle.integers.specs.HalfSign.{half_sign}

pub half_sign_cases : (b : ℕ) → b < 2 → (half_sign b ≡ pos 1) ⊎ (half_sign b ≡ negsuc 0)
half_sign_cases zero h = inl refl
half_sign_cases (suc zero) h = inr refl
half_sign_cases (suc (suc b)) h = absurd (omega arith)
