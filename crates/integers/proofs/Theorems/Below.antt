-- Laws of what specs/Below.antt defines. The head of that file lists the main results.
use Rattle.std.specs.Prelude.{◌≡◌, Bool, true, false, ◌&&◌, ℕ, zero, suc, ◌<◌}
use Rattle.std.proofs.Common.{sym, true≢false, arith}
use Rattle.std.proofs.Math.Path.{subst⁻¹}
use Rattle.std.proofs.Math.Decide.{dec_lt}
use Rattle.integers.specs.Below.{all_below}

pub both : (a b : Bool) → (a && b) ≡ true → (a ≡ true) × (b ≡ true)
both true true e = (e, e)
both true false e = absurd (true≢false (sym e))
both false b e = absurd (true≢false (sym e))

pub below : (test : ℕ → Bool) (k : ℕ) → all_below test k ≡ true → (n : ℕ) → n < k → test n ≡ true
unfolding all_below
below test zero t n h = absurd (omega arith)
below test (suc k) t n h =
    let b = both (test k) (all_below test k) t in
    elim (dec_lt n k) [ yes p ↦ below test k b.1 n p | no p ↦ (let e : n ≡ k = omega arith in subst⁻¹ (λ m. test m ≡ true) e b.0) ]
