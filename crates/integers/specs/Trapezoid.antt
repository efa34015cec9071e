-- The trapezoid sum S(f, g) = Σ_{t<n} (f(t) + f(t+1)) × (g(t+1) − g(t)): twice the integral of f dg, exactly, where f and g are linear between
-- whole t. It is bilinear, and Green's theorem is its product rule.
--
-- Main results (the laws among them are in proofs/Theorems/Trapezoid.antt)
--   S-zero, S-suc                                one step at a time
--   S_cong                                       functions that agree up to n have the same sum
--   S_addˡ, S_scaleˡ, S_addʳ, S_scaleʳ           linear in f and in g
--   S_sumˡ, S_sumʳ                               a sum of m functions, for f or for g
--   S-product                                    the product rule: S(f, g) + S(g, f) = 2 (f g at n − f g at 0)
--   S-split                                      the first p steps, and the rest
--   S-affine, S-piece                            a range where f and g are affine is one step from end to end
--   affine_of_step                               a function that moves by the same at each step is affine
--   S_zeroˡ, S_constʳ                            f is 0, or g does not move: nothing is summed
use Rattle.std.specs.Prelude.{◌≡◌, ℕ, suc, ◌≤◌, ℤ, pos, ◌+ℤ◌, ◌-ℤ◌, ◌*ℤ◌}
use Rattle.integers.specs.RangeSum.{Σ<}

-- one step's part
abbrev pub trapezoid : (ℕ → ℤ) → (ℕ → ℤ) → ℕ → ℤ
trapezoid f g t = (f t +ℤ f (suc t)) *ℤ (g (suc t) -ℤ g t)

unfoldable pub S : (ℕ → ℤ) → (ℕ → ℤ) → ℕ → ℤ
S f g n = Σ< n (trapezoid f g)

-- f starts at x and moves by a at each of n steps
pub record Affine (f : ℕ → ℤ) (x a : ℤ) (n : ℕ) : Type 0 where
  pub at : (t : ℕ) → t ≤ n → f t ≡ x +ℤ pos t *ℤ a
