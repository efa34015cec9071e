-- A number held between two bounds. The edge integrals hold how far x lies past a cell's side to the cell's width; greys are held to a byte.
--
-- Main results (the laws among them are in proofs/Theorems/Clamp.antt)
--   clamp_low, clamp_high                           it lies between its bounds
--   clamp-below, clamp-inside, clamp-above          its three cases; `clamped` as one view, for the bounds 0 and m
--   clamp-mono, clamp_moves                         it rises with v, and moves by no more than v does
--   clamp_parts, clamp-halves, clamp_tiles          of a width in two parts, two halves or m equal parts: what is held to each of them, added up
--   clamp_scale                                     a factor that is not negative comes out
--   clamp-step-inside, clamp-step_outside           as v moves up by one, it moves by one from 0 up to m, and elsewhere not at all
use Rattle.std.specs.Prelude.{◌≡◌, ℤ, pos, ◌≤ℤ◌}
use Rattle.integers.specs.MinMax.{min, max}

unfoldable pub clamp : ℤ → ℤ → ℤ → ℤ
clamp v lo hi = max lo (min v hi)

-- c is v held between 0 and m
pub data Clamped (m v c : ℤ) : Type 0 where
  below : v ≤ℤ pos 0 → c ≡ pos 0 → Clamped m v c
  inside : pos 0 ≤ℤ v → v ≤ℤ m → c ≡ v → Clamped m v c
  above : m ≤ℤ v → c ≡ m → Clamped m v c
