-- A test that holds of every number below k, computed once, holds of each.
--
-- Main results (the laws among them are in proofs/Theorems/Below.antt)
--   all_below test k              the test holds of every number below k
--   below                         and so of each of them: `below test k refl n h`
--   both                          two tests that hold together hold each
use Rattle.std.specs.Prelude.{Bool, true, ◌&&◌, ℕ, zero, suc}

unfoldable pub all_below : (ℕ → Bool) → ℕ → Bool
all_below test zero = true
all_below test (suc k) = test k && all_below test k
