-- Sums of fractions over a list, with no fraction type. The sum of f(a) / N(a) is `numer N f l` over `common N l`, the product of the denominators.
-- That denominator does not depend on f, so an equation of sums of fractions is one of their numerators.
--
-- Main results (the laws among them are in proofs/Theorems/Fraction.antt)
--   common-pos, common_append, common_perm      the common denominator: positive, of two lists the product, the same in any order
--   numer_cong, numer-add, numer_scale          linear in f
--   numer_whole                                 whole numbers add up as whole numbers
--   numer_append, numer_perm                    of two lists one after the other; the same in any order
--   common-map, numer-map                       of a list in which each element was made of another
use Rattle.std.specs.Prelude.{ℤ}
use mathlib.Core.List.{List, [], ◌∷◌}
use Prim.Native.Nat.{ℕ, ◌*◌}
use Rattle.std.proofs.Math.IntN.{pos, ◌+ℤ◌, ◌*ℤ◌}

unfoldable pub common : {A : Type 0} → (A → ℕ) → List A → ℕ
common N [] = 1
common N (a ∷ l) = N a * common N l

unfoldable pub numer : {A : Type 0} → (A → ℕ) → (A → ℤ) → List A → ℤ
numer N f [] = pos 0
numer N f (a ∷ l) = f a *ℤ pos (common N l) +ℤ pos (N a) *ℤ numer N f l
