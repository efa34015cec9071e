-- Tests, which code answers with true or false, and what each says: it is true exactly where a proposition holds. The questions of 01 and 02 are tests.
--
-- Definitions
--   every test l, one_of n l                         the test holds of every element; n is an element
--   between low high z                               z is from low to high
--   OneOf n l                                        n is an element, as a proposition
-- Main results (the laws among them are in proofs/Theorems/Tests.antt)
--   eqb_means, leb_means, ltb_means, le_z_means      equality and order
--   and_means, and_true_means, every_means           both; of every element
--   between_means, within_means                      from low to high; from −b to b
--   one_of_means                                     n is an element of l
--   no_means                                         false exactly where the proposition does not hold
--   same_means                                       two tests of one proposition are the same
--   within_neg_same                                  −z is from −b to b exactly where z is
use Rattle.std.specs.Prelude.{◌≡◌, List, [], ◌∷◌, ◌⊎◌, Bool, true, false, ◌&&◌, ◌||◌, ℕ, eqb, ℤ}
use Rattle.std.specs.Int.Signed.{le_z}

abbrev pub every : {A : Type 0} → (A → Bool) → List A → Bool
every test [] = true
every test (a ∷ l) = test a && every test l

abbrev pub one_of : ℕ → List ℕ → Bool
one_of n [] = false
one_of n (m ∷ l) = eqb n m || one_of n l

abbrev pub between : ℤ → ℤ → ℤ → Bool
between low high z = le_z low z && le_z z high

-- n is an element of l
abbrev pub OneOf : ℕ → List ℕ → Type 0
OneOf n [] = ⊥
OneOf n (m ∷ l) = (n ≡ m) ⊎ OneOf n l
