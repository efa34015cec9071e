-- The order of ℤ: the laws of `◌≤ℤ◌` and `◌<ℤ◌` of `lib.Signed`, by way of "a ≤ b exactly where b = a + n for a natural n".
--
-- Main results (the laws among them are in proofs/Theorems/Order.antt)
--   ≤ℤ-gap, gap-≤ℤ                          a ≤ b is b = a + n
--   add_one_≤ℤ, <ℤ_of_add_one_≤ℤ            a < b is a + 1 ≤ b
--   ≤ℤ_trans, ≤ℤ_antisym, ≤ℤ_or_<ℤ          a linear order
--   ≤ℤ_of_≡, ≤ℤ_of_<ℤ                       weaker than an equation, weaker than <
--   ≤ℤ-add, ≤ℤ-neg, ≤ℤ_scale                with sums, negation and multiples
--   ≤ℤ-mul, ≤ℤ-mul-nonneg, ≤ℤ-square        products: what `Linear` is handed as facts, since it takes each product for an unknown
--   pos-≤ℤ, ≤_of_pos, nonneg, positive      with the order of ℕ
--   le_z-true .. lt_z-false                 what a test that computes says of its two numbers
-- Of < nothing more is needed: it is a + 1 ≤ b to `Linear`. `lib.Signed` has `<ℤ-≤ℤ_trans` and `<ℤ_irrefl`.
use Rattle.std.specs.Prelude.{◌≡◌, ℕ, ℤ, pos, ◌+ℤ◌}

-- ---- a ≤ b is b = a + n
abbrev pub Gap : ℤ → ℤ → Type 0
Gap a b = (n : ℕ) × (b ≡ a +ℤ pos n)
