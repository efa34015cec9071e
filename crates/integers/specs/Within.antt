-- −b ≤ x ≤ b, as two inequalities, and how such bounds add up. Proofs carry bounds in this form; |x| ≤ b stands in final statements alone.
--
-- Main results (the laws among them are in proofs/Theorems/Within.antt)
--   within_add, within_sub, within_neg, within_mul, within_scale     bounds of sums, differences, products, multiples
--   within_le, within_is, within_self, within_zero                   a larger bound, an equal one, a number's own, any bound of 0
--   within_sign                                                      of a number times 1 or −1
--   within_of_abs, abs_of_within, scaled-abs_of_within               the same as |x| ≤ b, or k |x| ≤ b
--   within_of_nat_abs, nat_abs_of_within                             the same as |x| ≤ b, of natural numbers
--   within_abs                                                       of two numbers within b of each other, the magnitudes are so too
--   zero_of_within                                                   within 0 is 0
--   bounds                                                           as facts for `lin≤`
use Rattle.std.specs.Prelude.{ℤ, neg_ℤ, ◌≤ℤ◌}

pub record Within (b x : ℤ) : Type 0 where
  pub low : neg_ℤ b ≤ℤ x
  pub high : x ≤ℤ b
