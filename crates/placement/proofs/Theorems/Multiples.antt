-- What `is_multiple` says, and what it and the rounding answer for single numbers.
--
-- Main results
--   multiple_means               the test says what the words say
--   multiple_parts               and parts_of is the number of parts
use Rattle.std.specs.Prelude.{◌≡◌, ℕ, ◌+◌, ◌*◌, ◌/◌, true, false, ◌↔◌, pos, negsuc, neg_ℤ, refl, Float}
use Rattle.std.specs.Float.{nan, inf, fin, binary64}
use Rattle.std.specs.Float.Ieee.{of_int, of_bits}
use Rattle.integers.specs.Units.{parts_per_step, factor_limit, offset_limit}
use Rattle.integers.specs.Rounding.{floor, round_half_up}
use Rattle.placement.specs.Parts.{parts_of, is_multiple, Multiple, nearest}
use Rattle.placement.proofs.Laws.PartsOf.{multiple_value, multiple_bound, value_multiple}

pub multiple_means : (limit : ℕ) (x : Float) → (is_multiple limit x ≡ true) ↔ Multiple limit x
multiple_means limit x =
    (λ t. record { parts = parts_of x; value = multiple_value limit x t; bound = multiple_bound limit x t }, λ m. (value_multiple limit x m.parts m.value m.bound).0)

pub multiple_parts : (limit : ℕ) (x : Float) (m : Multiple limit x) → parts_of x ≡ m.parts
multiple_parts limit x m = (value_multiple limit x m.parts m.value m.bound).1

-- ---- multiples, by computing
minus_zero : is_multiple factor_limit (fin true 0 (pos 0)) ≡ true
unfolding is_multiple
minus_zero = refl

one_part : is_multiple factor_limit (fin false 1 (negsuc 15)) ≡ true
unfolding is_multiple
one_part = refl

-- the limits themselves, 2 and −16,384
greatest_factor : is_multiple factor_limit (of_int binary64 (pos factor_limit)) ≡ true
unfolding is_multiple of_int
greatest_factor = refl

least_offset : is_multiple offset_limit (of_int binary64 (neg_ℤ (pos offset_limit))) ≡ true
unfolding is_multiple of_int
least_offset = refl

-- ---- not multiples
-- one part past the limits; a part is 2^-16
past-greatest_factor : is_multiple factor_limit (fin false (factor_limit * parts_per_step + 1) (negsuc 15)) ≡ false
unfolding is_multiple
past-greatest_factor = refl

past_least_offset : is_multiple offset_limit (fin true (offset_limit * parts_per_step + 1) (negsuc 15)) ≡ false
unfolding is_multiple
past_least_offset = refl

-- 2^-17
half_a_part : is_multiple factor_limit (fin false 1 (negsuc 16)) ≡ false
unfolding is_multiple
half_a_part = refl

-- 1e-320, a subnormal number: 2,024 times the smallest
tiny : is_multiple factor_limit (of_bits binary64 2024) ≡ false
unfolding is_multiple of_bits
tiny = refl

infinity : is_multiple offset_limit (inf false) ≡ false
unfolding is_multiple
infinity = refl

minus_infinity : is_multiple offset_limit (inf true) ≡ false
unfolding is_multiple
minus_infinity = refl

not_a_number : is_multiple offset_limit nan ≡ false
unfolding is_multiple
not_a_number = refl

-- ---- halves towards the larger, below zero too: 1/2 is 1, −1/2 is 0, and one part below it is −1
half_up : nearest (pos (parts_per_step / 2)) ≡ pos 1
unfolding round_half_up floor
half_up = refl

minus_half_up : nearest (neg_ℤ (pos (parts_per_step / 2))) ≡ pos 0
unfolding round_half_up floor
minus_half_up = refl

below_minus_half : nearest (neg_ℤ (pos (parts_per_step / 2 + 1))) ≡ negsuc 0
unfolding round_half_up floor
below_minus_half = refl
