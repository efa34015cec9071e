-- Bytes that stand for numbers: lowercase hexadecimal digits, and decimal ones in a refusal.
--
-- Definitions
--   hex_digits                     0 to 9 and a to f, as bytes
--   index_of b l                   where b first stands in l; as many as l has where it is nowhere
--   digit_char n, digit_value b    the digit of a number below 16; a digit's number, and 16 of any other byte
--   is_digit b, digit_or_none b    is it one? Its number, where it is
--   hex width n                    the last so many digits of n, the first being worth most
--   hex_value l                    the number that digits stand for
--   twos_complement z              an integer's 64 bits, as a number
use Rattle.std.specs.Prelude.{ℕ, zero, suc, ◌+◌, ◌-◌, ◌*◌, ◌/◌, ◌%◌, ◌^◌, Bool, cond, Option, Some, None, List, [], ◌∷◌, ◌++◌, length, ℤ, pos, negsuc, ◌==◌, nat_lt, slice_index}

abbrev pub hex_digits : List ℕ
hex_digits = 48 ∷ 49 ∷ 50 ∷ 51 ∷ 52 ∷ 53 ∷ 54 ∷ 55 ∷ 56 ∷ 57 ∷ 97 ∷ 98 ∷ 99 ∷ 100 ∷ 101 ∷ 102 ∷ []

unfoldable pub index_of : ℕ → List ℕ → ℕ
index_of b [] = 0
index_of b (d ∷ ds) = cond (b == d) 0 (suc (index_of b ds))

abbrev pub digit_char : ℕ → ℕ
digit_char n = slice_index hex_digits n

abbrev pub digit_value : ℕ → ℕ
digit_value b = index_of b hex_digits

abbrev pub is_digit : ℕ → Bool
is_digit b = nat_lt (digit_value b) (length hex_digits)

-- the number of a digit; no other byte has one
abbrev pub digit_or_none : ℕ → Option ℕ
digit_or_none b = cond (is_digit b) (Some (digit_value b)) None

unfoldable pub hex : ℕ → ℕ → List ℕ
hex zero n = []
hex (suc width) n = hex width (n / 16) ++ (digit_char (n % 16) ∷ [])

-- `v` is what the digits before stand for
unfoldable pub value_from : ℕ → List ℕ → ℕ
value_from v [] = v
value_from v (b ∷ l) = value_from (16 * v + digit_value b) l

abbrev pub hex_value : List ℕ → ℕ
hex_value l = value_from 0 l

-- "the root in two's complement"
unfoldable pub twos_complement : ℤ → ℕ
twos_complement (pos n) = n
twos_complement (negsuc n) = 2 ^ 64 - suc n
