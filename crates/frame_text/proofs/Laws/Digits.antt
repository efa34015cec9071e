-- Numbers and their digits.
--
-- Main results
--   digit_value_char, digit_char_value     a digit's number and a number's digit undo each other
--   digit_value_le                         and no byte stands for more than 16
--   decimal_digit, letter_digit            the number of a digit, by ranges of bytes
--   no_digit_low, no_digit_between, no_digit_high  and no other byte has one
--   is_decimal_digit, is_letter_digit, is_no_digit_low, is_no_digit_between, is_no_digit_high  whether it is a digit, by the same ranges
--   counted_value                          a byte that is no digit counts for 16
--   hex-length, hex-digits                 so many digits, and digits
--   value_append                           digits after digits
--   value_hex                              the digits of a number stand for it
--   hex_value_lem                          the digits of what digits stand for are these
--   value_lt                               what n digits stand for is below 16^n
use Rattle.std.specs.Prelude.{◌≡◌, ℕ, zero, suc, ◌+◌, ◌-◌, ◌*◌, ◌/◌, ◌%◌, ◌^◌, ◌<◌, ◌≤◌, Bool, true, false, cond, ◌&&◌, Some, None, is_some, List, [], ◌∷◌, ◌++◌, length, ◌==◌, nat_eq, nat_lt, slice_index, refl}
use Rattle.std.proofs.Common.{sym, ◌∙◌, ap, ap₂, subst, append_assoc, append-nil, mod-lt, div-lt_iff_lt-mul, add-zero, mod-eq_of_lt, arith, length-append, eqb-true, ltb-true, ltb-false, lt-ltb, le-ltb, unwrap_or}
use Rattle.std.proofs.Math.Path.{subst⁻¹}
use Rattle.std.proofs.Math.Nat.{div-add-mod, pow-succ', mul-add-div, mul-add-mod_self_left, div-eq_of_lt}
use Rattle.integers.specs.Below.{all_below}
use Rattle.integers.proofs.Theorems.Below.{below, both}
use Rattle.integers.specs.Tests.{every}
use Rattle.frame_text.specs.Digits.{hex_digits, index_of, digit_char, digit_value, is_digit, digit_or_none, hex, value_from, hex_value}

-- ---- one digit
pub digit_value_char : (n : ℕ) → n < 16 → digit_value (digit_char n) ≡ n
unfolding index_of all_below
digit_value_char n h = eqb-true (digit_value (digit_char n)) n (below (λ k. nat_eq (digit_value (digit_char k)) k) 16 refl n h)

index_found : (b : ℕ) (l : List ℕ) → index_of b l < length l → slice_index l (index_of b l) ≡ b
unfolding index_of
index_found b [] h = absurd (omega arith)
index_found b (d ∷ l) h = go (index_found b l) (b == d) refl h
  where
    go : (index_of b l < length l → slice_index l (index_of b l) ≡ b) → (t : Bool) → (b == d) ≡ t → cond t 0 (suc (index_of b l)) < suc (length l)
        → slice_index (d ∷ l) (cond t 0 (suc (index_of b l))) ≡ b
    go further true e k = sym (eqb-true b d e)
    go further false e k = further (omega arith)

pub digit_char_value : (b : ℕ) → is_digit b ≡ true → digit_char (digit_value b) ≡ b
digit_char_value b e = index_found b hex_digits (ltb-true _ _ e)

index-le : (b : ℕ) (l : List ℕ) → index_of b l ≤ length l
unfolding index_of
index-le b [] = omega arith
index-le b (d ∷ l) = go (b == d) (index-le b l)
  where
    go : (t : Bool) → index_of b l ≤ length l → cond t 0 (suc (index_of b l)) ≤ suc (length l)
    go true h = omega arith
    go false h = omega arith

pub digit_value_le : (b : ℕ) → digit_value b ≤ 16
digit_value_le b = index-le b hex_digits

-- the code goes by ranges of bytes: one computed test says that they give the digits' places
abbrev by_ranges : ℕ → ℕ
by_ranges b = cond (nat_lt b 48) 16 (cond (nat_lt b 58) (b - 48) (cond (nat_lt b 97) 16 (cond (nat_lt b 103) (b - 97 + 10) 16)))

by_ranges-is : (b : ℕ) → b < 256 → digit_value b ≡ by_ranges b
unfolding all_below index_of
by_ranges-is b h = eqb-true (digit_value b) (by_ranges b) (below (λ n. nat_eq (digit_value n) (by_ranges n)) 256 refl b h)

numbered : (b n : ℕ) → digit_value b ≡ n → n < 16 → digit_or_none b ≡ Some n
numbered b n e h = ap (λ t. cond t (Some (digit_value b)) None) (lt-ltb (digit_value b) 16 (omega (arith, e))) ∙ ap Some e

none : (b : ℕ) → digit_value b ≡ 16 → digit_or_none b ≡ None
none b e = ap (λ t. cond t (Some (digit_value b)) None) (le-ltb (digit_value b) 16 (omega (arith, e)))

pub decimal_digit : (b : ℕ) → 48 ≤ b → b < 58 → digit_or_none b ≡ Some (b - 48)
decimal_digit b h k =
    let e : by_ranges b ≡ b - 48 = simp (le-ltb b 48 h, lt-ltb b 58 k) in
    numbered b (b - 48) (by_ranges-is b (omega arith) ∙ e) (omega arith)

pub letter_digit : (b : ℕ) → 97 ≤ b → b < 103 → digit_or_none b ≡ Some (b - 97 + 10)
letter_digit b h k =
    let e : by_ranges b ≡ b - 97 + 10 = simp (le-ltb b 48 (omega arith), le-ltb b 58 (omega arith), le-ltb b 97 h, lt-ltb b 103 k) in
    numbered b (b - 97 + 10) (by_ranges-is b (omega arith) ∙ e) (omega arith)

pub no_digit_low : (b : ℕ) → b < 48 → digit_or_none b ≡ None
no_digit_low b h =
    let e : by_ranges b ≡ 16 = simp (lt-ltb b 48 h) in
    none b (by_ranges-is b (omega arith) ∙ e)

pub no_digit_between : (b : ℕ) → 58 ≤ b → b < 97 → digit_or_none b ≡ None
no_digit_between b h k =
    let e : by_ranges b ≡ 16 = simp (le-ltb b 48 (omega arith), le-ltb b 58 h, lt-ltb b 97 k) in
    none b (by_ranges-is b (omega arith) ∙ e)

pub no_digit_high : (b : ℕ) → 103 ≤ b → b < 256 → digit_or_none b ≡ None
no_digit_high b h k =
    let e : by_ranges b ≡ 16 = simp (le-ltb b 48 (omega arith), le-ltb b 58 (omega arith), le-ltb b 97 (omega arith), le-ltb b 103 h) in
    none b (by_ranges-is b k ∙ e)

-- whether a byte is a digit, by the same ranges
shown : {n : ℕ} (b : ℕ) → digit_or_none b ≡ Some n → is_digit b ≡ true
shown {n} b e = go (is_digit b) e
  where
    go : (t : Bool) → cond t (Some (digit_value b)) None ≡ Some n → t ≡ true
    go true e = refl
    go false e = ap is_some e

hidden : (b : ℕ) → digit_or_none b ≡ None → is_digit b ≡ false
hidden b e = go (is_digit b) e
  where
    go : (t : Bool) → cond t (Some (digit_value b)) None ≡ None → t ≡ false
    go true e = ap is_some e
    go false e = refl

pub is_decimal_digit : (b : ℕ) → 48 ≤ b → b < 58 → is_digit b ≡ true
is_decimal_digit b h k = shown b (decimal_digit b h k)

pub is_letter_digit : (b : ℕ) → 97 ≤ b → b < 103 → is_digit b ≡ true
is_letter_digit b h k = shown b (letter_digit b h k)

pub is_no_digit_low : (b : ℕ) → b < 48 → is_digit b ≡ false
is_no_digit_low b h = hidden b (no_digit_low b h)

pub is_no_digit_between : (b : ℕ) → 58 ≤ b → b < 97 → is_digit b ≡ false
is_no_digit_between b h k = hidden b (no_digit_between b h k)

pub is_no_digit_high : (b : ℕ) → 103 ≤ b → b < 256 → is_digit b ≡ false
is_no_digit_high b h k = hidden b (no_digit_high b h k)

-- where a byte that is no digit counts for 16, every byte counts for its number
pub counted_value : (b : ℕ) → unwrap_or (digit_or_none b) 16 ≡ digit_value b
counted_value b = go (is_digit b) refl
  where
    go : (t : Bool) → is_digit b ≡ t → unwrap_or (cond t (Some (digit_value b)) None) 16 ≡ digit_value b
    go true e = refl
    go false e = omega (arith, ltb-false (digit_value b) 16 e, digit_value_le b)

-- ---- several
pub hex-length : (width n : ℕ) → length (hex width n) ≡ width
unfolding hex
hex-length zero n = refl
hex-length (suc width) n = length-append (hex width (n / 16)) (digit_char (n % 16) ∷ []) ∙ omega (arith, hex-length width (n / 16))

pub every_append : {A : Type 0} (test : A → Bool) (l m : List A) → every test (l ++ m) ≡ (every test l && every test m)
every_append test [] m = refl
every_append test (a ∷ l) m = ap (λ b. test a && b) (every_append test l m) ∙ regroup (test a) (every test l) (every test m)
  where
    regroup : (a b c : Bool) → (a && (b && c)) ≡ ((a && b) && c)
    regroup true b c = refl
    regroup false b c = refl

pub digit_char_digit : (n : ℕ) → n < 16 → is_digit (digit_char n) ≡ true
digit_char_digit n h = lt-ltb (digit_value (digit_char n)) 16 (omega (arith, digit_value_char n h))

pub hex-digits : (width n : ℕ) → every is_digit (hex width n) ≡ true
unfolding hex
hex-digits zero n = refl
hex-digits (suc width) n =
    every_append is_digit (hex width (n / 16)) (digit_char (n % 16) ∷ [])
    ∙ ap₂ (λ a b. a && (b && true)) (hex-digits width (n / 16)) (digit_char_digit (n % 16) (mod-lt n (omega arith)))

pub value_append : (v : ℕ) (l m : List ℕ) → value_from v (l ++ m) ≡ value_from (value_from v l) m
unfolding value_from
value_append v [] m = refl
value_append v (b ∷ l) m = value_append (16 * v + digit_value b) l m

pub value_hex : (width n : ℕ) → n < 16 ^ width → hex_value (hex width n) ≡ n
unfolding hex value_from
value_hex zero n h = omega arith
value_hex (suc width) n h =
    value_append 0 (hex width (n / 16)) (digit_char (n % 16) ∷ [])
    ∙ ap₂ (λ v d. 16 * v + d) (value_hex width (n / 16) quotient) (digit_value_char (n % 16) (mod-lt n (omega arith)))
    ∙ div-add-mod n 16
  where
    quotient : n / 16 < 16 ^ width
    quotient = (div-lt_iff_lt-mul {k = 16} {x = n} {y = 16 ^ width} (omega arith)).1 (omega (arith, pow-succ' 16 width))

-- one digit more
hex_next : (width v d : ℕ) → d < 16 → hex (suc width) (16 * v + d) ≡ hex width v ++ (digit_char d ∷ [])
unfolding hex
hex_next width v d h =
    ap₂ (λ q r. hex width q ++ (digit_char r ∷ [])) (mul-add-div {m = 16} (omega arith) v d ∙ omega (arith, div-eq_of_lt {n = d} {m = 16} h))
    (mul-add-mod_self_left 16 v d ∙ mod-eq_of_lt h)

pub hex_value_from : (width v : ℕ) (l : List ℕ) → every is_digit l ≡ true → hex (width + length l) (value_from v l) ≡ hex width v ++ l
unfolding value_from
hex_value_from width v [] e = ap (λ w. hex w v) (add-zero width) ∙ sym (append-nil (hex width v))
hex_value_from width v (b ∷ l) e =
    let d = both (is_digit b) (every is_digit l) e in
    let n = 16 * v + digit_value b in
    ap (λ w. hex w (value_from n l)) {y = suc width + length l} (omega arith)
    ∙ hex_value_from (suc width) n l d.1
    ∙ ap (λ x. x ++ l) (hex_next width v (digit_value b) (ltb-true _ _ d.0) ∙ ap (λ x. hex width v ++ (x ∷ [])) (digit_char_value b d.0))
    ∙ append_assoc (hex width v) (b ∷ []) l

pub hex_value_lem : (l : List ℕ) → every is_digit l ≡ true → hex (length l) (hex_value l) ≡ l
unfolding hex
hex_value_lem l e = let s : length l ≡ 0 + length l = omega arith in ap (λ w. hex w (hex_value l)) s ∙ hex_value_from 0 0 l e

value_from-lt : (width v : ℕ) (l : List ℕ) → v < 16 ^ width → every is_digit l ≡ true → value_from v l < 16 ^ (width + length l)
unfolding value_from
value_from-lt width v [] h e = subst⁻¹ (λ w. v < 16 ^ w) (add-zero width) h
value_from-lt width v (b ∷ l) h e =
    let d = both (is_digit b) (every is_digit l) e in
    let n = 16 * v + digit_value b in
    let k : n < 16 ^ suc width = omega (arith, pow-succ' 16 width, ltb-true (digit_value b) 16 d.0) in
    let s : suc width + length l ≡ width + suc (length l) = omega arith in
    subst (λ w. value_from n l < 16 ^ w) s (value_from-lt (suc width) n l k d.1)

pub value_lt : (l : List ℕ) → every is_digit l ≡ true → hex_value l < 16 ^ length l
value_lt l e = let s : 0 + length l ≡ length l = omega arith in subst (λ w. hex_value l < 16 ^ w) s (value_from-lt 0 0 l (omega arith) e)
