-- A float compared with a limit and its negative, as the code compares it. A not-a-number fails both comparisons, an infinity one of them.
--
-- Main results
--   same                          two tests that pass together are equal
--   inside_wider                  what is within a limit is within a larger one
--   inside_of                     what passes both comparisons is within the limit
--   inside_low, inside_high       and what is within the limit passes both
--   inside-above, inside-below    what is within 2^62 lies where a cast to 64 bits is defined
use Rattle.std.specs.Prelude.{◌≡◌, ℕ, zero, suc, ◌+◌, ◌*◌, ◌^◌, ◌<◌, ◌≤◌, Bool, true, false, ◌&&◌, ◌||◌, T, ◌⊎◌, ℤ, pos, ◌==◌, nat_lt, Float}
use Rattle.std.proofs.Math.Path.{refl, subst}
use Rattle.std.proofs.Common.{sym, ap, ◌∙◌, inl, inr, true≢false, mul_right_comm, mul-one, mul-pos, mul-le-mul_right, le_trans, le_of_eq, le_of_lt, le_of_mul-le-mul_right, lt_of_le_of_lt, mul-lt-mul_of_pos_right, eq-or-lt_of_le, arith, ltb→lt, lt→ltb, eqb→eq, lit<, lit≤}
use Rattle.std.specs.Float.{nan, inf, fin}
use Rattle.std.specs.Float.Ieee.{up, down, neg, le, lt}
use Rattle.std.specs.Float.Ieee.Fits.{down_pos, and_i, and_l, eq→eqb}
use Rattle.std.specs.Float.Ieee.Exact.{HasValue}
use Rattle.placement.specs.Parts.{Inside, cast_limit}

-- ---- limits
pub inside_wider : {a b : ℕ} → a ≤ b → (x : Float) → Inside a x → Inside b x
inside_wider h nan i = absurd i
inside_wider h (inf s) i = absurd i
inside_wider h (fin s m e) i = le_trans i (mul-le-mul_right (down e) h)

-- ---- two tests that pass together are equal
pub same : (p q : Bool) → (T p → T q) → (T q → T p) → p ≡ q
same true true f g = refl
same true false f g = absurd (f tt)
same false true f g = absurd (g tt)
same false false f g = refl

-- ---- below or level, as `le` tests magnitudes
or_r : (a b : Bool) → T b → T (a || b)
or_r true b t = tt
or_r false b t = t

or_l : (a b : Bool) → T a → T (a || b)
or_l true b t = tt
or_l false b t = absurd t

or_split : (a b : Bool) → T (a || b) → T a ⊎ T b
or_split true b t = inl tt
or_split false b t = inr t

module _ (a b : ℕ) where
  at_most : (c : Bool) → ((a == b) ≡ c) → T (nat_lt a b || (c && true)) → a ≤ b
  at_most c e t = go (or_split (nat_lt a b) (c && true) t)
    where
      go : T (nat_lt a b) ⊎ T (c && true) → a ≤ b
      go (inl u) = le_of_lt (ltb→lt a b u)
      go (inr u) = le_of_eq (eqb→eq a b (subst T (sym e) (and_l c true u)))

  passes : a ≤ b → T (nat_lt a b || (a == b && true))
  passes h = go (eq-or-lt_of_le h)
    where
      go : (a ≡ b) ⊎ (a < b) → T (nat_lt a b || (a == b && true))
      go (inl e) = or_r (nat_lt a b) (a == b && true) (and_i (a == b) true (eq→eqb e) tt)
      go (inr l) = or_l (nat_lt a b) (a == b && true) (lt→ltb a b l)

eqb-sym : (a b : ℕ) → (a == b) ≡ (b == a)
eqb-sym a b = same (a == b) (b == a) (λ t. eq→eqb (sym (eqb→eq a b t))) (λ t. eq→eqb (sym (eqb→eq b a t)))

-- −a is at most b
apart : (a b : ℕ) → T (nat_lt 0 (a + b) || (a == b && (false || a == 0)))
apart zero zero = tt
apart zero (suc b) = or_l (nat_lt 0 (0 + suc b)) (0 == suc b && (false || 0 == 0)) (lt→ltb 0 (0 + suc b) (omega arith))
apart (suc a) b = or_l (nat_lt 0 (suc a + b)) (suc a == b && (false || suc a == 0)) (lt→ltb 0 (suc a + b) (omega arith))

-- ---- a finite float, beside the limit n × 2^d
module _ (limit n : ℕ) (d : ℤ) (is : n * up d * 1 ≡ limit * down d) where
  size : n * up d ≡ limit * down d
  size = sym (mul-one (n * up d)) ∙ is

  narrow : (M D : ℕ) → M * down d ≤ n * up d * D → M ≤ limit * D
  narrow M D h = le_of_mul-le-mul_right (le_trans h (le_of_eq (ap (λ (x : ℕ). x * D) size ∙ mul_right_comm limit (down d) D))) (down_pos d)

  widen : (M D : ℕ) → M ≤ limit * D → M * down d ≤ n * up d * D
  widen M D h = le_trans (mul-le-mul_right (down d) h) (le_of_eq (mul_right_comm limit D (down d) ∙ ap (λ (x : ℕ). x * D) (sym size)))

  bounds_in : (s : Bool) (m : ℕ) (e : ℤ) → T (le (fin true n d) (fin s m e)) → T (le (fin s m e) (fin false n d)) → Inside limit (fin s m e)
  unfolding le
  bounds_in false m e lo hi = narrow (m * up e) (down e) (at_most (m * up e * down d) (n * up d * down e) (m * up e * down d == n * up d * down e) refl hi)
  bounds_in true m e lo hi =
      let a = n * up d * down e in
      let b = m * up e * down d in
      narrow (m * up e) (down e) (at_most b a (a == b) (eqb-sym b a) lo)

  low_out : (s : Bool) (m : ℕ) (e : ℤ) → Inside limit (fin s m e) → T (le (fin true n d) (fin s m e))
  unfolding le
  low_out false m e h = apart (n * up d * down e) (m * up e * down d)
  low_out true m e h =
      let a = n * up d * down e in
      let b = m * up e * down d in
      subst (λ (c : Bool). T (nat_lt b a || (c && true))) (eqb-sym b a) (passes b a (widen (m * up e) (down e) h))

  high_out : (s : Bool) (m : ℕ) (e : ℤ) → Inside limit (fin s m e) → T (le (fin s m e) (fin false n d))
  unfolding le
  high_out false m e h = passes (m * up e * down d) (n * up d * down e) (widen (m * up e) (down e) h)
  high_out true m e h = apart (m * up e * down d) (n * up d * down e)

-- ---- any float, beside a float that is the limit
pub inside_of : (limit : ℕ) (x bound : Float) → HasValue bound false limit 1 → le (neg bound) x ≡ true → le x bound ≡ true → Inside limit x
unfolding neg
inside_of limit x nan h a b = absurd h
inside_of limit x (inf t) h a b = absurd h
inside_of limit x (fin true n d) h a b = absurd (true≢false h.0)
inside_of limit nan (fin false n d) h a b = absurd (unfold le in subst T (sym a) tt)
inside_of limit (inf true) (fin false n d) h a b = absurd (unfold le in subst T (sym a) tt)
inside_of limit (inf false) (fin false n d) h a b = absurd (unfold le in subst T (sym b) tt)
inside_of limit (fin s m e) (fin false n d) h a b = bounds_in limit n d h.1 s m e (subst T (sym a) tt) (subst T (sym b) tt)

pub inside_low : (limit : ℕ) (x bound : Float) → HasValue bound false limit 1 → Inside limit x → T (le (neg bound) x)
unfolding neg
inside_low limit nan bound h b = absurd b
inside_low limit (inf s) bound h b = absurd b
inside_low limit (fin s m e) nan h b = absurd h
inside_low limit (fin s m e) (inf t) h b = absurd h
inside_low limit (fin s m e) (fin true n d) h b = absurd (true≢false h.0)
inside_low limit (fin s m e) (fin false n d) h b = low_out limit n d h.1 s m e b

pub inside_high : (limit : ℕ) (x bound : Float) → HasValue bound false limit 1 → Inside limit x → T (le x bound)
inside_high limit nan bound h b = absurd b
inside_high limit (inf s) bound h b = absurd b
inside_high limit (fin s m e) nan h b = absurd h
inside_high limit (fin s m e) (inf t) h b = absurd h
inside_high limit (fin s m e) (fin true n d) h b = absurd (true≢false h.0)
inside_high limit (fin s m e) (fin false n d) h b = high_out limit n d h.1 s m e b

-- ---- what a cast to 64 bits asks
pub inside-above : (x : Float) → Inside cast_limit x → T (le (fin true 1 (pos 63)) x)
inside-above nan b = absurd b
inside-above (inf s) b = absurd b
inside-above (fin s m e) b = low_out (2 ^ 63) 1 (pos 63) refl s m e (le_trans b (mul-le-mul_right (down e) (lit≤ tt)))

pub inside-below : (x : Float) → Inside cast_limit x → T (lt x (fin false 1 (pos 63)))
unfolding lt
inside-below nan b = absurd b
inside-below (inf s) b = absurd b
inside-below (fin true m e) b = lt→ltb 0 (m * up e * 1 + 2 ^ 63 * down e) (some (m * up e * 1) (2 ^ 63 * down e) (mul-pos {m = 2 ^ 63} (lit< tt) (down_pos e)))
  where
    some : (a b : ℕ) → 0 < b → 0 < a + b
    some a b h = omega arith
inside-below (fin false m e) b =
    lt→ltb (m * up e * 1) (2 ^ 63 * down e)
    (lt_of_le_of_lt (le_trans (le_of_eq (mul-one (m * up e))) b) (mul-lt-mul_of_pos_right {m = cast_limit} {n = 2 ^ 63} (lit< tt) (down_pos e)))
