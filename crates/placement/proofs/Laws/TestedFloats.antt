-- The test of a float x within a limit, as the code makes it: x is taken in parts; cut to a whole number that is `parts_of x`; and the float of this
-- number equals x in parts exactly where nothing was cut.
--
-- Main results
--   Tested, tested                all that the code has of such an x
use Rattle.std.specs.Prelude.{◌≡◌, ℕ, zero, suc, ◌+◌, ◌*◌, ◌/◌, ◌%◌, ◌^◌, ◌<◌, ◌≤◌, Bool, true, false, not, ◌&&◌, ◌||◌, T, leb, ℤ, pos, neg_ℤ, ◌==◌, nat_eq, nat_le, unsigned_abs, refl, Float}
use Rattle.std.proofs.Math.Path.{sym, ap}
use Rattle.std.proofs.Common.{◌∙◌, subst, mul-one, zero-mul, mul-le-mul_right, le_trans, le_of_eq, div-add-mod', le_of_mul-le-mul_right, div-mul-le_self, le→leb, lit≤}
use Rattle.std.proofs.Math.Bool.{beq}
use Rattle.std.proofs.Math.Nat.{mul_assoc, mul_right_comm, zero-div, mul-mod_left, eq_of_mul-eq-mul_right, add-zero}
use Rattle.std.proofs.Math.Dec.{eqb→eq}
use Rattle.std.specs.Int.Signed.{non_neg}
use Rattle.std.specs.Float.Ieee.{nan, up, down, eq, le, lt, of_int, to_signed}
use Rattle.std.specs.Float.{inf, fin, binary64}
use Rattle.std.specs.Float.Ieee.Fits.{down_pos, and_i, and_l, eq→eqb}
use Rattle.std.specs.Float.Ieee.Nearest.{div_same}
use Rattle.integers.specs.Units.{parts_per_step, offset_limit}
use Rattle.placement.specs.Parts.{signed, Value, parts_of, is_multiple, Inside, InParts, kept_digits, cast_limit}
use Rattle.placement.proofs.Laws.Values.{has, abs-signed, signed_mul}
use Rattle.placement.proofs.Laws.Comparisons.{same, inside_wider, inside-above, inside-below}
use Rattle.placement.proofs.Laws.WholeFloats.{whole_value, cut-signed}

-- ---- two signs of one number are alike, or the number is 0: so they are of a multiple of it and of its quotients
alike : (t u : Bool) (q a c : ℕ) → signed t q ≡ signed u q → a ≡ q * c → T (beq t u || a == 0)
alike true true q a c e k = tt
alike false false q a c e k = tt
alike true false zero a c e k = eq→eqb (k ∙ zero-mul c)
alike false true zero a c e k = eq→eqb (k ∙ zero-mul c)
alike true false (suc q) a c e k = absurd (subst (λ (z : ℤ). T (not (non_neg z))) e tt)
alike false true (suc q) a c e k = absurd (subst (λ (z : ℤ). T (non_neg z)) e tt)

quotient_sign : (t u : Bool) (A C : ℕ) → signed t A ≡ signed u A → signed t (A / C) ≡ signed u (A / C)
quotient_sign true true A C e = refl
quotient_sign false false A C e = refl
quotient_sign true false zero C e = ap (λ (n : ℕ). neg_ℤ (pos n)) (zero-div C) ∙ sym (ap pos (zero-div C))
quotient_sign false true zero C e = ap pos (zero-div C) ∙ sym (ap (λ (n : ℕ). neg_ℤ (pos n)) (zero-div C))
quotient_sign true false (suc A) C e = absurd (subst (λ (z : ℤ). T (not (non_neg z))) e tt)
quotient_sign false true (suc A) C e = absurd (subst (λ (z : ℤ). T (non_neg z)) e tt)

-- ---- any float that is ± A / C
module _ (s : Bool) (A C : ℕ) (P : 0 < C) where
  size : (t : Bool) (m : ℕ) (e : ℤ) → Value (fin t m e) (signed s A) C → m * up e * C ≡ A * down e
  size t m e v = (has t m e (signed s A) C v).1 ∙ ap (λ (z : ℕ). z * down e) (abs-signed s A)

  sign : (t : Bool) (m : ℕ) (e : ℤ) → Value (fin t m e) (signed s A) C → signed t (A / C) ≡ signed s (A / C)
  sign t m e v = sym (quotient_sign s t A C ((has t m e (signed s A) C v).0 ∙ ap (signed t) (abs-signed s A)))

  is_inside : (x : Float) (limit : ℕ) → Value x (signed s A) C → A ≤ limit * C → Inside limit x
  is_inside nan limit v h = absurd v
  is_inside (inf t) limit v h = absurd v
  is_inside (fin t m e) limit v h =
      le_of_mul-le-mul_right
      (le_trans (le_of_eq (size t m e v)) (le_trans (mul-le-mul_right (down e) h) (le_of_eq (mul_right_comm limit C (down e))))) P

  is_cut : (x : Float) → Value x (signed s A) C → A / C ≤ cast_limit → to_signed 63 x ≡ signed s (A / C)
  is_cut nan v h = absurd v
  is_cut (inf t) v h = absurd v
  is_cut (fin t m e) v h = cut-signed t m e (A / C) (div_same (m * up e) (down e) A C (down_pos e) P (size t m e v)) h ∙ sign t m e v

  -- a float that is the whole part equals x exactly where nothing was cut
  is_equal : (x y : Float) → Value x (signed s A) C → Value y (signed s (A / C)) 1 → eq x y ≡ (A % C == 0)
  unfolding eq
  is_equal nan y v w = absurd v
  is_equal (inf t) y v w = absurd v
  is_equal (fin t m e) nan v w = absurd w
  is_equal (fin t m e) (inf u) v w = absurd w
  is_equal (fin t m e) (fin u n d) v w =
      let q = A / C in
      let M = m * up e in
      let N = n * up d in
      let h = has u n d (signed s q) 1 w in
      let N_is : N ≡ q * down d = sym (mul-one N) ∙ h.1 ∙ ap (λ (z : ℕ). z * down d) (abs-signed s q) in
      let equal : Bool = nat_eq (M * down d) (N * down e) in
      let like : Bool = beq t u || nat_eq (M * down d) 0 in
      same (equal && like) (A % C == 0)
      (λ y.
      let k : M * down d ≡ N * down e = eqb→eq (M * down d) (N * down e) (and_l equal like y) in
      let M_is : M ≡ q * down e = eq_of_mul-eq-mul_right (down d) (down_pos d) M (q * down e) (k ∙ ap (λ (z : ℕ). z * down e) N_is ∙ mul_right_comm q (down d) (down e)) in
      let A_is : A ≡ q * C = eq_of_mul-eq-mul_right (down e) (down_pos e) A (q * C) (sym (size t m e v) ∙ ap (λ (z : ℕ). z * C) M_is ∙ mul_right_comm q (down e) C) in
      eq→eqb (ap (λ (z : ℕ). z % C) A_is ∙ mul-mod_left q C))
      (λ y.
      let A_is : A ≡ q * C = sym (div-add-mod' A C) ∙ ap (λ (r : ℕ). q * C + r) (eqb→eq (A % C) 0 y) ∙ add-zero (q * C) in
      let M_is : M ≡ q * down e = eq_of_mul-eq-mul_right C P M (q * down e) (size t m e v ∙ ap (λ (z : ℕ). z * down e) A_is ∙ mul_right_comm q C (down e)) in
      and_i equal like
      (eq→eqb (ap (λ (z : ℕ). z * down d) M_is ∙ mul_right_comm q (down e) (down d) ∙ ap (λ (z : ℕ). z * down e) (sym N_is)))
      (alike t u q (M * down d) (down e * down d) (sign t m e v ∙ h.0 ∙ ap (signed u) (abs-signed s q)) (ap (λ (z : ℕ). z * down d) M_is ∙ mul_assoc q (down e) (down d))))

-- ---- what the code has of an x within a limit that is at most the greatest, where w is x in parts
pub record Tested (limit : ℕ) (x w : Float) : Type 0 where
  pub low : T (le (fin true 1 (pos 63)) w)
  pub high : T (lt w (fin false 1 (pos 63)))
  pub cut_is : to_signed 63 w ≡ parts_of x
  pub small : unsigned_abs (parts_of x) ≤ 2 ^ kept_digits
  pub back : eq w (of_int binary64 (parts_of x)) ≡ is_multiple limit x

pub tested : {limit : ℕ} → limit ≤ offset_limit → (x w : Float) → Inside limit x → InParts x w → Tested limit x w
unfolding parts_of is_multiple
tested h nan w i p = absurd i
tested h (inf s) w i p = absurd i
tested {limit} h (fin s m e) w i p =
    let A = m * up e * parts_per_step in
    let D = down e in
    let P = down_pos e in
    let v : Value w (signed s A) D = subst (λ (z : ℤ). Value w z D) (signed_mul s (m * up e) parts_per_step) (p.exact (signed s (m * up e)) D refl) in
    let under : A ≤ offset_limit * parts_per_step * D =
    le_trans (mul-le-mul_right parts_per_step (inside_wider h (fin s m e) i)) (le_of_eq (mul_right_comm offset_limit D parts_per_step)) in
    let part : A / D ≤ offset_limit * parts_per_step = le_of_mul-le-mul_right (le_trans (div-mul-le_self A D) under) P in
    let small : unsigned_abs (signed s (A / D)) ≤ 2 ^ kept_digits = le_trans (le_of_eq (abs-signed s (A / D))) (le_trans part (lit≤ tt)) in
    let inside : Inside cast_limit w = is_inside s A D P w cast_limit v (le_trans under (mul-le-mul_right D (lit≤ tt))) in
    record {
      low = inside-above w inside;
      high = inside-below w inside;
      cut_is = is_cut s A D P w v (le_trans part (lit≤ tt));
      small = small;
      back = is_equal s A D P w (of_int binary64 (signed s (A / D))) v (whole_value (signed s (A / D)) small) ∙ within_too (A % D == 0);
    }
  where
    within_too : (p : Bool) → p ≡ (p && nat_le (m * up e) (limit * down e))
    within_too p =
        let w : Bool = leb (m * up e) (limit * down e) in
        same p (p && w) (λ t. and_i p w t (le→leb (m * up e) (limit * down e) i)) (λ t. and_l p w t)
