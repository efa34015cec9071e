-- Of a multiple of 1/65,536 `parts_of` is how many parts it is.
--
-- Main results
--   multiple_value                    where the test passes, x is parts_of x / 65,536,
--   multiple_inside, multiple_bound   and x and parts_of x are in their ranges
--   value_multiple                    where x is k / 65,536 and k in the range, the test passes and k is parts_of x
--   not-inside                        where x is not within the limit the test fails
use Rattle.std.specs.Prelude.{◌≡◌, ℕ, ◌+◌, ◌*◌, ◌/◌, ◌%◌, ◌≤◌, Bool, true, false, ◌↔◌, ℤ, unsigned_abs, refl, Float}
use Rattle.std.proofs.Common.{sym, ap, ◌∙◌, true≢false, mul_right_comm, mul-le-mul_right, le_trans, le_of_eq, le_of_mul-le-mul_right, mul-div_cancel, div-add-mod', add-zero, lit<}
use Rattle.std.proofs.Math.Nat.{mul-mod_left}
use Rattle.std.specs.Float.{nan, inf, fin}
use Rattle.std.specs.Float.Ieee.{up, down}
use Rattle.std.specs.Float.Ieee.Fits.{down_pos}
use Rattle.integers.specs.Units.{parts_per_step}
use Rattle.integers.proofs.Theorems.Tests.{eqb_means, leb_means, and_means, no_means}
use Rattle.placement.specs.Parts.{signed, Value, parts_of, is_multiple, Inside}
use Rattle.placement.proofs.Laws.Values.{of_has, has}

test_means : (limit : ℕ) (s : Bool) (m : ℕ) (e : ℤ)
    → (is_multiple limit (fin s m e) ≡ true) ↔ ((m * up e * parts_per_step % down e ≡ 0) × Inside limit (fin s m e))
unfolding is_multiple
test_means limit s m e = and_means _ _ (eqb_means (m * up e * parts_per_step % down e) 0) (leb_means (m * up e) (limit * down e))

pub multiple_value : (limit : ℕ) (x : Float) → is_multiple limit x ≡ true → Value x (parts_of x) parts_per_step
unfolding is_multiple parts_of
multiple_value limit nan t = absurd (true≢false (sym t))
multiple_value limit (inf s) t = absurd (true≢false (sym t))
multiple_value limit (fin s m e) t =
    let A = m * up e * parts_per_step in
    let q = A / down e in
    of_has (fin s m e) s q parts_per_step
    (refl, sym (div-add-mod' A (down e)) ∙ ap (λ (r : ℕ). q * down e + r) ((test_means limit s m e).0 t).0 ∙ add-zero (q * down e))

pub multiple_inside : (limit : ℕ) (x : Float) → is_multiple limit x ≡ true → Inside limit x
unfolding is_multiple
multiple_inside limit nan t = absurd (true≢false (sym t))
multiple_inside limit (inf s) t = absurd (true≢false (sym t))
multiple_inside limit (fin s m e) t = ((test_means limit s m e).0 t).1

pub multiple_bound : (limit : ℕ) (x : Float) → is_multiple limit x ≡ true → unsigned_abs (parts_of x) ≤ limit * parts_per_step
unfolding is_multiple
multiple_bound limit nan t = absurd (true≢false (sym t))
multiple_bound limit (inf s) t = absurd (true≢false (sym t))
multiple_bound limit (fin s m e) t =
    le_of_mul-le-mul_right
    (le_trans (le_of_eq (sym (has s m e (parts_of (fin s m e)) parts_per_step (multiple_value limit (fin s m e) t)).1))
    (le_trans (mul-le-mul_right parts_per_step ((test_means limit s m e).0 t).1) (le_of_eq (mul_right_comm limit (down e) parts_per_step)))) (down_pos e)

pub value_multiple : (limit : ℕ) (x : Float) (k : ℤ) → Value x k parts_per_step → unsigned_abs k ≤ limit * parts_per_step → (is_multiple limit x ≡ true) × (parts_of x ≡ k)
unfolding parts_of
value_multiple limit nan k v b = absurd v
value_multiple limit (inf s) k v b = absurd v
value_multiple limit (fin s m e) k v b =
    let h = has s m e k parts_per_step v in
    let q = unsigned_abs k in
    let D = down e in (
      (test_means limit s m e).1 (
        ap (λ (a : ℕ). a % D) h.1 ∙ mul-mod_left q D,
        le_of_mul-le-mul_right (le_trans (le_of_eq h.1) (le_trans (mul-le-mul_right D b) (le_of_eq (mul_right_comm limit parts_per_step D)))) (lit< {m = 0} {n = parts_per_step} tt),
      ),
      ap (λ (a : ℕ). signed s (a / D)) h.1 ∙ ap (signed s) (mul-div_cancel q (down_pos e)) ∙ sym h.0,
    )

pub not-inside : (limit : ℕ) (x : Float) → (Inside limit x → ⊥) → false ≡ is_multiple limit x
not-inside limit x out = sym ((no_means (is_multiple limit x) {P = is_multiple limit x ≡ true} (λ e. e, λ e. e)).1 (λ t. out (multiple_inside limit x t)))
