-- How large a × x + b × y + c gets, in parts: a product is at most 2^32 of them, two products 2^33, and with the offset all stays below 2^34. A float
-- keeps every whole number up to 2^53.
--
-- Definitions
--   product_limit                 a factor's greatest number of parts times the greatest coordinate
-- Main results
--   movable_small                 a coordinate that may be moved is at most 32,768 in magnitude
--   a_usable .. y_small           what `Ready` says, number by number
--   sum_bound, all_bound          the terms of each sum
--   parts_at-bound                the result is at most the greatest placed coordinate
use Rattle.std.specs.Prelude.{◌≡◌, ℕ, ◌+◌, ◌-◌, ◌*◌, ◌≤◌, true, ◌&&◌, ℤ, pos, ◌+ℤ◌, ◌*ℤ◌, neg_ℤ, unsigned_abs, Float}
use Rattle.std.proofs.Common.{mul-le-mul, le_trans, le_of_eq, arith}
use Rattle.std.specs.Int.Signed.{le_z_yes}
use Rattle.integers.specs.Units.{parts_per_step, factor_limit, offset_limit, movable_limit, placed_limit}
use Rattle.integers.proofs.Theorems.Magnitude.{nat_abs_mul, nat_abs-triangle}
use Rattle.integers.proofs.Theorems.Below.{both}
use Rattle.integers.proofs.Theorems.Tests.{between_means}
use Rattle.integers.proofs.Theorems.Order.{≤ℤ_trans}
use Rattle.integers.proofs.Theorems.Within.{nat_abs_of_within}
use Rattle.placement.specs.Parts.{parts_of, is_multiple}
use Rattle.placement.specs.Placed.{parts_at, is_movable}
use Rattle.placement.specs.Ready.{Ready}
use Rattle.placement.proofs.Laws.PartsOf.{multiple_bound}

pub movable_small : (x : ℤ) → is_movable x ≡ true → unsigned_abs x ≤ movable_limit
movable_small x e =
    let said = (between_means (neg_ℤ (pos movable_limit)) (pos (movable_limit - 1)) x).0 e in
    nat_abs_of_within (record { low = said.0; high = ≤ℤ_trans said.1 (le_z_yes tt) })

abbrev pub product_limit : ℕ
product_limit = factor_limit * parts_per_step * movable_limit

-- ---- what a caller has said, number by number
module _ {a b c : Float} {x y : ℤ} (r : Ready a b c x y) where
  rest : (is_multiple factor_limit b && is_multiple offset_limit c) ≡ true
  rest = (both (is_multiple factor_limit a) (is_multiple factor_limit b && is_multiple offset_limit c) r.row).1

  pub a_usable : is_multiple factor_limit a ≡ true
  a_usable = (both (is_multiple factor_limit a) (is_multiple factor_limit b && is_multiple offset_limit c) r.row).0

  pub b_usable : is_multiple factor_limit b ≡ true
  b_usable = (both (is_multiple factor_limit b) (is_multiple offset_limit c) rest).0

  pub c_usable : is_multiple offset_limit c ≡ true
  c_usable = (both (is_multiple factor_limit b) (is_multiple offset_limit c) rest).1

  pub x_small : unsigned_abs x ≤ movable_limit
  x_small = movable_small x r.x_in

  pub y_small : unsigned_abs y ≤ movable_limit
  y_small = movable_small y r.y_in

-- ---- the bounds
product-bound : (a : Float) (x : ℤ) → is_multiple factor_limit a ≡ true → unsigned_abs x ≤ movable_limit → unsigned_abs (parts_of a *ℤ x) ≤ product_limit
product-bound a x h g = le_trans (le_of_eq (nat_abs_mul (parts_of a) x)) (mul-le-mul (multiple_bound factor_limit a h) g)

two_products : (p q : ℕ) → p ≤ product_limit → q ≤ product_limit → p + q ≤ 2 * product_limit
two_products p q h g = omega arith

and_offset : (p q : ℕ) → p ≤ 2 * product_limit → q ≤ offset_limit * parts_per_step → p + q ≤ placed_limit * parts_per_step
and_offset p q h g = omega arith

module _ {a b c : Float} {x y : ℤ} (r : Ready a b c x y) where
  pub sum_bound : unsigned_abs (parts_of a *ℤ x) + unsigned_abs (parts_of b *ℤ y) ≤ 2 * product_limit
  sum_bound =
      two_products (unsigned_abs (parts_of a *ℤ x)) (unsigned_abs (parts_of b *ℤ y)) (product-bound a x (a_usable r) (x_small r)) (product-bound b y (b_usable r) (y_small r))

  pub all_bound : unsigned_abs (parts_of a *ℤ x +ℤ parts_of b *ℤ y) + unsigned_abs (parts_of c) ≤ placed_limit * parts_per_step
  all_bound =
      and_offset (unsigned_abs (parts_of a *ℤ x +ℤ parts_of b *ℤ y)) (unsigned_abs (parts_of c))
      (le_trans (nat_abs-triangle (parts_of a *ℤ x) (parts_of b *ℤ y)) sum_bound) (multiple_bound offset_limit c (c_usable r))

  pub parts_at-bound : unsigned_abs (parts_at a b c x y) ≤ placed_limit * parts_per_step
  parts_at-bound = le_trans (nat_abs-triangle (parts_of a *ℤ x +ℤ parts_of b *ℤ y) (parts_of c)) all_bound
