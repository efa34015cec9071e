-- Three products, two of them with the row's sign, and four sums, each in range.
use Rattle.std.proofs.Common.{◌≡◌, refl, ◌∙◌, ap, ap₂, [], ◌∷◌, ℕ, ◌+◌, ◌%◌, ◌^◌, ◌<◌, ℤ, ◌+ℤ◌, ◌*ℤ◌, arith}
use Rattle.std.proofs.Math.Nat.{mod-lt}
use Rattle.std.specs.Int.Signed.{mag}
use Rattle.integers.proofs.Theorems.Ring.{read, ring}
use Rattle.integers.proofs.Theorems.Within.{within_is, within_sign}
use Rattle.integers.specs.HalfSign.{half_sign}
use Rattle.integers.proofs.Theorems.HalfSign.{half_sign_cases}
use Rattle.integers.specs.Bits.{back}
use Rattle.integers.proofs.Theorems.Bits.{result_is}
use Rattle.integers.specs.Held.{Held}
use Rattle.integers.proofs.Theorems.Held.{held_number, held-add, held_sub, held-mul, held_fits, held_back, held_within}
use Rattle.haar.specs.Pairs.{parent_limit, PairBounds}
use Rattle.haar.proofs.beside.Goals as goal

module _ {f scale turned h v d : ℤ} (b : PairBounds f scale turned h v d) where
  product_v : Held parent_limit (back scale *ℤ back v) (scale *ℤ v)
  product_v = held-mul (held_number tt b.scale_within) (held_number tt b.v_within)

  product_h : Held parent_limit (back scale *ℤ back h) (scale *ℤ h)
  product_h = held-mul (held_number tt b.scale_within) (held_number tt b.h_within)

  product_d : Held parent_limit (back scale *ℤ back d) (scale *ℤ d)
  product_d = held-mul (held_number tt b.scale_within) (held_number tt b.d_within)

-- a product with the row's sign: what the call answers, read back
signed : (cy : ℕ) (scale x : ℤ) {z r : ℤ} → mag r < 2 ^ 63 → Held parent_limit z (scale *ℤ x) → r ≡ half_sign (cy % 2) *ℤ back z → Held parent_limit (back r) (half_sign (cy % 2) *ℤ scale *ℤ x)
signed cy scale x k p e =
    let same : half_sign (cy % 2) *ℤ (scale *ℤ x) ≡ half_sign (cy % 2) *ℤ scale *ℤ x = ring (half_sign (cy % 2) ∷ scale ∷ x ∷ []) (search read depth 40) tt in
    record {
      is = result_is k (e ∙ ap (λ z. half_sign (cy % 2) *ℤ z) (held_back tt p).is ∙ same);
      within = within_is refl same (within_sign (half_sign_cases (cy % 2) (mod-lt _ (omega arith))) p.within);
    }

module _ {f scale h v d : ℤ} (cy : ℕ) (b : PairBounds f scale (half_sign (cy % 2) *ℤ scale) h v d) where
  abbrev turned : ℤ
  turned = half_sign (cy % 2) *ℤ scale

  middle : {r : ℤ} → mag r < 2 ^ 63 → r ≡ half_sign (cy % 2) *ℤ back (back scale *ℤ back v) → Held (parent_limit + parent_limit) (back f +ℤ back r) (f +ℤ turned *ℤ v)
  middle k e = held-add (held_number tt b.figure_within) (signed cy scale v k (product_v b) e)

  across : {r : ℤ} → mag r < 2 ^ 63 → r ≡ half_sign (cy % 2) *ℤ back (back scale *ℤ back d)
      → Held (parent_limit + parent_limit) (back (back scale *ℤ back h) +ℤ back r) (scale *ℤ h +ℤ turned *ℤ d)
  across k e = held-add (held_back tt (product_h b)) (signed cy scale d k (product_d b) e)

pub overflow_mul-scale : goal.overflow_mul-scale
overflow_mul-scale c = held_fits tt (product_v c.requires)

pub turned_in_row-requires : goal.turned_in_row-requires
turned_in_row-requires c = held_within (held_back tt (product_v c.requires))

pub overflow_add-middle : goal.overflow_add-middle
overflow_add-middle c = held_fits tt (middle c.args.cy c.requires c.turned_in_row.type_inv c.turned_in_row.ensures)

pub overflow_mul-across : goal.overflow_mul-across
overflow_mul-across c = held_fits tt (product_h c.requires)

pub overflow_mul-scale-2 : goal.overflow_mul-scale-2
overflow_mul-scale-2 c = held_fits tt (product_d c.requires)

pub turned_in_row-requires-2 : goal.turned_in_row-requires-2
turned_in_row-requires-2 c = held_within (held_back tt (product_d c.requires))

pub overflow_add-across : goal.overflow_add-across
overflow_add-across c = held_fits tt (across c.args.cy c.requires c.turned_in_row-2.type_inv c.turned_in_row-2.ensures)

pub overflow_add-result : goal.overflow_add-result
overflow_add-result c =
    held_fits tt
    (held-add (held_back tt (middle c.args.cy c.requires c.turned_in_row.type_inv c.turned_in_row.ensures))
    (held_back tt (across c.args.cy c.requires c.turned_in_row-2.type_inv c.turned_in_row-2.ensures)))

pub overflow_sub-result : goal.overflow_sub-result
overflow_sub-result c =
    held_fits tt
    (held_sub (held_back tt (middle c.args.cy c.requires c.turned_in_row.type_inv c.turned_in_row.ensures))
    (held_back tt (across c.args.cy c.requires c.turned_in_row-2.type_inv c.turned_in_row-2.ensures)))

pub returns : goal.returns
returns c =
    let m = held_back tt (middle c.args.cy c.requires c.turned_in_row.type_inv c.turned_in_row.ensures) in
    let a = held_back tt (across c.args.cy c.requires c.turned_in_row-2.type_inv c.turned_in_row-2.ensures) in
    ap₂ (λ (l r : ℤ). record { left = l; right = r }) (held_back tt (held-add m a)).is (held_back tt (held_sub m a)).is
