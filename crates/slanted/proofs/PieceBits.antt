-- The sums of a piece, of numbers that are read back from their bits, where it is sound.
--
-- Main results
--   x_sum, y_sum, turned_sum     what is answered for each sum
--   divisor_fits, divisor_back   the divisor
--   signed_by_eq                 three numbers with their signs
use Rattle.std.proofs.Common.{◌≡◌, ◌∙◌, ap, ap₂, ℤ, pos, ◌≤ℤ◌, ◌<ℤ◌, w64, SFits, to_z-of_z}
use Rattle.std.proofs.Math.Path.{subst⁻¹}
use Rattle.integers.proofs.Theorems.Order.{≤ℤ_of_<ℤ}
use Rattle.integers.proofs.Theorems.Within.{within_le, within_self}
use Rattle.integers.specs.Bits.{back}
use Rattle.integers.proofs.Theorems.Bits.{back_is, fits_within}
use Rattle.integers.specs.Held.{Held}
use Rattle.integers.proofs.Theorems.Held.{held_back}
use Rattle.edge.specs.Room.{crossing_limit}
use Rattle.slanted.specs.declared.Slope.{Slope}
use Rattle.slanted.specs.declared.Piece.{Piece}
use Rattle.slanted.specs.Under.{under, turned, under_limit, sum_limit}
use Rattle.slanted.specs.Pieces.{signed_by, Sound}
use Rattle.slanted.proofs.Laws.Sums.{turned-range}
use Rattle.slanted.proofs.SumBits.{under_back, sum_within, turned-eq}

module _ {l : Slope} {k : Piece} (r : Sound l k) where
  from-fits : SFits w64 k.first
  from-fits = fits_within tt r.arch_x.from

  to_fits : SFits w64 k.last
  to_fits = fits_within tt r.arch_x.to

  pub x_sum : {z : ℤ} → z ≡ under (back k.half_x) (back k.middle_x) (back k.first) (back k.last)
      → Held under_limit (back z) (under k.half_x k.middle_x k.first k.last)
  x_sum e =
      held_back tt (record { is = e ∙ under_back (fits_within tt r.arch_x.peak) (fits_within tt r.arch_x.middle) from-fits to_fits; within = sum_within r.arch_x })

  pub y_sum : {z : ℤ} → z ≡ under (back k.half_y) (back k.middle_y) (back k.first) (back k.last)
      → Held under_limit (back z) (under k.half_y k.middle_y k.first k.last)
  y_sum e =
      held_back tt (record { is = e ∙ under_back (fits_within tt r.arch_y.peak) (fits_within tt r.arch_y.middle) from-fits to_fits; within = sum_within r.arch_y })

  turned-back : turned (back k.half_x) (back k.middle_x) (back k.first) (back k.last) (back k.middle_y)
      ≡ turned k.half_x k.middle_x k.first k.last k.middle_y
  turned-back =
      turned-eq (back_is tt r.arch_x.peak) (back_is tt r.arch_x.middle) (to_z-of_z from-fits) (to_z-of_z to_fits) (back_is tt r.arch_y.middle)

  pub turned_sum : {z : ℤ} → z ≡ turned (back k.half_x) (back k.middle_x) (back k.first) (back k.last) (back k.middle_y)
      → Held sum_limit z (turned k.half_x k.middle_x k.first k.last k.middle_y)
  turned_sum e = record { is = e ∙ turned-back; within = turned-range r.arch_x k.middle_y }

  pub divisor_fits : SFits w64 l.divisor
  divisor_fits = fits_within {b = crossing_limit} tt (within_le r.limit (within_self (≤ℤ_of_<ℤ r.above)))

  pub divisor_back : (pos 0 <ℤ back l.divisor) × (back l.divisor ≤ℤ pos crossing_limit)
  divisor_back = (subst⁻¹ (λ z. pos 0 <ℤ z) (to_z-of_z divisor_fits) r.above, subst⁻¹ (λ z. z ≤ℤ pos crossing_limit) (to_z-of_z divisor_fits) r.limit)

pub signed_by_eq : (l : Slope) {h h' v v' d d' : ℤ} → h ≡ h' → v ≡ v' → d ≡ d' → signed_by l h v d ≡ signed_by l h' v' d'
signed_by_eq l {h} {h'} {v} {v'} {d} {d'} i j k = ap₂ (λ x y. signed_by l x y d) i j ∙ ap (signed_by l h' v') k
