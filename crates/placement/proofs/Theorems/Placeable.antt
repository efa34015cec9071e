-- Laws of what specs/Placeable.antt defines. The head of that file lists the main results.
use Rattle.std.specs.Prelude.{◌≡◌, ◌-◌, true, false, ◌↔◌, List, [], ◌∷◌, ℤ, pos, negsuc, neg_ℤ, refl, Float}
use Rattle.std.specs.Float.{fin}
use Rattle.integers.specs.Units.{factor_limit, offset_limit, movable_limit}
use Rattle.integers.specs.ListSum.{All}
use Rattle.integers.specs.Rounding.{floor, round_half_up}
use Rattle.integers.specs.Tests.{every}
use Rattle.integers.proofs.Theorems.Tests.{and_means, every_means, between_means}
use Rattle.placement.specs.Parts.{parts_of, is_multiple, one, nought}
use Rattle.placement.specs.Placed.{row_usable, is_movable, placeable, placed}
use Rattle.placement.proofs.Theorems.Multiples.{multiple_means}
use Rattle.placement.specs.declared.Placement.{Placement}
use Rattle.placement.specs.declared.Placement.TheVariants.{None, Shift, Scale, Turn}
use Rattle.placement.specs.Placeable.{Movable, Placeable, UsableRow}

-- ---- the same of its conditions
points_mean : (points : List ℤ) → (every is_movable points ≡ true) ↔ All Movable points
points_mean = every_means is_movable (between_means (neg_ℤ (pos movable_limit)) (pos (movable_limit - 1)))

row_means : (a b c : Float) → (row_usable a b c ≡ true) ↔ UsableRow a b c
row_means a b c = and_means _ _ (multiple_means factor_limit a) (and_means _ _ (multiple_means factor_limit b) (multiple_means offset_limit c))

pub placeable_means : (p : Placement) (points : List ℤ) → (placeable p points ≡ true) ↔ Placeable p points
placeable_means None points = (λ e. tt, λ u. refl)
placeable_means (Shift u v) points = and_means _ _ (and_means _ _ (multiple_means offset_limit u) (multiple_means offset_limit v)) (points_mean points)
placeable_means (Scale s) points = and_means _ _ (multiple_means factor_limit s) (points_mean points)
placeable_means (Turn m) points = and_means _ _ (and_means _ _ (row_means m.a m.b m.c) (row_means m.d m.e m.f)) (points_mean points)

-- ---- the ends of the range
least_movable : is_movable (neg_ℤ (pos 32768)) ≡ true
least_movable = refl

below_least_movable : is_movable (neg_ℤ (pos 32769)) ≡ false
below_least_movable = refl

greatest_movable : is_movable (pos 32767) ≡ true
greatest_movable = refl

above-greatest_movable : is_movable (pos 32768) ≡ false
above-greatest_movable = refl

-- ---- a quarter turn about the corner of a pixel, (x, y) to (256 − y, x), of 01's letter C
abbrev quarter_turn : Placement
quarter_turn = Turn (record { a = nought; b = fin true 1 (pos 0); c = fin false 1 (pos 8); d = one; e = nought; f = nought })

abbrev letter_c : List ℤ
letter_c = pos 0 ∷ pos 0 ∷ pos 256 ∷ pos 0 ∷ pos 0 ∷ pos 256 ∷ []

quarter_turn_placeable : placeable quarter_turn letter_c ≡ true
unfolding is_multiple
quarter_turn_placeable = refl

quarter_turn_lem : placed quarter_turn letter_c ≡ (pos 256 ∷ pos 0 ∷ pos 256 ∷ pos 256 ∷ pos 0 ∷ pos 0 ∷ [])
unfolding placed parts_of round_half_up floor
quarter_turn_lem = refl

-- ---- halves of both signs: a shift by 1/2 and −1/2, and a scale by −1/2
half_shift : placed (Shift (fin false 1 (negsuc 0)) (fin true 1 (negsuc 0))) (pos 0 ∷ pos 0 ∷ []) ≡ (pos 1 ∷ pos 0 ∷ [])
unfolding placed parts_of round_half_up floor
half_shift = refl

half_scale : placed (Scale (fin true 1 (negsuc 0))) (pos 1 ∷ negsuc 0 ∷ []) ≡ (pos 0 ∷ pos 1 ∷ [])
unfolding placed parts_of round_half_up floor
half_scale = refl
