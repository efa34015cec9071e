-- Laws of what specs/Chords.antt defines. The head of that file lists the main results.
use Rattle.std.specs.Prelude.{◌≡◌, refl, [], ◌∷◌, ◌+◌, length, ℤ, pos}
use Rattle.integers.specs.ListSum.{tally, joined}
use Rattle.integers.specs.Rounding.{floor, round_half_up}
use Rattle.curve.specs.Curve.{splits_from}
use Rattle.haar.specs.Pictures.{tabulate}
use Rattle.accuracy.specs.Outline.{Point, edge_between}
use Rattle.chords.specs.Sides.{sides_from, marked_contour}
use Rattle.chords.specs.Chords.{chords_of, contour_chords}

-- A check, by computing: two straight edges, and the curve that closes the contour, with its control point at the end of the coordinates. Its bend is −512
-- across, so it has 16 chords, and not one.
closing-curve :
    length (contour_chords (marked_contour (0 ∷ 0 ∷ 1 ∷ []) (pos 0 ∷ pos 0 ∷ pos 256 ∷ pos 0 ∷ pos 0 ∷ pos 256 ∷ pos 256 ∷ pos 256 ∷ []))) ≡ 2 + 16
unfolding tally joined sides_from chords_of splits_from tabulate
closing-curve = refl

-- And edge by edge, where the two coordinates bend otherwise: half way the curve is at 15/2, which goes to 8, and at 12.
abbrev point : ℤ → ℤ → Point
point x y = record { x = x; y = y }

drawn-edges :
    contour_chords (marked_contour (0 ∷ 0 ∷ 1 ∷ []) (pos 0 ∷ pos 0 ∷ pos 20 ∷ pos 0 ∷ pos 20 ∷ pos 16 ∷ pos 5 ∷ pos 16 ∷ []))
    ≡ edge_between (point (pos 0) (pos 0)) (point (pos 20) (pos 0)) ∷ edge_between (point (pos 20) (pos 0)) (point (pos 20) (pos 16))
    ∷ edge_between (point (pos 20) (pos 16)) (point (pos 8) (pos 12)) ∷ edge_between (point (pos 8) (pos 12)) (point (pos 0) (pos 0)) ∷ []
unfolding tally joined sides_from chords_of splits_from tabulate round_half_up floor
drawn-edges = refl
