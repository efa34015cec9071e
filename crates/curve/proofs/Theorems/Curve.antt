-- Laws of what specs/Curve.antt defines. The head of that file lists the main results.
use Rattle.std.specs.Prelude.{◌≡◌, refl, pos, neg_ℤ}
use Rattle.integers.specs.Units.{greatest_sheet_coordinate, most_splits}
use Rattle.integers.specs.Rounding.{floor, round_half_up}
use Rattle.curve.specs.Curve.{bend, chord_end, splits, splits_from}

-- Checks, by computing. The curve 0, 6, 0 is at 3 half way, where its control polygon is at 6; and 0, 0, 6 at 3/2, a half, which goes to the larger.
half_way : chord_end (pos 0) (pos 6) (pos 0) 1 1 ≡ pos 3
unfolding round_half_up floor
half_way = refl

half_up : chord_end (pos 0) (pos 0) (pos 6) 1 1 ≡ pos 2
unfolding round_half_up floor
half_up = refl

-- A bend of 4 either way needs one chord, and one of 5 two. 7 splits are needed from one side of the greatest sheet to the other and back.
one_chord : splits (pos 4) (neg_ℤ (pos 4)) ≡ 0
unfolding splits_from
one_chord = refl

two_chords : splits (pos 0) (neg_ℤ (pos 5)) ≡ 1
unfolding splits_from
two_chords = refl

most_needed : splits (bend (pos 0) (pos greatest_sheet_coordinate) (pos 0)) (pos 0) ≡ most_splits
unfolding splits_from
most_needed = refl
