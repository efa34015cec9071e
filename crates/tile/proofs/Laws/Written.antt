-- Contours written as an outline: they are read back as they were.
--
-- Main results
--   contours_back                the contours of the outline are those that it was made of
--   back_points, points_back     points and their coordinates undo each other
--   coordinates_of-length        there are two coordinates for each point
--   coordinates-length           and two for each edge of the outline
--   coordinates-back             the outline of contours that were read from an outline is that one
--   contours_edges               its edge count
--   counts_asked,
--   coordinates_asked            question 4, and a test of every coordinate, are asked of every contour
use Rattle.std.specs.Prelude.{◌≡◌, refl, Bool, ◌&&◌, List, [], ◌∷◌, ◌++◌, ℕ, ◌+◌, ◌-◌, ◌*◌, leb, length, take, drop, ℤ}
use Rattle.std.proofs.Common.{sym, ◌∙◌, ap, ap₂, arith, length-append, length-drop, take-append-drop, take_at, length-take-le}
use Rattle.std.proofs.Math.Seq.{drop-append_seam}
use Rattle.integers.specs.Units.{fewest_points, most_points}
use Rattle.integers.specs.ListSum.{tally}
use Rattle.integers.specs.Tests.{every}
use Rattle.integers.proofs.Theorems.Every.{every_append}
use Rattle.accuracy.specs.Outline.{points_of, contours_of, edge_count}
use Rattle.accuracy.proofs.Laws.Coordinates.{taken_points}
use Rattle.tile.specs.Questions.{question4}
use Rattle.tile.specs.Written.{Contour, coordinates_of, coordinates, counts_of}

-- ---- one contour
pub back_points : (c : Contour) → points_of (coordinates_of c) ≡ c
unfolding points_of coordinates_of
back_points [] = refl
back_points (p ∷ c) = ap (λ l. p ∷ l) (back_points c)

pub coordinates_of-length : (c : Contour) → length (coordinates_of c) ≡ 2 * length c
unfolding coordinates_of
coordinates_of-length [] = refl
coordinates_of-length (p ∷ c) = omega (arith, coordinates_of-length c)

pub points_back : (n : ℕ) (l : List ℤ) → length l ≡ 2 * n → coordinates_of (points_of l) ≡ l
unfolding points_of coordinates_of
points_back n [] e = refl
points_back n (x ∷ []) e = absurd (omega arith)
points_back n (x ∷ y ∷ l) e = ap (λ r. x ∷ y ∷ r) (points_back (n - 1) l (omega arith))

-- ---- all of them
pub contours_back : (cs : List Contour) → contours_of (counts_of cs) (coordinates cs) ≡ cs
unfolding contours_of coordinates
contours_back [] = refl
contours_back (c ∷ cs) =
    ap₂ ◌∷◌ (ap points_of (take_at (coordinates_of c) (coordinates cs) (2 * length c) (coordinates_of-length c)) ∙ back_points c)
    (ap (contours_of (counts_of cs)) (ap (λ n. drop n (coordinates_of c ++ coordinates cs)) (sym (coordinates_of-length c)) ∙ drop-append_seam (coordinates_of c) (coordinates cs))
    ∙ contours_back cs)

pub coordinates-back : (counts : List ℕ) (points : List ℤ) → length points ≡ 2 * edge_count counts
    → (coordinates (contours_of counts points) ≡ points) × (counts_of (contours_of counts points) ≡ counts)
unfolding contours_of coordinates tally
coordinates-back [] [] e = (refl, refl)
coordinates-back [] (z ∷ points) e = absurd (omega arith)
coordinates-back (n ∷ counts) points e =
    let first : length (take (2 * n) points) ≡ 2 * n = length-take-le (2 * n) points (omega arith) in
    let rest = coordinates-back counts (drop (2 * n) points) (omega (arith, length-drop (2 * n) points)) in
    (ap₂ ◌++◌ (points_back n (take (2 * n) points) first) rest.0 ∙ take-append-drop (2 * n) points, ap₂ ◌∷◌ (taken_points n points (omega arith)) rest.1)

pub contours_edges : (cs : List Contour) → edge_count (counts_of cs) ≡ tally length cs
unfolding tally
contours_edges [] = refl
contours_edges (c ∷ cs) = ap (λ n. length c + n) (contours_edges cs)

pub coordinates-length : (cs : List Contour) → length (coordinates cs) ≡ 2 * edge_count (counts_of cs)
unfolding coordinates tally
coordinates-length [] = refl
coordinates-length (c ∷ cs) = length-append (coordinates_of c) (coordinates cs) ∙ omega (arith, coordinates_of-length c, coordinates-length cs)

-- ---- what is asked of them

pub counts_asked : (cs : List Contour) → (question4 (counts_of cs)).answer ≡ every (λ c. (question4 (length c ∷ [])).answer) cs
counts_asked [] = refl
counts_asked (c ∷ cs) =
    every_append (λ n. leb fewest_points n && leb n most_points) (length c ∷ []) (counts_of cs)
    ∙ ap (λ b. (question4 (length c ∷ [])).answer && b) (counts_asked cs)

pub coordinates_asked : (test : ℤ → Bool) (cs : List Contour) → every test (coordinates cs) ≡ every (λ c. every test (coordinates_of c)) cs
unfolding coordinates
coordinates_asked test [] = refl
coordinates_asked test (c ∷ cs) =
    every_append test (coordinates_of c) (coordinates cs) ∙ ap (λ b. every test (coordinates_of c) && b) (coordinates_asked test cs)
