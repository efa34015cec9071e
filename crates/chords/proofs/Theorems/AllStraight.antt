-- With every mark 0, the edges are those of the outline without marks, one for one and in order.
--
-- Main results
--   straight_contour             of a contour
--   straight_outline             of an outline
--   zeros-numbers, zeros-take    how many numbers marks that are all 0 ask for; the first n of them
use Rattle.std.specs.Prelude.{◌≡◌, refl, List, [], ◌∷◌, ◌++◌, ℕ, zero, suc, ◌+◌, ◌*◌, length, take, drop, replicate, ℤ}
use Rattle.std.proofs.Common.{◌∙◌, ap, ap₂, arith, zero-add, suc-add, length-drop, length-take-le}
use Rattle.integers.specs.ListSum.{tally, joined}
use Rattle.edge.specs.declared.Edge.{Edge}
use Rattle.accuracy.specs.Outline.{Point, points_of, point_at, contours_of, edge_count, edge_between, through, contour_edges, outline_edges}
use Rattle.chords.specs.Sides.{numbers, sides_from, marked_contours}
use Rattle.chords.specs.Chords.{chords_of, contour_chords, outline_chords}

-- through all points, to the last
abbrev through_all : List Point → Point → List Edge
through_all [] last = []
through_all (p ∷ ps) last = through p ps last

straight-through : (n : ℕ) (zs : List ℤ) (last : Point) → length zs ≡ 2 * n → joined chords_of (sides_from last (replicate n 0) zs) ≡ through_all (points_of zs) last
unfolding joined sides_from points_of through chords_of
straight-through zero [] last e = refl
straight-through zero (x ∷ zs) last e = absurd (omega arith)
straight-through (suc n) [] last e = absurd (omega arith)
straight-through (suc n) (x ∷ []) last e = absurd (omega arith)
straight-through (suc zero) (x ∷ y ∷ []) last e = refl
straight-through (suc zero) (x ∷ y ∷ z ∷ zs) last e = absurd (omega arith)
straight-through (suc (suc n)) (x ∷ y ∷ []) last e = absurd (omega arith)
straight-through (suc (suc n)) (x ∷ y ∷ z ∷ []) last e = absurd (omega arith)
straight-through (suc (suc n)) (x ∷ y ∷ z ∷ w ∷ zs) last e =
    ap (λ es. edge_between (record { x = x; y = y }) (record { x = z; y = w }) ∷ es) (straight-through (suc n) (z ∷ w ∷ zs) last (omega arith))

pub straight_contour : (n : ℕ) (zs : List ℤ) → length zs ≡ 2 * n → contour_chords (record { marks = replicate n 0; coordinates = zs }) ≡ contour_edges (points_of zs)
unfolding points_of contour_edges
straight_contour n zs e = straight-through n zs (point_at zs 0) e ∙ same n zs e
  where
    same : (n : ℕ) (zs : List ℤ) → length zs ≡ 2 * n → through_all (points_of zs) (point_at zs 0) ≡ contour_edges (points_of zs)
    same n [] e = refl
    same n (x ∷ []) e = refl
    same n (x ∷ y ∷ zs) e = refl

-- ---- contour by contour
pub zeros-numbers : (n : ℕ) → numbers (replicate n 0) ≡ 2 * n
unfolding tally
zeros-numbers zero = refl
zeros-numbers (suc n) = omega (arith, zeros-numbers n)

pub zeros-take : (n m : ℕ) → take {A = ℕ} n (replicate (n + m) 0) ≡ replicate n 0
zeros-take zero m = refl
zeros-take (suc n) m = ap (λ k. take {A = ℕ} (suc n) (replicate k 0)) (suc-add n m) ∙ ap (λ l. 0 ∷ l) (zeros-take n m)

zeros-drop : (n m : ℕ) → drop {A = ℕ} n (replicate (n + m) 0) ≡ replicate m 0
zeros-drop zero m = ap (λ k. replicate k 0) (zero-add m)
zeros-drop (suc n) m = ap (λ k. drop {A = ℕ} (suc n) (replicate k 0)) (suc-add n m) ∙ zeros-drop n m

pub straight_outline : (counts : List ℕ) (zs : List ℤ) → length zs ≡ 2 * edge_count counts
    → outline_chords (marked_contours counts (replicate (edge_count counts) 0) zs) ≡ outline_edges (contours_of counts zs)
unfolding tally joined marked_contours contours_of outline_edges
straight_outline [] zs e = refl
straight_outline (n ∷ counts) zs e =
    let m = edge_count counts in
    let first = zeros-take n m in
    let own : numbers (take n (replicate (n + m) 0)) ≡ 2 * n = ap numbers first ∙ zeros-numbers n in
    ap₂ (λ l k. contour_chords (record { marks = l; coordinates = take k zs }) ++ outline_chords (marked_contours counts (drop n (replicate (n + m) 0)) (drop k zs))) first own
    ∙ ap₂ ◌++◌ (straight_contour n (take (2 * n) zs) (length-take-le (2 * n) zs (omega arith)))
    (ap (λ l. outline_chords (marked_contours counts l (drop (2 * n) zs))) (zeros-drop n m)
    ∙ straight_outline counts (drop (2 * n) zs) (omega (arith, length-drop (2 * n) zs)))
