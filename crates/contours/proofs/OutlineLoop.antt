-- An outline contour by contour: what is left to add of it goes down, and the table that it comes to stays.
--
-- Main results
--   Left                                              contours are left to add to a table, which then is `end`
--   left_none                                         none
--   left_from, left_end                               the same of those from number k on
--   first_bounds, first_fits, first_in                what the first of them asks for: its coordinates, room for its edges, and that they are in view
--   left_step                                         the others are left once it is added
use mathlib.Core.Path.{◌≡◌, sym, ◌∙◌, ap, subst, subst⁻¹}
use mathlib.Core.List.{List, [], ◌∷◌}
use Prim.Native.Nat.{ℕ, ◌+◌, ◌*◌, ◌/◌, ◌<◌, ◌≤◌}
use native.Mathlib.Omega.{arith}
use native.Mathlib.Numerals.{add-one}
use lib.ListN.{length, get_or, take, drop, length-drop, drop_of_length-le}
use lib.Seq.{drop-cons, length-take-le}
use lib.IntN.{ℤ, pos}
use Rattle.integers.specs.Within.{Within}
use Rattle.integers.specs.ListSum.{All, tally}
use Rattle.integers.proofs.Theorems.ListSum.{all_front, all_back}
use Rattle.edge.specs.declared.Edge.{Edge}
use Rattle.accuracy.specs.Outline.{Point, points_of, contours_of, edge_count, contour_edges, outline_edges}
use Rattle.accuracy.proofs.Laws.Contours.{contour_edges-length}
use Rattle.accuracy.proofs.Laws.Coordinates.{taken_points}
use Rattle.rasterize.specs.declared.View.{View}
use Rattle.rasterize.specs.Added.{added}
use Rattle.rasterize.specs.Ready.{Fits}
use Rattle.rasterize.specs.Views.{InView}
use Rattle.rasterize.specs.Laws.Sums.{edges_part}
use Rattle.rasterize.proofs.Laws.Sums.{added_append, added_no_edges}
use Rattle.rasterize.proofs.Laws.Fitting.{fits_le, fits_edges}

-- the table with an outline added
abbrev pub outlined : View → ℕ → ℤ → List ℕ → List ℤ → List ℤ → List ℤ
outlined view depth sign counts points table = added table (edges_part view depth sign (outline_edges (contours_of counts points)))

-- ---- an outline that is left to add to a table, which then is `end`: what the function asks for, of the counts and coordinates that are left
module _ (view : View) (depth : ℕ) (sign : ℤ) (end : List ℤ) where
  pub record Left (table : List ℤ) (counts : List ℕ) (points : List ℤ) : Type 0 where
    pub ends : end ≡ outlined view depth sign counts points table
    pub fits : Fits table depth (edge_count counts)
    pub enough : 2 * edge_count counts ≤ length points
    pub in_view : All (InView view depth) (outline_edges (contours_of counts points))

-- with no contour left, that is the table
pub left_none : {view : View} {depth : ℕ} {sign : ℤ} {end table points : List ℤ} → Left view depth sign end table [] points → end ≡ table
unfolding contours_of outline_edges
left_none {view} {depth} {sign} {end} {table} l = l.ends ∙ added_no_edges view depth sign table

-- those from number k on
pub left_from : {view : View} {depth : ℕ} {sign : ℤ} {end table : List ℤ} (counts : List ℕ) (k : ℕ) {points : List ℤ} → Left view depth sign end table (drop k counts) points
    → k < length counts → Left view depth sign end table (get_or counts k 0 ∷ drop (k + 1) counts) points
left_from {view} {depth} {sign} {end} {table} counts k {points} l h =
    subst (λ cs. Left view depth sign end table cs points) (drop-cons counts k 0 h ∙ ap (λ i. get_or counts k 0 ∷ drop i counts) (sym (add-one k))) l

pub left_end : {view : View} {depth : ℕ} {sign : ℤ} {end table : List ℤ} (counts : List ℕ) (k : ℕ) {points : List ℤ} → Left view depth sign end table (drop k counts) points
    → length counts ≤ k → end ≡ table
left_end {view} {depth} {sign} {end} {table} counts k {points} l h =
    left_none (subst (λ cs. Left view depth sign end table cs points) (drop_of_length-le counts h) l)

-- the first of the contours, of n points
module _ {view : View} {depth : ℕ} {sign : ℤ} {end table : List ℤ} {n : ℕ} {counts : List ℕ} {points : List ℤ} (l : Left view depth sign end table (n ∷ counts) points) where
  pub first_bounds : 2 * n ≤ length points
  unfolding tally
  first_bounds = omega (arith, l.enough)

  pub first_fits : Fits table depth (length (take (2 * n) points) / 2)
  unfolding tally
  first_fits = fits_le (omega (arith, length-take-le (2 * n) points first_bounds)) l.fits

  pub first_in : All (InView view depth) (contour_edges (points_of (take (2 * n) points)))
  unfolding contours_of outline_edges
  first_in = all_front (InView view depth) (contour_edges (points_of (take (2 * n) points))) (outline_edges (contours_of counts (drop (2 * n) points))) l.in_view

  pub left_step : {after : List ℤ} → Within (pos 1) sign → after ≡ added table (edges_part view depth sign (contour_edges (points_of (take (2 * n) points))))
      → Left view depth sign end after counts (drop (2 * n) points)
  unfolding contours_of outline_edges tally
  left_step {after} s a = record {
    ends = l.ends ∙ added_append view depth sign table es rest ∙ ap (λ t. added t (edges_part view depth sign rest)) (sym a);
    fits = subst⁻¹ (λ t. Fits t depth (edge_count counts)) a
        (fits_edges s view es (edge_count counts) first_in
        (fits_le (omega (arith, contour_edges-length ps, taken_points n points first_bounds)) l.fits));
    enough = omega (arith, l.enough, length-drop (2 * n) points);
    in_view = all_back (InView view depth) es rest l.in_view;
  }
    where
      ps : List Point
      ps = points_of (take (2 * n) points)

      es : List Edge
      es = contour_edges ps

      rest : List Edge
      rest = outline_edges (contours_of counts (drop (2 * n) points))
