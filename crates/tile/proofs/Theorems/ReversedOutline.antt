-- Laws of what specs/ReversedOutline.antt defines. The head of that file lists the main results.
use Rattle.std.specs.Prelude.{◌≡◌, refl, Bool, not, ◌&&◌, ◌||◌, List, [], ◌∷◌, map, reverse, ℕ, ◌*◌, eqb, length, ℤ, pos}
use Rattle.std.proofs.Common.{sym, ◌∙◌, ap, ap₂}
use Rattle.integers.specs.Units.{steps_per_pixel}
use Rattle.integers.specs.Tests.{every, between}
use Rattle.placement.specs.declared.Placement.{Placement}
use Rattle.placement.specs.declared.Placement.TheVariants.{None}
use Rattle.placement.specs.Placed.{placed, is_moving, floats_usable, is_movable}
use Rattle.placement.proofs.Laws.PlacedPoints.{placed-length}
use Rattle.accuracy.specs.Outline.{contours_of, points_of, edge_count}
use Rattle.accuracy.proofs.Laws.Reversal.{EdgesReversed, outline_edges-reverse}
use Rattle.tile.specs.Questions.{first_no, question1, question4, question5}
use Rattle.tile.specs.Outcomes.{if_done, edges_of, build_refusal, build_result, build_table, placed_refusal, placed_result, placed_table, greys_picture}
use Rattle.tile.proofs.Theorems.PlacedOutline.{placed_none_as_built}
use Rattle.tile.specs.Written.{Contour, coordinates_of, coordinates, counts_of}
use Rattle.tile.specs.Letters.{letter_a, letter_b, letter_g, letter_h, counts as one_count}
use Rattle.tile.proofs.Laws.Accepted.{accepted, placed-accepted}
use Rattle.tile.proofs.Laws.Written.{contours_back, coordinates-length, coordinates-back}
use Rattle.tile.proofs.Laws.ReversedContours.{reverse-counts, reverse-placed}
use Rattle.tile.specs.EitherWay.{opposite}
use Rattle.tile.proofs.Theorems.EitherWay.{either_way_every, either_way_table, either_way_placed_table, either_way_placed_greys}
use Rattle.tile.proofs.Theorems.EitherWayGreys.{either_way_greys}
use Rattle.tile.specs.ReversedOutline.{reversed}

-- ---- where question 3 is answered yes
module _ (points : List ℤ) (counts : List ℕ) (long : length points ≡ 2 * edge_count counts) where
  abbrev cs : List Contour
  cs = contours_of counts points

  same_points : coordinates cs ≡ points
  same_points = (coordinates-back counts points long).0

  same_counts : counts_of cs ≡ counts
  same_counts = (coordinates-back counts points long).1

  still_counts : counts_of (map reverse cs) ≡ counts
  still_counts = reverse-counts cs ∙ same_counts

  pub reversed-length : length (reversed points counts) ≡ 2 * edge_count counts
  reversed-length = coordinates-length (map reverse cs) ∙ ap (λ n. 2 * edge_count n) still_counts

  pub edges_of_reversed : EdgesReversed (edges_of points counts) (edges_of (reversed points counts) counts)
  edges_of_reversed =
      let read : contours_of counts (reversed points counts) ≡ map reverse cs =
      ap (λ n. contours_of n (reversed points counts)) (sym still_counts) ∙ contours_back (map reverse cs) in
      rw read (outline_edges-reverse cs)

  pub reversed-every : (test : ℤ → Bool) → every test (reversed points counts) ≡ every test points
  reversed-every = either_way_every points counts (reversed points counts) counts long reversed-length edges_of_reversed

module _ (points : List ℤ) (counts : List ℕ) (long : length points ≡ 2 * edge_count counts) (placement : Placement) where
  long_placed : length (placed placement points) ≡ 2 * edge_count counts
  long_placed = placed-length placement points ∙ long

  -- reversed as they are handed over, and then placed
  placed-reversed : placed placement (reversed points counts) ≡ reversed (placed placement points) counts
  placed-reversed =
      reverse-placed placement (contours_of counts points)
      ∙ ap₂ (λ l n. reversed (placed placement l) n) (same_points points counts long) (same_counts points counts long)

  pub edges_of_reversed-placed : EdgesReversed (edges_of (placed placement points) counts) (edges_of (placed placement (reversed points counts)) counts)
  edges_of_reversed-placed = rw placed-reversed (edges_of_reversed (placed placement points) counts long_placed)

  module _ (side : ℕ) (before other : List ℤ) (e : length other ≡ length before) where
    reversed-placed_number : placed_refusal side (reversed points counts) counts placement other ≡ placed_refusal side points counts placement before
    reversed-placed_number =
        let on_tile = between (pos 0) (pos (steps_per_pixel * side)) in
        let number : ℕ → ℕ → Bool → Bool → ℕ = λ entries coordinates movable inside.
        first_no
        (question1 side ∷ record { number = 2; answer = eqb entries (side * side) } ∷ question4 counts ∷ question5 counts
        ∷ record { number = 3; answer = eqb coordinates (2 * edge_count counts) }
        ∷ record { number = 12; answer = not (is_moving placement) || (floats_usable placement && movable) } ∷ record { number = 6; answer = inside } ∷ []) in
        ap₂ (λ m n. number m n (every is_movable (reversed points counts)) (every on_tile (placed placement (reversed points counts)))) e
        (reversed-length points counts long ∙ sym long)
        ∙ ap₂ (number (length before) (length points)) (reversed-every points counts long is_movable)
        (ap (every on_tile) placed-reversed ∙ reversed-every (placed placement points) counts long_placed on_tile)

    pub reversed-placed_result : placed_result side (reversed points counts) counts placement other ≡ placed_result side points counts placement before
    reversed-placed_result = ap (λ n. record { number = n; edges = if_done n (edge_count counts) 0 }) reversed-placed_number

pub reversed_result : (points : List ℤ) (counts : List ℕ) → length points ≡ 2 * edge_count counts → (side : ℕ) (before other : List ℤ)
    → length other ≡ length before → build_result side (reversed points counts) counts other ≡ build_result side points counts before
reversed_result points counts long side before other e =
    sym (placed_none_as_built side (reversed points counts) counts other).0 ∙ reversed-placed_result points counts long None side before other e
    ∙ (placed_none_as_built side points counts before).0

-- ---- so, where the outline is accepted, over any other table that is as long
module _ (side : ℕ) (points : List ℤ) (counts : List ℕ) (before other : List ℤ) (e : length other ≡ length before) where
  module _ (done : build_refusal side points counts before ≡ 0) where
    enough : length points ≡ 2 * edge_count counts
    enough = (accepted side points counts before done).points_length

    done_reversed : build_refusal side (reversed points counts) counts other ≡ 0
    done_reversed = ap (λ b. b.number) (reversed_result points counts enough side before other e) ∙ done

    pub reversed_table : build_table side (reversed points counts) counts other ≡ opposite (build_table side points counts before)
    reversed_table = either_way_table side points counts before (reversed points counts) counts other done done_reversed (edges_of_reversed points counts enough)

    pub reversed_greys : (level : ℕ) (picture : List ℕ)
        → greys_picture side level (build_table side (reversed points counts) counts other) picture
        ≡ greys_picture side level (build_table side points counts before) picture
    reversed_greys = either_way_greys side points counts before (reversed points counts) counts other done done_reversed (edges_of_reversed points counts enough)

  module _ (placement : Placement) (done : placed_refusal side points counts placement before ≡ 0) where
    enough_placed : length points ≡ 2 * edge_count counts
    enough_placed = sym (placed-length placement points) ∙ (placed-accepted side points counts placement before done).points_length

    done_placed : placed_refusal side (reversed points counts) counts placement other ≡ 0
    done_placed = reversed-placed_number points counts enough_placed placement side before other e ∙ done

    pub reversed-placed_table : placed_table side (reversed points counts) counts placement other ≡ opposite (placed_table side points counts placement before)
    reversed-placed_table =
        either_way_placed_table side points counts before (reversed points counts) counts other placement placement done done_placed
        (edges_of_reversed-placed points counts enough_placed placement)

    pub reversed-placed_greys : (level : ℕ) (picture : List ℕ)
        → greys_picture side level (placed_table side (reversed points counts) counts placement other) picture
        ≡ greys_picture side level (placed_table side points counts placement before) picture
    reversed-placed_greys =
        either_way_placed_greys side points counts before (reversed points counts) counts other placement placement done done_placed
        (edges_of_reversed-placed points counts enough_placed placement)

-- ---- 01's letters
pub letter_a-reversed : reversed letter_a.points (one_count letter_a) ≡ letter_b.points
unfolding contours_of points_of coordinates coordinates_of
letter_a-reversed = refl

pub letter_g-reversed : reversed letter_g.points (one_count letter_g) ≡ letter_h.points
unfolding contours_of points_of coordinates coordinates_of
letter_g-reversed = refl
