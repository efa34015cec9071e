-- Laws of what specs/EitherWay.antt defines. The head of that file lists the main results.
use Rattle.std.specs.Prelude.{◌≡◌, refl, Bool, ℕ, zero, suc, ◌*◌, ◌^◌, eqb, leb, length, ℤ, pos, neg_ℤ, ◌*ℤ◌}
use Rattle.std.proofs.Common.{sym, ◌∙◌, ap, ap₂, arith}
use Rattle.std.proofs.Math.Path.{fun_ext}
use mathlib.Core.List.{List, [], ◌∷◌, reverse_perm}
use Rattle.std.proofs.lemmas.List.{length-map}
use Rattle.integers.specs.Units.{steps_per_pixel, most_edges, entry_limit}
use Rattle.integers.proofs.Theorems.Ring.{read, ring}
use Rattle.integers.specs.Tests.{every, between}
use Rattle.integers.proofs.Theorems.Tests.{within_neg_same}
use Rattle.integers.proofs.Theorems.Every.{every_map}
use Rattle.edge.specs.declared.Edge.{Edge}
use Rattle.haar.specs.Entries.{entries}
use Rattle.haar.specs.Greys.{grey}
use Rattle.haar.specs.Plane.{dimensions, at, figure_in}
use Rattle.haar.proofs.Laws.Greys.{grey-neg}
use Rattle.haar.proofs.Laws.Opposite.{figure-opposite, figures_opposite, greys_opposite, entries-opposite}
use Rattle.placement.specs.declared.Placement.{Placement}
use Rattle.placement.specs.Placed.{placed}
use Rattle.placement.proofs.Laws.PlacedPoints.{placed-length}
use Rattle.accuracy.specs.Outline.{contours_of, points_of, through, contour_edges, outline_edges, edge_count}
use Rattle.accuracy.specs.ExactArea.{denominator, exact_area_num}
use Rattle.accuracy.specs.OutlineTable.{outline_table}
use Rattle.accuracy.proofs.Laws.Coordinates.{contours_of-count}
use Rattle.accuracy.proofs.Laws.Reversal.{EdgesReversed, outline_table-reversed, length-reversed, denominator-reversed, exact_area_reversed}
use Rattle.tile.specs.Questions.{Question, Yes, depth_of, first_no, question1, question2, question4, question7, question8, question9, question10, question12}
use Rattle.tile.specs.Outcomes.{if_done, edges_of, edges_table, build_refusal, build_table, placed_refusal, placed_table}
use Rattle.tile.specs.Outcomes.{table_of, draw_refusal, figures_picture, greys_picture, cell_refusal, cell_result}
use Rattle.tile.proofs.Theorems.Refusals.{building_refusals, placed_refusals, question3_means}
use Rattle.tile.proofs.Theorems.DrawnFigures.{figures_drawn}
use Rattle.tile.specs.Faithful.{figure_num}
use Rattle.tile.proofs.Theorems.PlacedOutline.{placed_number}
use Rattle.tile.specs.Letters.{letter_a, counts as one_count}
use Rattle.tile.proofs.Laws.IfDone.{if_done_lem}
use Rattle.tile.proofs.Laws.Accepted.{placed-accepted}
use Rattle.tile.proofs.Laws.BuiltTable.{built_is}
use Rattle.tile.proofs.Laws.Written.{coordinates-back}
use Rattle.tile.proofs.Laws.ReversedContours.{back-every}
use Rattle.tile.specs.EitherWay.{opposite}

-- ---- any table, and the opposite one: questions 2 and 9 are answered alike
module _ (side : ℕ) (table : List ℤ) where
  same_length : question2 side (opposite table) ≡ question2 side table
  same_length = ap (λ n. record { number = 2; answer = eqb n (side * side) }) (length-map table neg_ℤ)

  same_range : question9 (opposite table) ≡ question9 table
  same_range =
      let within = between (neg_ℤ (pos entry_limit)) (pos entry_limit) in
      ap (λ b. record { number = 9; answer = b }) (every_map within neg_ℤ table ∙ ap (λ f. every f table) (fun_ext (within_neg_same (pos entry_limit))))

  pub opposite_number : (level size : ℕ) → draw_refusal side level (opposite table) size ≡ draw_refusal side level table size
  opposite_number level size =
      ap₂ (λ (q r : Question). first_no (question1 side ∷ q ∷ question7 side level ∷ question8 level size ∷ r ∷ [])) same_length same_range

  pub opposite_greys : (level : ℕ) (picture : List ℕ) → greys_picture side level (opposite table) picture ≡ greys_picture side level table picture
  opposite_greys level picture =
      ap₂ (λ n drawn. if_done n drawn picture) (opposite_number level (length picture)) (greys_opposite dimensions table side level)

  pub opposite_figures : (level : ℕ) (picture : List ℤ) → draw_refusal side level table (length picture) ≡ 0
      → figures_picture side level (opposite table) picture ≡ opposite (figures_picture side level table picture)
  opposite_figures level picture done =
      figures_drawn side level (opposite table) picture (opposite_number level (length picture) ∙ done)
      ∙ figures_opposite dimensions table level
      ∙ sym (ap opposite (figures_drawn side level table picture done))

  pub opposite_cell : (level cx cy : ℕ)
      → cell_result side level cx cy (opposite table)
      ≡ record { number = (cell_result side level cx cy table).number; figure = neg_ℤ (cell_result side level cx cy table).figure }
  opposite_cell level cx cy =
      let same : cell_refusal side level cx cy (opposite table) ≡ cell_refusal side level cx cy table =
      ap₂ (λ (q r : Question). first_no (question1 side ∷ q ∷ question7 side level ∷ question10 level cx cy ∷ r ∷ [])) same_length same_range in
      ap₂ (λ n f. record { number = n; figure = if_done n f (pos 0) }) same (figure-opposite dimensions table level (at cx cy))
      ∙ ap (λ f. record { number = cell_refusal side level cx cy table; figure = f }) (turned (cell_refusal side level cx cy table))
    where
      turned : (n : ℕ) → if_done n (neg_ℤ (figure_in table level cx cy)) (pos 0) ≡ neg_ℤ (if_done n (figure_in table level cx cy) (pos 0))
      turned zero = refl
      turned (suc n) = refl

-- ---- edges, each walked backwards
module _ (side : ℕ) (es : List Edge) {fs : List Edge} (back : EdgesReversed es fs) where
  pub reversed_edges_table : edges_table side fs ≡ opposite (edges_table side es)
  reversed_edges_table =
      ap (entries dimensions (depth_of side)) (outline_table-reversed (depth_of side) es back)
      ∙ entries-opposite dimensions (depth_of side) (outline_table (depth_of side) es)

  pub reversed_edges_exact_grey : (level cx cy : ℕ) → grey side (figure_num side fs level cx cy) (denominator fs) ≡ grey side (figure_num side es level cx cy) (denominator es)
  reversed_edges_exact_grey level cx cy =
      let area = exact_area_num (depth_of side) es level (at cx cy) in
      let out : pos (4 ^ level) *ℤ neg_ℤ area ≡ neg_ℤ (pos (4 ^ level) *ℤ area) = ring (pos (4 ^ level) ∷ area ∷ []) (search read depth 40) tt in
      ap₂ (grey side) (ap (λ z. pos (4 ^ level) *ℤ z) (exact_area_reversed es back (depth_of side) level (at cx cy)) ∙ out) (denominator-reversed es back)
      ∙ grey-neg side (figure_num side es level cx cy) (denominator es)

-- ---- two outlines, of as many points as their counts say, the edges of one those of the other, each walked backwards
module _ (points : List ℤ) (counts : List ℕ) (points' : List ℤ) (counts' : List ℕ) (long : length points ≡ 2 * edge_count counts)
    (long' : length points' ≡ 2 * edge_count counts') (back : EdgesReversed (edges_of points counts) (edges_of points' counts')) where
  pub either_way_count : edge_count counts' ≡ edge_count counts
  either_way_count =
      sym (contours_of-count counts' points' (omega arith)) ∙ length-reversed (edges_of points counts) back ∙ contours_of-count counts points (omega arith)

  pub either_way_every : (test : ℤ → Bool) → every test points' ≡ every test points
  either_way_every test =
      sym (ap (every test) (coordinates-back counts' points' long').0) ∙ back-every test (contours_of counts points) (contours_of counts' points') back
      ∙ ap (every test) (coordinates-back counts points long).0

  pub either_way_accepted : (side : ℕ) (before other : List ℤ) → build_refusal side points counts before ≡ 0 → Yes (question4 counts')
      → length other ≡ length before → build_refusal side points' counts' other ≡ 0
  either_way_accepted side before other done four e =
      let yes = (building_refusals side points counts before).accepted.0 done in
      (building_refusals side points' counts' other).accepted.1 (
        yes.0,
        (
          ap (λ n. eqb n (side * side)) e ∙ yes.1.0,
          (
            four,
            (
              ap (λ n. leb n most_edges) either_way_count ∙ yes.1.1.1.0,
              (
                (question3_means points' counts').1 long',
                (either_way_every (between (pos 0) (pos (steps_per_pixel * side))) ∙ yes.1.1.1.1.1.0, tt),
              ),
            ),
          ),
        ),
      )

-- ---- two outlines that are accepted; `before` and `other` are what the tables held
module _ (side : ℕ) (points : List ℤ) (counts : List ℕ) (before points' : List ℤ) (counts' : List ℕ) (other : List ℤ) where
  module _ (done : build_refusal side points counts before ≡ 0) (done' : build_refusal side points' counts' other ≡ 0)
      (back : EdgesReversed (edges_of points counts) (edges_of points' counts')) where
    pub either_way_table : build_table side points' counts' other ≡ opposite (build_table side points counts before)
    either_way_table =
        built_is side points' counts' other done' ∙ reversed_edges_table side (edges_of points counts) back
        ∙ sym (ap opposite (built_is side points counts before done))

  module _ (p p' : Placement) (done : placed_refusal side points counts p before ≡ 0) (done' : placed_refusal side points' counts' p' other ≡ 0)
      (back : EdgesReversed (edges_of (placed p points) counts) (edges_of (placed p' points') counts')) where
    pub either_way_placed_table : placed_table side points' counts' p' other ≡ opposite (placed_table side points counts p before)
    either_way_placed_table =
        if_done_lem (table_of side (placed p' points') counts') other done' ∙ reversed_edges_table side (edges_of (placed p points) counts) back
        ∙ sym (ap opposite (if_done_lem (table_of side (placed p points) counts) before done))

    pub either_way_placed_greys : (level : ℕ) (picture : List ℕ)
        → greys_picture side level (placed_table side points' counts' p' other) picture ≡ greys_picture side level (placed_table side points counts p before) picture
    either_way_placed_greys level picture =
        ap (λ t. greys_picture side level t picture) either_way_placed_table ∙ opposite_greys side (placed_table side points counts p before) level picture

pub either_way_placed-accepted : (side : ℕ) (points : List ℤ) (counts : List ℕ) (before points' : List ℤ) (counts' : List ℕ) (other : List ℤ) (p p' : Placement)
    → placed_refusal side points counts p before ≡ 0 → EdgesReversed (edges_of (placed p points) counts) (edges_of (placed p' points') counts')
    → Yes (question4 counts') → length points' ≡ 2 * edge_count counts' → Yes (question12 p' points') → length other ≡ length before
    → placed_refusal side points' counts' p' other ≡ 0
either_way_placed-accepted side points counts before points' counts' other p p' done back four long' movable e =
    let asked = ((placed_refusals side points counts p before).accepted.0 done).1.1.1.1.1.0 in
    placed_number side points' counts' other p' movable
    ∙ either_way_accepted (placed p points) counts (placed p' points') counts' (placed-accepted side points counts p before done).points_length
    (placed-length p' points' ∙ long') back side before other (sym (placed_number side points counts before p asked) ∙ done) four e

-- (0,0) (0,256) (256,256) (256,0)
pub letter_a-back : EdgesReversed (edges_of letter_a.points (one_count letter_a))
    (edges_of (pos 0 ∷ pos 0 ∷ pos 0 ∷ pos 256 ∷ pos 256 ∷ pos 256 ∷ pos 256 ∷ pos 0 ∷ []) (one_count letter_a))
unfolding contours_of points_of through contour_edges outline_edges
letter_a-back = reverse_perm _
