-- Demand 3: "This is a single claim, from the outline to what is drawn of it, and not one for building and another for drawing."
--
-- It is about the table that a call left, and speaks of it by what the drawing calls answer and leave (`Outcomes`). `build` and `build_placed` have it in
-- their contracts, and `figures`, `greys` and `cell` have in theirs that they answer and leave just that, so it is proved of the code that runs.
--
-- The claim is of a list of edges: the same records serve every kind of outline, since an outline is drawn as its edges. `root` is what entry 0 is to be,
-- and `twice_limit` twice the limit of a figure's miss, by the level and the number of edges.
--
-- An exact area is the fraction `exact_area_num / denominator`: an equation or a bound of it is multiplied by the denominator.
--
-- Definitions
--   figure_num                                4^level times the exact area of a cell, over `denominator`
--   WithinQuarterSquareSteps                  two areas differ by at most a quarter of a square step, so many times
--   CellDrawn                                 what is promised of a cell
--   Drawn                                     and of a level of the tile
--   FaithfulTo                                and of the table that a call left, by what the call answered
--   DrawnOutline, FaithfulOutline             the same of 01's outline, which is points and counts
--   Faithful, FaithfulPlaced                  and of what building leaves, without and with a placement
--   exact_figure_num, exact_denominator       the exact fraction of 01's outline
use Rattle.std.specs.Prelude.{◌≡◌, List, ℕ, ◌*◌, ◌^◌, ◌<◌, ◌≤◌, length, get_or, ℤ, pos, ◌-ℤ◌, ◌*ℤ◌, ◌≤ℤ◌}
use Rattle.integers.specs.Units.{units_per_half_square_step}
use Rattle.integers.specs.Magnitude.{abs}
use Rattle.integers.specs.ListSum.{All, total}
use Rattle.edge.specs.declared.Edge.{Edge}
use Rattle.edge.specs.Octilinear.{Octilinear}
use Rattle.haar.specs.Greys.{grey, OneApart}
use Rattle.haar.specs.Plane.{at}
use Rattle.placement.specs.declared.Placement.{Placement}
use Rattle.placement.specs.Placed.{placed}
use Rattle.accuracy.specs.Outline.{edge_count, signed_area}
use Rattle.accuracy.specs.ExactArea.{denominator, exact_area_num}
use Rattle.accuracy.specs.Accurate.{twice_miss_limit}
use Rattle.tile.specs.Questions.{depth_of}
use Rattle.tile.specs.Outcomes.{edges_of, build_refusal, placed_refusal, draw_refusal, figures_picture, greys_picture, picture_index, cell_result}

abbrev pub figure_num : ℕ → List Edge → ℕ → ℕ → ℕ → ℤ
figure_num side es level cx cy = pos (4 ^ level) *ℤ exact_area_num (depth_of side) es level (at cx cy)

-- Of the areas m / d and n / e, in units. A quarter of a square step is half of `units_per_half_square_step`, so both sides are doubled here, and times d × e.
abbrev pub WithinQuarterSquareSteps : ℕ → ℤ → ℕ → ℤ → ℕ → Type 0
WithinQuarterSquareSteps times m d n e = (pos 2 *ℤ abs (m *ℤ pos e -ℤ n *ℤ pos d)) ≤ℤ pos (times * units_per_half_square_step * (d * e))

-- cell (cx, cy) of a level, drawn from a table: by itself, or in pictures of 4^level places, whatever these held before
pub record CellDrawn (side : ℕ) (es : List Edge) (twice_limit : ℕ → ℕ → ℕ) (table : List ℤ) (level cx cy : ℕ) : Type 0 where
  -- "None of these is refused."
  pub not_refused : (cell_result side level cx cy table).number ≡ 0
  -- "its figure is the entry of the picture at that place", so that what follows holds of both
  pub in_picture : (picture : List ℤ) → length picture ≡ 4 ^ level
      → get_or (figures_picture side level table picture) (picture_index level cx cy) (pos 0) ≡ (cell_result side level cx cy table).figure
  -- "A level L figure differs from 4^L times the exact area by at most" a limit. Both sides are doubled here, so that nothing is divided, and times the
  -- denominator.
  pub close : (pos 2 *ℤ abs ((cell_result side level cx cy table).figure *ℤ pos (denominator es) -ℤ figure_num side es level cx cy))
      ≤ℤ pos (twice_limit level (length es) * denominator es)
  -- "It is equal where every edge is level, upright or at 45 degrees."
  pub equal : All Octilinear es → (cell_result side level cx cy table).figure *ℤ pos (denominator es) ≡ figure_num side es level cx cy
  -- "A cell's drawn area is its figure over 4^L." It differs from the exact area by at most a quarter of a square step for each edge. (This is demand 3 in
  -- square steps; `close` is a little narrower.)
  pub area : WithinQuarterSquareSteps (length es) (cell_result side level cx cy table).figure (4 ^ level) (exact_area_num (depth_of side) es level (at cx cy)) (denominator es)
  -- "A cell's grey is still at most one from the grey of the exact area, taken the same way": `grey` is of the magnitude, on both sides
  pub greys : (picture : List ℕ) → length picture ≡ 4 ^ level
      → OneApart (get_or (greys_picture side level table picture) (picture_index level cx cy) 0) (grey side (figure_num side es level cx cy) (denominator es))

pub record Drawn (side : ℕ) (es : List Edge) (root : ℤ) (twice_limit : ℕ → ℕ → ℕ) (table : List ℤ) (level : ℕ) : Type 0 where
  -- "None of these is refused": no picture of figures or of greys with 4^level places
  pub not_refused : draw_refusal side level table (4 ^ level) ≡ 0
  -- "A picture has 4^L figures"
  pub figures_length : (picture : List ℤ) → length picture ≡ 4 ^ level → length (figures_picture side level table picture) ≡ 4 ^ level
  pub greys_length : (picture : List ℕ) → length picture ≡ 4 ^ level → length (greys_picture side level table picture) ≡ 4 ^ level
  pub each_cell : (cx cy : ℕ) → cx < 2 ^ level → cy < 2 ^ level → CellDrawn side es twice_limit table level cx cy
  -- "The figures of level L add up to 4^L times" the root, "which is entry 0."
  pub totals : (picture : List ℤ) → length picture ≡ 4 ^ level → total (λ f. f) (figures_picture side level table picture) ≡ pos (4 ^ level) *ℤ root
  pub root_entry : get_or table 0 (pos 0) ≡ root

-- `number` is what the call answered, `edges` the count that it reports where that is 0, and `after` the table that it left. The premise is the number,
-- since the same edges may have been refused for something else that was asked.
pub record FaithfulTo (side : ℕ) (es : List Edge) (root : ℤ) (twice_limit : ℕ → ℕ → ℕ) (number edges : ℕ) (after : List ℤ) : Type 0 where
  -- else the fractions would mean nothing
  pub denominator-positive : 0 < denominator es
  -- the edges that the limit counts are those that the call reports
  pub counted : number ≡ 0 → length es ≡ edges
  -- "Take any accepted outline and any level L from 0 to the depth."
  pub drawn : number ≡ 0 → (level : ℕ) → level ≤ depth_of side → Drawn side es root twice_limit after level

-- ---- 01's outline: its root is the signed area, the limit is (4^L − 1) × edges / 2, "the edges being the counts' sum"
abbrev pub DrawnOutline : ℕ → List ℤ → List ℕ → List ℤ → ℕ → Type 0
DrawnOutline side points counts table level = Drawn side (edges_of points counts) (signed_area (edges_of points counts)) twice_miss_limit table level

abbrev pub FaithfulOutline : ℕ → List ℤ → List ℕ → ℕ → List ℤ → Type 0
FaithfulOutline side points counts number after =
    FaithfulTo side (edges_of points counts) (signed_area (edges_of points counts)) twice_miss_limit number (edge_count counts) after

-- "An outline is accepted where every question for building is answered yes." `before` is what the table held before building, and `after` what it
-- left.
abbrev pub Faithful : ℕ → List ℤ → List ℕ → List ℤ → List ℤ → Type 0
Faithful side points counts before after = FaithfulOutline side points counts (build_refusal side points counts before) after

-- "the drawn outline is the one that demand 3 measures": that of the points as placed
abbrev pub FaithfulPlaced : ℕ → List ℤ → List ℕ → Placement → List ℤ → List ℤ → Type 0
FaithfulPlaced side points counts placement before after =
    FaithfulOutline side (placed placement points) counts (placed_refusal side points counts placement before) after

abbrev pub exact_figure_num : ℕ → List ℤ → List ℕ → ℕ → ℕ → ℕ → ℤ
exact_figure_num side points counts level cx cy = figure_num side (edges_of points counts) level cx cy

abbrev pub exact_denominator : List ℤ → List ℕ → ℕ
exact_denominator points counts = denominator (edges_of points counts)
