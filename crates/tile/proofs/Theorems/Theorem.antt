-- Demand 3 holds of the calls, for every input.
--
-- Main results
--   table_drawn                  the table of accepted edges is drawn as `Drawn` says
--   outline_faithful             an outline that is accepted, whatever the call, is drawn as `FaithfulOutline` says
--   faithful                     so what building leaves is drawn as `Faithful` says
use Rattle.std.specs.Prelude.{◌≡◌, refl, List, [], ◌∷◌, ℕ, ◌*◌, ◌^◌, ◌<◌, ◌≤◌, length, ℤ, pos, ◌-ℤ◌, ◌*ℤ◌, ◌≤ℤ◌}
use Rattle.std.proofs.Common.{sym, ◌∙◌, ap, ap₂, subst, subst₂}
use Rattle.integers.proofs.Theorems.Ring.{read, comb}
use Rattle.integers.specs.Magnitude.{abs}
use Rattle.integers.specs.ListSum.{total}
use Rattle.edge.specs.declared.Edge.{Edge}
use Rattle.haar.specs.Table.{stored}
use Rattle.haar.specs.Greys.{grey, grey_of, OneApart}
use Rattle.haar.specs.Plane.{dimensions, at, figure_at, figure_in}
use Rattle.haar.proofs.Laws.Figures.{figure_same}
use Rattle.haar.proofs.Laws.Pictures.{picture-length, picture_same}
use Rattle.accuracy.specs.Outline.{signed_area}
use Rattle.accuracy.specs.Tile.{CellOf}
use Rattle.accuracy.specs.ExactArea.{denominator, exact_area_num}
use Rattle.accuracy.specs.OutlineTable.{table_from}
use Rattle.accuracy.specs.Accurate.{twice_miss_limit}
use Rattle.accuracy.proofs.Laws.Denominator.{denominator-pos}
use Rattle.tile.specs.Questions.{depth_of}
use Rattle.tile.specs.Outcomes.{if_done, edges_of, table_of, table_with, build_refusal, build_table, cell_result}
use Rattle.tile.proofs.Theorems.DrawnFigures.{figures_drawn, greys_drawn_lem, figure_in_picture, grey_in_picture, figure_alone}
use Rattle.tile.specs.Faithful.{figure_num, CellDrawn, Drawn, FaithfulOutline, Faithful}
use Rattle.tile.proofs.Theorems.Refusals.{question2_means, question7_means}
use Rattle.tile.proofs.Laws.IfDone.{if_done_lem}
use Rattle.tile.proofs.Laws.Sides.{side_power}
use Rattle.tile.proofs.Laws.Answers.{in-range-entries}
use Rattle.tile.proofs.Laws.Accepted.{Accepted, accepted, accepted-count, AcceptedEdges, accepted_edges}
use Rattle.tile.proofs.Laws.BuiltTable.{table_with-length, table_same, table_in_range}
use Rattle.tile.proofs.Laws.DrawnTable.{LevelYes, drawn-accepted, cell_accepted}
use Rattle.tile.proofs.Laws.DrawnArea.{area_within}

equal_of_zero : (x y : ℤ) → x -ℤ y ≡ pos 0 → x ≡ y
equal_of_zero x y e = comb (x ∷ y ∷ []) e (search read depth 40) tt

-- ---- edges that are accepted, and a level of their tile
module _ {side : ℕ} {root_of : List Edge → ℤ} {twice_limit : ℕ → ℕ → ℕ} {es : List Edge} (a : AcceptedEdges side root_of twice_limit es) (level : ℕ)
    (shallow : level ≤ depth_of side) where
  abbrev table : List ℤ
  table = table_with side (root_of es) es

  abbrev exact : ℕ → ℕ → ℤ
  exact cx cy = figure_num side es level cx cy

  abbrev den : ℕ
  den = denominator es

  yes : LevelYes side level table
  yes = record {
    yes1 = a.is_side;
    yes2 = (question2_means side table).1 (table_with-length side (root_of es) es a.is_side);
    yes7 = (question7_means side level).1 shallow;
    yes9 = in-range-entries table (table_in_range a);
  }

  -- the figures of the list of entries are those of the edges' table
  same_figure : (cx cy : ℕ) → cx < 2 ^ level → cy < 2 ^ level → figure_in table level cx cy ≡ figure_at (table_from (root_of es) (depth_of side) es) level cx cy
  same_figure cx cy h k = figure_same (table_same side (root_of es) es) level shallow (at cx cy) (h, (k, tt))

  power : side ≡ 2 ^ depth_of side
  power = side_power side a.is_side

  module _ (cx cy : ℕ) (x_below : cx < 2 ^ level) (y_below : cy < 2 ^ level) where
    cell : CellOf (depth_of side) level cx cy
    cell = record { level_to_depth = shallow; x_below = x_below; y_below = y_below }

    figure : (cell_result side level cx cy table).figure ≡ figure_in table level cx cy
    figure = figure_alone side level cx cy table (cell_accepted yes cx cy x_below y_below)

    cell_close : (pos 2 *ℤ abs ((cell_result side level cx cy table).figure *ℤ pos den -ℤ exact cx cy)) ≤ℤ pos (twice_limit level (length es) * den)
    cell_close =
        subst (λ (f : ℤ). (pos 2 *ℤ abs (f *ℤ pos den -ℤ exact cx cy)) ≤ℤ pos (twice_limit level (length es) * den))
        (sym (figure ∙ same_figure cx cy x_below y_below)) (a.accurate.close level cx cy cell)

    cell_drawn : CellDrawn side es twice_limit table level cx cy
    cell_drawn =
        let same = same_figure cx cy x_below y_below in
        record {
          not_refused = cell_accepted yes cx cy x_below y_below;
          in_picture = λ picture e.
              figure_in_picture side level table cx cy x_below y_below picture (drawn-accepted yes (length picture) e) ∙ sym figure;
          close = cell_close;
          equal = λ octilinear. ap (λ f. f *ℤ pos den) (figure ∙ same) ∙ equal_of_zero _ _ (a.accurate.equal octilinear level cx cy cell);
          area =
              area_within (cell_result side level cx cy table).figure (exact_area_num (depth_of side) es level (at cx cy)) (4 ^ level) den
              (twice_limit level (length es)) (length es) (a.limited level (length es)) cell_close;
          greys = λ picture e.
              subst₂ OneApart
              (sym (grey_in_picture side level table cx cy x_below y_below picture (drawn-accepted yes (length picture) e) ∙ ap₂ grey_of power same))
              (ap (λ s. grey s (exact cx cy) den) (sym power)) (a.accurate.greys a.few_edges level cx cy cell);
        }

  pub table_drawn : Drawn side es (root_of es) twice_limit table level
  table_drawn =
      record {
        not_refused = drawn-accepted yes (4 ^ level) refl;
        figures_length = λ picture e. ap length (figures_drawn side level table picture (drawn-accepted yes (length picture) e)) ∙ picture-length dimensions (λ f. f) (stored dimensions table) level;
        greys_length = λ picture e. ap length (greys_drawn_lem side level table picture (drawn-accepted yes (length picture) e)) ∙ picture-length dimensions (grey_of side) (stored dimensions table) level;
        each_cell = cell_drawn;
        totals = λ picture e.
            ap (total (λ f. f))
            (figures_drawn side level table picture (drawn-accepted yes (length picture) e) ∙ picture_same (table_same side (root_of es) es) (λ f. f) level shallow)
            ∙ a.accurate.totals level;
        root_entry = (table_same side (root_of es) es).same_root;
      }

-- ---- every input of a call: what it answers says whether the outline is accepted
pub outline_faithful : (side : ℕ) (points : List ℤ) (counts : List ℕ) (number : ℕ) (before : List ℤ) → (number ≡ 0 → Accepted side points counts before)
    → FaithfulOutline side points counts number (if_done number (table_of side points counts) before)
outline_faithful side points counts number before accept = record {
  denominator-positive = denominator-pos (edges_of points counts);
  counted = λ done. accepted-count (accept done);
  drawn = λ done level shallow.
      subst (λ (t : List ℤ). Drawn side (edges_of points counts) (signed_area (edges_of points counts)) twice_miss_limit t level)
      (sym (if_done_lem (table_of side points counts) before done)) (table_drawn (accepted_edges (accept done)) level shallow);
}

pub faithful : (side : ℕ) (points : List ℤ) (counts : List ℕ) (before : List ℤ)
    → Faithful side points counts before (build_table side points counts before)
faithful side points counts before =
    outline_faithful side points counts (build_refusal side points counts before) before (accepted side points counts before)
