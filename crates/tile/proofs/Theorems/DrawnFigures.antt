-- Laws of what specs/DrawnFigures.antt defines. The head of that file lists the main results.
use Rattle.std.specs.Prelude.{◌≡◌, List, ℕ, suc, ◌/◌, ◌%◌, ◌^◌, ◌<◌, length, get_or, ℤ, pos, ◌+ℤ◌, ◌*ℤ◌}
use Rattle.std.proofs.Common.{sym, ◌∙◌, ap}
use Rattle.std.proofs.Math.Path.{fun_ext}
use Rattle.haar.specs.Table.{stored}
use Rattle.haar.specs.Greys.{grey_of}
use Rattle.haar.specs.Plane.{dimensions, quarter_details, figure_in, picture_in}
use Rattle.haar.proofs.Laws.Layout.{index_plane}
use Rattle.haar.proofs.Laws.Quarters.{figure-top, quarter_figure, figure-quarter}
use Rattle.haar.proofs.Laws.Pictures.{picture_at}
use Rattle.tile.specs.Outcomes.{draw_refusal, figures_picture, greys_picture, picture_index, cell_refusal, cell_result}
use Rattle.tile.proofs.Laws.IfDone.{if_done_lem}
use Rattle.tile.specs.DrawnFigures.{cell_details}

-- ---- pictures
module _ (side level : ℕ) (table : List ℤ) where
  pub figures_drawn : (picture : List ℤ) → draw_refusal side level table (length picture) ≡ 0
      → figures_picture side level table picture ≡ picture_in (λ f. f) table level
  figures_drawn picture done = if_done_lem (picture_in (λ f. f) table level) picture done

  pub greys_drawn_lem : (picture : List ℕ) → draw_refusal side level table (length picture) ≡ 0
      → greys_picture side level table picture ≡ picture_in (grey_of side) table level
  greys_drawn_lem picture done = if_done_lem (picture_in (grey_of side) table level) picture done

  module _ (cx cy : ℕ) (x_below : cx < 2 ^ level) (y_below : cy < 2 ^ level) where
    pub figure_in_picture : (picture : List ℤ) → draw_refusal side level table (length picture) ≡ 0
        → get_or (figures_picture side level table picture) (picture_index level cx cy) (pos 0) ≡ figure_in table level cx cy
    figure_in_picture picture done =
        ap (λ l. get_or l (picture_index level cx cy) (pos 0)) (figures_drawn picture done)
        ∙ picture_at (pos 0) (λ f. f) (stored dimensions table) level cx cy x_below y_below

    pub grey_in_picture : (picture : List ℕ) → draw_refusal side level table (length picture) ≡ 0
        → get_or (greys_picture side level table picture) (picture_index level cx cy) 0 ≡ grey_of side (figure_in table level cx cy)
    grey_in_picture picture done =
        ap (λ l. get_or l (picture_index level cx cy) 0) (greys_drawn_lem picture done)
        ∙ picture_at 0 (grey_of side) (stored dimensions table) level cx cy x_below y_below

-- ---- one cell
pub figure_alone : (side level cx cy : ℕ) (table : List ℤ) → cell_refusal side level cx cy table ≡ 0
    → (cell_result side level cx cy table).figure ≡ figure_in table level cx cy
figure_alone side level cx cy table done = if_done_lem (figure_in table level cx cy) (pos 0) done

-- "One cell may be wanted alone: its figure is the entry of the picture at that place."
pub alone_as_in_picture : (side level cx cy : ℕ) (table picture : List ℤ) → cell_refusal side level cx cy table ≡ 0
    → draw_refusal side level table (length picture) ≡ 0 → cx < 2 ^ level → cy < 2 ^ level
    → (cell_result side level cx cy table).figure ≡ get_or (figures_picture side level table picture) (picture_index level cx cy) (pos 0)
alone_as_in_picture side level cx cy table picture done drawn h k =
    figure_alone side level cx cy table done ∙ sym (figure_in_picture side level table cx cy h k picture drawn)

-- ---- figures: "the root's figure is entry 0; a quarter's figure is its parent's plus 4^j times (± h ± v ± d), h plus on the left, v plus above, d plus
-- in the upper left and lower right"
pub figure_of_root : (table : List ℤ) (cx cy : ℕ) → figure_in table 0 cx cy ≡ get_or table 0 (pos 0)
figure_of_root table cx cy = figure-top (stored dimensions table) cx cy

pub figure_of_quarter : (table : List ℤ) (j cx cy : ℕ)
    → figure_in table (suc j) cx cy
    ≡ figure_in table j (cx / 2) (cy / 2) +ℤ pos (4 ^ j) *ℤ quarter_details (cell_details table j (cx / 2) (cy / 2)) (cx % 2) (cy % 2)
figure_of_quarter table j cx cy =
    figure-quarter (stored dimensions table) j cx cy
    ∙ ap (λ w. quarter_figure (figure_in table j (cx / 2) (cy / 2)) (4 ^ j) w (cx % 2) (cy % 2))
    (fun_ext (λ k. ap (λ i. get_or table i (pos 0)) (index_plane j (cx / 2) (cy / 2) k)))
