-- A tile holds contours, with curved edges or without, exactly where their values add up to its table and their edges to its record, each of them is one that
-- building accepts, and they have no more edges than the most. So what a call does with such a tile is a matter of sums.
--
-- Main results
--   CurveSums                    what is said of the sums
--   curves_reordered             in any order
--   holds_of_curve_sums,
--   curve_sums_of_holds          it is what `HoldsCurves` says
--   curve_sums_built             and what one accepted building leaves
--   curve_sums_length,
--   curve_sums_within,
--   curve_sums_in_range          the table's length; its entries are at most what the most edges add, and so in question 9's range
--   curve_sums_put,
--   curve_sums_taken             one contour more; one fewer
use Rattle.std.specs.Prelude.{◌≡◌, true, ℕ, ◌+◌, ◌*◌, ◌-◌, ◌^◌, ◌≤◌, length, get_or, replicate, ℤ, pos}
use Rattle.std.proofs.Common.{sym, ◌∙◌, ap, subst, arith, lit≤}
use Rattle.std.proofs.Math.Path.{ap₂, subst⁻¹}
use Rattle.std.proofs.Math.Bool.{◌&&◌}
use mathlib.Core.List.Perm
use mathlib.Core.List.{List, [], ◌∷◌, Perm}
use Rattle.std.proofs.lemmas.List.{length-replicate}
use Rattle.integers.specs.Units.{steps_per_pixel, most_edges, entry_limit, built_entry_limit, greatest_sheet_coordinate}
use Rattle.integers.proofs.Theorems.Order.{≤ℤ_trans, pos-≤ℤ}
use Rattle.integers.specs.Within.{Within}
use Rattle.integers.proofs.Theorems.Within.{within_le}
use Rattle.integers.specs.ListSum.{All, tally}
use Rattle.integers.proofs.Theorems.ListSum.{all_map, tally_perm, length-joined}
use Rattle.integers.specs.Tests.{every}
use Rattle.integers.proofs.Theorems.Tests.{and_true_means}
use Rattle.integers.proofs.Theorems.Every.{every_perm}
use Rattle.placement.specs.declared.Placement.TheVariants.{None}
use Rattle.accuracy.specs.Tile.{ClosedOnTile}
use Rattle.accuracy.proofs.Laws.Coordinates.{OnSide}
use Rattle.curve.specs.Curve.{OnSheet as CoordinateOnSheet}
use Rattle.rasterize.proofs.Laws.Adding.{added-length}
use Rattle.chords.specs.Sides.{MarkedContour}
use Rattle.chords.specs.Chords.{contour_chords, outline_chords}
use Rattle.chords.proofs.Theorems.NearCurves.{sides_near}
use Rattle.chords.specs.Laws.SidesWithin.{Right as RightContour}
use Rattle.chords.proofs.Laws.ClosedChords.{chords_closed_on}
use Rattle.tile.specs.Questions.{Yes, depth_of, question4, question6, question9}
use Rattle.tile.proofs.Theorems.Refusals.{question2_means, question6_means}
use Rattle.tile.proofs.Laws.IfDone.{if_done_lem}
use Rattle.tile.proofs.Laws.Answers.{in-range-entries}
use Rattle.tile.proofs.Laws.Accepted.{on_side}
use Rattle.tile.proofs.Laws.BuiltTable.{table_within}
use Rattle.sheet.specs.declared.Site.{Site}
use Rattle.sheet.specs.Sites.{tile_side, reach, SiteYes, entries_at}
use Rattle.sheet.proofs.Laws.SiteEdges.{reach_power, reach-le, site_accepted, entries_with}
use Rattle.corrections.specs.declared.Change.TheVariants.{Put, Take}
use Rattle.corrections.specs.Corrections.{Tile, tile_of}
use Rattle.corrections.specs.Holding.{built_as}
use Rattle.corrections.specs.Amending.{left_by}
use Rattle.corrections.proofs.Laws.AddingUp.{AddsUp, adds_up_put, adds_up_taken, adds_up_perm}
use Rattle.corrections.proofs.Laws.Parts.{cells_at, part_of, parts_table}
use Rattle.curves.specs.MarkedQuestions.{is_mark, edges_marked}
use Rattle.curves.specs.CurveOutcomes.{curves_refusal, curves_result, curves_table}
use Rattle.curves.specs.FaithfulCurves.{FaithfulAt}
use Rattle.curves.proofs.Theorems.CurveTheorem.{edges_faithful}
use Rattle.curves.specs.CurvedHolding.{is_shaped, written_points, written_counts, written_marks, HoldsCurves}
use Rattle.curves.proofs.Laws.Written.{Shaped, shaped_means, is_marked_contour, written_edges, written_accepted}

abbrev size : MarkedContour → ℕ
size c = length (contour_chords c)

pub record CurveSums (site : Site) (cs : List MarkedContour) (t : Tile) : Type 0 where
  pub is_site : SiteYes site
  pub shaped : every is_shaped cs ≡ true
  pub adds_up : AddsUp (cells_at site) (part_of contour_chords site) size cs t
  pub few : tally size cs ≤ most_edges
  pub right : every (is_marked_contour (reach site)) cs ≡ true

-- ---- any order
pub curves_reordered : {site : Site} {cs ds : List MarkedContour} {t : Tile} → Perm cs ds → CurveSums site cs t → CurveSums site ds t
curves_reordered {site} p s = record {
  is_site = s.is_site;
  shaped = sym (every_perm is_shaped p) ∙ s.shaped;
  adds_up = adds_up_perm (cells_at site) (part_of contour_chords site) size p s.adds_up;
  few = subst (λ n. n ≤ most_edges) (tally_perm size p) s.few;
  right = sym (every_perm (is_marked_contour (reach site)) p) ∙ s.right;
}

-- ---- coordinates of contours that are right
on_sides : (side : ℕ) → side ≡ 2 ^ depth_of side → (cs : List MarkedContour) → All Shaped cs → every (is_marked_contour side) cs ≡ true → All (RightContour (OnSide (depth_of side))) cs
on_sides side power [] h e = tt
on_sides side power (c ∷ cs) h e =
    let both = (and_true_means (is_marked_contour side c) (every (is_marked_contour side) cs)).0 e in
    let inner = (and_true_means (every is_mark c.marks) (question6 side c.coordinates).answer).0
    ((and_true_means (question4 (length c.marks ∷ [])).answer (every is_mark c.marks && (question6 side c.coordinates).answer)).0 both.0).1 in
    ((h.0, on_side side c.coordinates power inner.1), on_sides side power cs h.1 both.1)

-- the width of the greatest sheet
on_sheets : (side : ℕ) → steps_per_pixel * side ≤ greatest_sheet_coordinate → (cs : List MarkedContour) → All Shaped cs → every (is_marked_contour side) cs ≡ true
    → All (RightContour CoordinateOnSheet) cs
on_sheets side wide [] h e = tt
on_sheets side wide (c ∷ cs) h e =
    let both = (and_true_means (is_marked_contour side c) (every (is_marked_contour side) cs)).0 e in
    let inner = (and_true_means (every is_mark c.marks) (question6 side c.coordinates).answer).0
    ((and_true_means (question4 (length c.marks ∷ [])).answer (every is_mark c.marks && (question6 side c.coordinates).answer)).0 both.0).1 in (
      (h.0, all_map (λ z i. (i.0, ≤ℤ_trans i.1 (pos-≤ℤ wide))) c.coordinates ((question6_means side c.coordinates).0 inner.1)),
      on_sheets side wide cs h.1 both.1,
    )

-- ---- from the sums to what building leaves
module _ {site : Site} {cs : List MarkedContour} {t : Tile} (s : CurveSums site cs t) where
  all_shaped : All Shaped cs
  all_shaped = (shaped_means cs).0 s.shaped

  table_is : t.table ≡ entries_at site (outline_chords cs)
  table_is = s.adds_up.table_is ∙ parts_table contour_chords site cs s.is_site

  edges_is : t.edges ≡ length (outline_chords cs)
  edges_is = s.adds_up.edges_is ∙ sym (length-joined contour_chords cs)

  few_edges : length (outline_chords cs) ≤ most_edges
  few_edges = subst⁻¹ (λ n. n ≤ most_edges) (length-joined contour_chords cs) s.few

  building_accepts : (before : List ℤ) → length before ≡ cells_at site
      → curves_refusal site (written_points cs) (written_counts cs) (written_marks cs) None before ≡ 0
  building_accepts before e =
      (written_accepted site cs all_shaped before).1 (s.is_site, (question2_means (tile_side site) before).1 e, s.right, few_edges)

  same_edges : (before : List ℤ) → edges_marked (written_points cs) (written_counts cs) (written_marks cs) None ≡ outline_chords cs
  same_edges before = written_edges site cs all_shaped before

  table_built : (before : List ℤ) → length before ≡ cells_at site → curves_table site (written_points cs) (written_counts cs) (written_marks cs) None before ≡ t.table
  table_built before e = if_done_lem _ before (building_accepts before e) ∙ ap (entries_at site) (same_edges before) ∙ sym table_is

  count_built : (before : List ℤ) → length before ≡ cells_at site
      → curves_result site (written_points cs) (written_counts cs) (written_marks cs) None before ≡ built_as 0 t.edges
  count_built before e =
      let done = building_accepts before e in
      ap₂ built_as done (if_done_lem _ 0 done ∙ ap length (same_edges before) ∙ sym edges_is)

  within : ClosedOnTile (depth_of (reach site)) (outline_chords cs)
  within = chords_closed_on (depth_of (reach site)) cs (on_sides (reach site) (reach_power site s.is_site) cs all_shaped s.right)

  abbrev blank : List ℤ
  blank = replicate (cells_at site) (pos 0)

  is_faithful : FaithfulAt site (outline_chords cs) 0 t.table
  is_faithful =
      subst⁻¹ (FaithfulAt site (outline_chords cs) 0) table_is
      (edges_faithful site (outline_chords cs) 0 blank within.closed (λ _. (s.is_site, within, few_edges)))

  is_near : (let narrow = steps_per_pixel * reach site in narrow ≤ greatest_sheet_coordinate)
  is_near = omega (arith, reach-le site s.is_site)

  pub curve_sums_length : length t.table ≡ cells_at site
  curve_sums_length = ap length s.adds_up.table_is ∙ added-length blank _ ∙ length-replicate (cells_at site) (pos 0)

  -- no entry passes 2^38
  pub curve_sums_within : (i : ℕ) → Within (pos built_entry_limit) (get_or t.table i (pos 0))
  curve_sums_within i =
      subst⁻¹ (λ l. Within (pos built_entry_limit) (get_or l i (pos 0))) (table_is ∙ sym (entries_with site (outline_chords cs)))
      (table_within (site_accepted site s.is_site (outline_chords cs) within few_edges) i)

  pub curve_sums_in_range : Yes (question9 t.table)
  curve_sums_in_range =
      let larger : built_entry_limit ≤ entry_limit = lit≤ tt in in-range-entries t.table (record { each = λ i. within_le (pos-≤ℤ larger) (curve_sums_within i) })

pub holds_of_curve_sums : {site : Site} {cs : List MarkedContour} {t : Tile} → CurveSums site cs t → HoldsCurves site cs t
holds_of_curve_sums {site} {cs} s = record {
  shaped = s.shaped;
  count_built = λ order p. count_built (curves_reordered p s);
  table_built = λ order p. table_built (curves_reordered p s);
  faithful = λ order p. (is_faithful (curves_reordered p s), sym (edges_is (curves_reordered p s)));
  near_curves = sides_near cs (on_sheets (reach site) (is_near s) cs (all_shaped s) s.right);
}

-- ---- and back, from one building that was accepted
pub curve_sums_built : (site : Site) (cs : List MarkedContour) (t : Tile) (before : List ℤ) → every is_shaped cs ≡ true
    → curves_refusal site (written_points cs) (written_counts cs) (written_marks cs) None before ≡ 0
    → t.table ≡ entries_at site (outline_chords cs) → t.edges ≡ length (outline_chords cs) → CurveSums site cs t
curve_sums_built site cs t before shape done table edges =
    let y = (written_accepted site cs ((shaped_means cs).0 shape) before).0 done in
    record {
      is_site = y.0;
      shaped = shape;
      adds_up = record { table_is = table ∙ sym (parts_table contour_chords site cs y.0); edges_is = edges ∙ length-joined contour_chords cs };
      few = subst (λ n. n ≤ most_edges) (length-joined contour_chords cs) y.3;
      right = y.2;
    }

-- by building in the order that they are in
pub curve_sums_of_holds : {site : Site} {cs : List MarkedContour} {t : Tile} → HoldsCurves site cs t → CurveSums site cs t
curve_sums_of_holds {site} {cs} {t} h =
    let before = replicate (cells_at site) (pos 0) in
    let long = length-replicate (cells_at site) (pos 0) in
    let result = h.count_built cs (Perm.refl cs) before long in
    let done : curves_refusal site (written_points cs) (written_counts cs) (written_marks cs) None before ≡ 0 = ap (λ b. b.number) result in
    let same = written_edges site cs ((shaped_means cs).0 h.shaped) before in
    curve_sums_built site cs t before h.shaped done
    (sym (h.table_built cs (Perm.refl cs) before long) ∙ if_done_lem _ before done ∙ ap (entries_at site) same)
    (sym (h.faithful cs (Perm.refl cs)).1)

-- ---- one contour more, one fewer
module _ {site : Site} (c : MarkedContour) where
  pub curve_sums_put : {cs : List MarkedContour} {t after : Tile} → is_shaped c ≡ true → is_marked_contour (reach site) c ≡ true → t.edges + size c ≤ most_edges
      → after ≡ tile_of (left_by site Put (contour_chords c) t.table) (t.edges + size c) → CurveSums site cs t → CurveSums site (c ∷ cs) after
  unfolding tally
  curve_sums_put {cs} {t} shape test room e s = record {
    is_site = s.is_site;
    shaped = ap₂ ◌&&◌ shape s.shaped;
    adds_up = subst⁻¹ (AddsUp (cells_at site) (part_of contour_chords site) size (c ∷ cs)) e (adds_up_put (cells_at site) (part_of contour_chords site) size c s.adds_up);
    few = omega (arith, room, s.adds_up.edges_is);
    right = ap₂ ◌&&◌ test s.right;
  }

  pub curve_sums_taken : {others : List MarkedContour} {t after : Tile} → after ≡ tile_of (left_by site Take (contour_chords c) t.table) (t.edges - size c)
      → CurveSums site (c ∷ others) t → CurveSums site others after
  unfolding tally
  curve_sums_taken {others} {t} e s = record {
    is_site = s.is_site;
    shaped = ((and_true_means (is_shaped c) (every is_shaped others)).0 s.shaped).1;
    adds_up = subst⁻¹ (AddsUp (cells_at site) (part_of contour_chords site) size others) e (adds_up_taken (cells_at site) (part_of contour_chords site) size c s.adds_up);
    few = omega (arith, s.few);
    right = ((and_true_means (is_marked_contour (reach site) c) (every (is_marked_contour (reach site)) others)).0 s.right).1;
  }
