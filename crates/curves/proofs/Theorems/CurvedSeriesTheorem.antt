-- The law of a mixed series of corrections holds.
--
-- Main results
--   holds_no_curves              where a series may begin: the empty tile, alone or on a sheet,
--   holds_curves_built           what building with marks leaves,
--   holds_as_curves,
--   holds_as_points              and a tile that holds contours of points; and back, where none of those that are in is curved
--   no_curves_call               a call on a contour of points that is not refused is not refused with every mark 0 either, and leaves the same
--   curve_series,
--   curve_series-from            after a series from the empty tile, or from one that holds contours, the tile holds what remains
--   curve_not_refused,
--   plain-not_refused            no call on such a tile is refused but for its own questions, and for taking out more edges than there are
--   counted_in                   and a contour that is in has no more
--   mixed                        an example: four curves and a square are put in, and the curves are taken out again
use Rattle.std.specs.Prelude.{◌≡◌, refl, true, ◌≢◌, take, drop, ℤ, pos, ◌+ℤ◌, ◌*ℤ◌}
use Rattle.std.proofs.Math.Path.{sym, ap, ap₂, subst⁻¹}
use Rattle.std.proofs.Common.{◌∙◌, subst, le-leb, length-drop, take-append-drop, length-take-le}
use Rattle.std.proofs.Math.Bool.{◌&&◌}
use mathlib.Core.List.{List, [], ◌∷◌, ◌++◌, map, Perm}
use Prim.Native.Nat.{ℕ, ◌+◌, ◌*◌, ◌≤◌}
use native.Mathlib.Omega.{arith}
use Rattle.std.proofs.Math.ListN.{length, get_or, replicate}
use Rattle.std.proofs.lemmas.List.{length-replicate}
use Rattle.integers.specs.Units.{most_edges}
use Rattle.integers.specs.ListSum.{All, total, tally, joined}
use Rattle.integers.proofs.Theorems.ListSum.{all_append, all_back, tally_perm, length-joined}
use Rattle.integers.specs.Tests.{every}
use Rattle.integers.proofs.Theorems.Tests.{eqb_means, and_true_means}
use Rattle.edge.specs.declared.Edge.{Edge}
use Rattle.placement.specs.declared.Placement.{Placement}
use Rattle.placement.specs.declared.Placement.TheVariants.{None}
use Rattle.placement.specs.Placed.{placed}
use Rattle.placement.proofs.Laws.PlacedPoints.{placed-length}
use Rattle.accuracy.specs.Outline.{edge_count, contour_edges}
use Rattle.accuracy.specs.Tile.{EdgeOnTile}
use Rattle.accuracy.proofs.Laws.Contours.{contour_edges-length}
use Rattle.rasterize.proofs.Laws.Adding.{added_same}
use Rattle.chords.specs.Sides.{numbers, sides_from, MarkedContour, marked_contours}
use Rattle.chords.specs.Chords.{chords_of, contour_chords}
use Rattle.chords.proofs.Theorems.AllStraight.{straight_contour, zeros-numbers}
use Rattle.chords.proofs.Laws.SidesWithin.{numbers-split}
use Rattle.curve.specs.Curve.{splits_from}
use Rattle.haar.specs.Pictures.{tabulate}
use Rattle.tile.specs.Questions.{Yes, depth_of, question2, question4, question5_beside, question6}
use Rattle.tile.proofs.Theorems.Refusals.{question2_means, question3_means}
use Rattle.tile.specs.Written.{Contour, coordinates_of}
use Rattle.tile.proofs.Laws.IfDone.{if_done_lem, if_refused}
use Rattle.tile.proofs.Laws.Sides.{square_injective}
use Rattle.tile.proofs.Laws.Written.{back_points, coordinates_of-length}
use Rattle.sheet.specs.declared.Site.{Site}
use Rattle.sheet.specs.declared.Site.TheVariants.{Alone, OnSheet}
use Rattle.sheet.specs.Sites.{tile_side, reach, SiteYes, site_questions, entries_at}
use Rattle.sheet.proofs.Laws.SiteEdges.{site_answers, site_in_view}
use Rattle.corrections.specs.declared.Change.{Change}
use Rattle.corrections.specs.declared.Change.TheVariants.{Put, Take}
use Rattle.corrections.specs.Corrections.{Tile, Call, tile_of, contour_of, part, sign_of, question13, question9_twice, already_in, taken_out, edges_after, correct_refusal, corrected, putting}
use Rattle.corrections.specs.Amending.{left_by}
use Rattle.corrections.specs.Holding.{empty_tile, HoldsContours}
use Rattle.corrections.specs.Series.{IsAlone, run, none, put, taken}
use Rattle.corrections.proofs.Laws.Answered.{AskedYes, call_accepted}
use Rattle.corrections.proofs.Laws.Accepted.{is_contour}
use Rattle.corrections.proofs.Laws.AddingUp.{adds_up_none}
use Rattle.corrections.proofs.Laws.Held.{holds_of_sums, sums_of_holds}
use Rattle.corrections.proofs.Laws.AskedContour.{sign_within, contour_count, few_edges, part_within}
use Rattle.corrections.proofs.Laws.Kept.{corrected_is}
use Rattle.corrections.proofs.Laws.Parts.{cells_at, part_of, parts_table, values_within, added_in_range}
use Rattle.corrections.proofs.Laws.Runs.{Keeps, run-keeps}
use Rattle.curves.specs.MarkedQuestions.{is_mark, edges_marked, marked_questions}
use Rattle.curves.specs.CurveOutcomes.{curves_refusal, curves_result, curves_table}
use Rattle.curves.proofs.Theorems.CurveRefusals.{question3_marked_means, question5_chords_means}
use Rattle.curves.specs.CurveTheorem.{roundel}
use Rattle.curves.proofs.Theorems.CurveTheorem.{marked_accepted, curves_accepted, curves_zero}
use Rattle.curves.proofs.Theorems.NoCurves.{marks_yes}
use Rattle.curves.specs.CurvedCorrections.{CurveCall, curve_call_of, contour_in, edges_in, curve_call_questions, putting_curve, taking_curve, correct_curve_refusal, corrected_curve}
use Rattle.curves.specs.CurvedHolding.{is_shaped, straight, written_points, written_counts, written_marks, HoldsCurves}
use Rattle.curves.specs.CurvedSeries.{AnyCall, plain, marked, straight_in, site_of, any_calls, AtSite, CurveSeries}
use Rattle.curves.proofs.Laws.Written.{is_marked_contour, curves_asked}
use Rattle.curves.proofs.Laws.CurvedSums.{curves_reordered, holds_of_curve_sums, curve_sums_of_holds, curve_sums_length, curve_sums_within, curve_sums_in_range, curve_sums_put, curve_sums_taken}
use Rattle.curves.proofs.Laws.CurvedKept.{one_contour, accepted_curve, corrected_curve_is, holds_put_curve, holds_taken_curve, curve_same_side}

-- ---- where a series may begin
pub holds_no_curves : (site : Site) → SiteYes site → HoldsCurves site [] (empty_tile (tile_side site))
unfolding tally
holds_no_curves site y =
    holds_of_curve_sums
    (record { is_site = y; shaped = refl; adds_up = adds_up_none (cells_at site) (part_of contour_chords site) (λ c. length (contour_chords c)); few = omega arith; right = refl })

-- contours that were read from an outline, written again, are that outline
written_back : (counts marks : List ℕ) (zs : List ℤ) → length marks ≡ edge_count counts → length zs ≡ numbers marks
    → (written_counts (marked_contours counts marks zs) ≡ counts) × (written_marks (marked_contours counts marks zs) ≡ marks) × (written_points (marked_contours counts marks zs) ≡ zs)
unfolding tally joined marked_contours
written_back [] [] [] e h = (refl, refl, refl)
written_back [] (m ∷ marks) zs e h = absurd (omega (arith, e))
written_back [] [] (z ∷ zs) e h = absurd (omega (arith, h))
written_back (n ∷ counts) marks zs e h =
    let own = numbers (take n marks) in
    let split = numbers-split n marks in
    let rest = written_back counts (drop n marks) (drop own zs) (omega (arith, length-drop n marks, e)) (omega (arith, length-drop own zs, h, split)) in (
      ap₂ ◌∷◌ (length-take-le n marks (omega (arith, e))) rest.0,
      ap (λ l. take n marks ++ l) rest.1 ∙ take-append-drop n marks,
      ap (λ l. take own zs ++ l) rest.2 ∙ take-append-drop own zs,
    )

shaped_back : (counts marks : List ℕ) (zs : List ℤ) → length marks ≡ edge_count counts → length zs ≡ numbers marks → every is_shaped (marked_contours counts marks zs) ≡ true
unfolding tally marked_contours
shaped_back [] marks zs e h = refl
shaped_back (n ∷ counts) marks zs e h =
    let own = numbers (take n marks) in
    let split = numbers-split n marks in
    ap₂ ◌&&◌ ((question3_marked_means (take own zs) (take n marks)).1 (length-take-le own zs (omega (arith, h, split))))
    (shaped_back counts (drop n marks) (drop own zs) (omega (arith, length-drop n marks, e)) (omega (arith, length-drop own zs, h, split)))

module _ (site : Site) (points : List ℤ) (counts marks : List ℕ) (placement : Placement) (before : List ℤ)
    (done : curves_refusal site points counts marks placement before ≡ 0) where
  abbrev drawn : List ℤ
  drawn = placed placement points

  pub holds_curves_built : HoldsCurves site (marked_contours counts marks drawn)
      (tile_of (curves_table site points counts marks placement before) (curves_result site points counts marks placement before).edges)
  holds_curves_built =
      let a = curves_accepted site points counts marks placement before done in
      let long : length drawn ≡ numbers marks = placed-length placement points ∙ a.points_length in
      let same = written_back counts marks drawn a.marks_length long in
      let cs = marked_contours counts marks drawn in
      let o = all_back Yes (site_questions site before) (marked_questions (reach site) points counts marks placement 0)
      ((curves_zero site points counts marks placement 0 before).0 done) in
      holds_of_curve_sums
      (record {
        is_site = a.site_yes;
        shaped = shaped_back counts marks drawn a.marks_length long;
        adds_up = record {
          table_is = if_done_lem _ before done ∙ sym (parts_table contour_chords site cs a.site_yes);
          edges_is = if_done_lem _ 0 done ∙ length-joined contour_chords cs;
        };
        few = subst (λ n. n ≤ most_edges) (length-joined contour_chords cs) (omega (arith, a.few_edges));
        right = (curves_asked (reach site) cs).1 (
          ap (λ l. (question4 l).answer) same.0 ∙ o.0,
          ap (every is_mark) same.1 ∙ ((and_true_means (every is_mark marks) _).0 o.1.0).0,
          ap (λ l. (question6 (reach site) l).answer) same.2 ∙ o.1.1.1.1.0,
        );
      })

-- ---- a contour of points
module _ (k : Call) (t : Tile) (done : correct_refusal k t ≡ 0) where
  asked : AskedYes k t
  asked = ((call_accepted k t).0 done).about

  abbrev zs : List ℤ
  zs = placed k.placement k.points

  even : length zs ≡ 2 * k.count
  unfolding tally
  even = placed-length k.placement k.points ∙ (question3_means k.points (k.count ∷ [])).0 asked.yes3 ∙ omega arith

  -- its edges are the same, and as many as its points
  same_edges : contour_chords (straight_in k) ≡ contour_edges (contour_of k)
  same_edges = straight_contour k.count zs even

  size_is : length (contour_chords (straight_in k)) ≡ length (contour_of k)
  size_is = ap length same_edges ∙ contour_edges-length (contour_of k)

  plain_shaped : is_shaped (straight_in k) ≡ true
  plain_shaped = (question3_marked_means zs (replicate k.count 0)).1 (even ∙ sym (zeros-numbers k.count))

  plain-right : is_marked_contour (reach k.site) (straight_in k) ≡ true
  plain-right =
      ap₂ ◌&&◌ (ap (λ n. (question4 (n ∷ [])).answer) (length-replicate {A = ℕ} k.count 0) ∙ asked.yes4) (ap₂ ◌&&◌ (marks_yes k.count) asked.yes6)

  plain_is : (c : Change) → k.change ≡ c
      → corrected k t ≡ tile_of (left_by k.site c (contour_chords (straight_in k)) t.table) (edges_after c (length (contour_chords (straight_in k))) t.edges)
  plain_is c e =
      corrected_is k t done c e
      ∙ ap₂ (λ (es : List Edge) n. tile_of (left_by k.site c es t.table) (edges_after c n t.edges)) (sym same_edges) (sym size_is)

  pub holds_put_plain : k.change ≡ Put → {cs : List MarkedContour} → HoldsCurves k.site cs t → HoldsCurves k.site (straight_in k ∷ cs) (corrected k t)
  holds_put_plain e h =
      let room = subst (λ c. already_in c t.edges + k.count ≤ most_edges) e (few_edges k t asked) in
      holds_of_curve_sums
      (curve_sums_put (straight_in k) plain_shaped plain-right (omega (arith, room, size_is, contour_count k asked.yes3)) (plain_is Put e) (curve_sums_of_holds h))

  pub holds_taken_plain : k.change ≡ Take → {others : List MarkedContour} → HoldsCurves k.site (straight_in k ∷ others) t → HoldsCurves k.site others (corrected k t)
  holds_taken_plain e h = holds_of_curve_sums (curve_sums_taken (straight_in k) (plain_is Take e) (curve_sums_of_holds h))

  plain_same_side : {site : Site} {cs : List MarkedContour} → HoldsCurves site cs t → tile_side k.site ≡ tile_side site
  plain_same_side {site} h =
      square_injective (tile_side k.site) (tile_side site)
      (sym ((question2_means (tile_side k.site) t.table).0 asked.yes2) ∙ curve_sums_length (curve_sums_of_holds h))

  -- so is the call with marks that are all 0
  pub no_curves_call : (correct_curve_refusal (curve_call_of k.change k.site k.points k.count (replicate k.count 0) k.placement) t ≡ 0)
      × (corrected_curve (curve_call_of k.change k.site k.points k.count (replicate k.count 0) k.placement) t ≡ corrected k t)
  unfolding tally
  no_curves_call =
      let zeros : List ℕ = replicate k.count 0 in
      let m = curve_call_of k.change k.site k.points k.count zeros k.placement in
      let whole = (call_accepted k t).0 done in
      let long : length k.points ≡ 2 * k.count = (question3_means k.points (k.count ∷ [])).0 asked.yes3 ∙ omega arith in
      let numbered = zeros-numbers k.count in
      let same = one_contour k.points k.count zeros k.placement (length-replicate {A = ℕ} k.count 0) (long ∙ sym numbered) in
      let size = size_is ∙ contour_count k asked.yes3 in
      let counted = ap length same ∙ size in
      let accepted : correct_curve_refusal m t ≡ 0 = accepted_curve m t
      (all_append Yes (site_questions k.site t.table) (marked_questions (reach k.site) k.points (k.count ∷ []) zeros k.placement (already_in k.change t.edges))
      ((site_answers k.site t.table).1 (asked.site, asked.yes2)) (
        asked.yes4,
        (
          ap₂ ◌&&◌ (marks_yes k.count) ((eqb_means (length zeros) (edge_count (k.count ∷ []))).1 (length-replicate {A = ℕ} k.count 0 ∙ omega arith)),
          (
            (question3_marked_means k.points zeros).1 (long ∙ sym numbered),
            (
              asked.yes12,
              (asked.yes6, ((question5_chords_means (already_in k.change t.edges) (edges_marked k.points (k.count ∷ []) zeros k.placement)).1 (omega (arith, counted, few_edges k t asked)), tt)),
            ),
          ),
        ),
      ))
      (ap (λ i. (question13 (taken_out k.change i) t.edges).answer) size ∙ whole.yes13)
      (ap (λ (es : List Edge). (question9_twice t.table (left_by k.site k.change es t.table)).answer) same_edges ∙ whole.yes9) in
      (accepted, if_done_lem _ t accepted ∙ sym (plain_is k.change refl))

-- ---- the series: a call that belongs to it and is not refused has the tile's site
any_side : (k : AnyCall) (t : Tile) {site : Site} {cs : List MarkedContour} → any_calls.number k t ≡ 0 → HoldsCurves site cs t → tile_side (site_of k) ≡ tile_side site
any_side (plain k) t done h = plain_same_side k t done h
any_side (marked k) t done h = curve_same_side k t done h

same_site : (site : Site) (k : AnyCall) (t : Tile) {cs : List MarkedContour} → AtSite site k → any_calls.number k t ≡ 0 → HoldsCurves site cs t → site_of k ≡ site
same_site (OnSheet place) k t one done h = one
same_site (Alone side) k t {cs} one done h = alone (site_of k) one (any_side k t done h)
  where
    alone : (other : Site) → IsAlone other → tile_side other ≡ side → other ≡ Alone side
    alone (Alone n) one e = ap Alone e
    alone (OnSheet place) one e = absurd one

put_any : (k : AnyCall) (t : Tile) → any_calls.number k t ≡ 0 → any_calls.change k ≡ Put → {cs : List MarkedContour} → HoldsCurves (site_of k) cs t
    → HoldsCurves (site_of k) (any_calls.contour k ∷ cs) (any_calls.after k t)
put_any (plain k) t done e h = holds_put_plain k t done e h
put_any (marked k) t done e h = holds_put_curve k t done e h

taken_any : (k : AnyCall) (t : Tile) → any_calls.number k t ≡ 0 → any_calls.change k ≡ Take → {others : List MarkedContour}
    → HoldsCurves (site_of k) (any_calls.contour k ∷ others) t → HoldsCurves (site_of k) others (any_calls.after k t)
taken_any (plain k) t done e h = holds_taken_plain k t done e h
taken_any (marked k) t done e h = holds_taken_curve k t done e h

refused_any : (k : AnyCall) (t : Tile) → any_calls.number k t ≢ 0 → any_calls.after k t ≡ t
refused_any (plain k) t n = if_refused _ t n
refused_any (marked k) t n = if_refused _ t n

keeps : (site : Site) → Keeps any_calls (AtSite site) (HoldsCurves site)
keeps site = record {
  any_order = λ t p h. holds_of_curve_sums (curves_reordered p (curve_sums_of_holds h));
  after_refused = refused_any;
  after_put = λ k t {cs} one done e h.
      let same = same_site site k t one done h in
      subst (λ (s : Site). HoldsCurves s (any_calls.contour k ∷ cs) (any_calls.after k t)) same (put_any k t done e (subst⁻¹ (λ (s : Site). HoldsCurves s cs t) same h));
  after_taken = λ k t {others} one done e h.
      let same = same_site site k t one done h in
      subst (λ (s : Site). HoldsCurves s others (any_calls.after k t)) same
      (taken_any k t done e (subst⁻¹ (λ (s : Site). HoldsCurves s (any_calls.contour k ∷ others) t) same h));
}

pub curve_series-from : {site : Site} {t : Tile} {cs : List MarkedContour} {ks : List AnyCall} {rest : List MarkedContour} → HoldsCurves site cs t
    → CurveSeries site t cs ks rest → HoldsCurves site rest (run any_calls ks t)
curve_series-from {site} h l = run-keeps (keeps site) l.0 l.1 h

pub curve_series : (site : Site) {ks : List AnyCall} {rest : List MarkedContour} → SiteYes site → CurveSeries site (empty_tile (tile_side site)) [] ks rest
    → HoldsCurves site rest (run any_calls ks (empty_tile (tile_side site)))
curve_series site y l = curve_series-from (holds_no_curves site y) l

-- ---- a tile that holds contours of points holds them as contours with every mark 0
straight_edges : (c : Contour) → contour_chords (straight c) ≡ contour_edges c
straight_edges c = straight_contour (length c) (coordinates_of c) (coordinates_of-length c) ∙ ap contour_edges (back_points c)

straight-right : (side : ℕ) (c : Contour) → is_marked_contour side (straight c) ≡ is_contour side c
straight-right side c =
    ap₂ ◌&&◌ (ap (λ n. (question4 (n ∷ [])).answer) (length-replicate {A = ℕ} (length c) 0)) (ap (λ b. b && (question6 side (coordinates_of c)).answer) (marks_yes (length c)))

all_straight : (side : ℕ) (cs : List Contour) → every (is_marked_contour side) (map straight cs) ≡ every (is_contour side) cs
all_straight side [] = refl
all_straight side (c ∷ cs) = ap₂ ◌&&◌ (straight-right side c) (all_straight side cs)

all_shaped : (cs : List Contour) → every is_shaped (map straight cs) ≡ true
all_shaped [] = refl
all_shaped (c ∷ cs) =
    ap₂ ◌&&◌ ((question3_marked_means (coordinates_of c) (replicate (length c) 0)).1 (coordinates_of-length c ∙ sym (zeros-numbers (length c)))) (all_shaped cs)

same_count : (cs : List Contour) → tally length cs ≡ tally (λ c. length (contour_chords c)) (map straight cs)
unfolding tally
same_count [] = refl
same_count (c ∷ cs) = ap₂ ◌+◌ (sym (ap length (straight_edges c) ∙ contour_edges-length c)) (same_count cs)

same_parts : (site : Site) (cs : List Contour) (i : ℕ) → total (λ c. part site c i) cs ≡ total (λ c. part_of contour_chords site c i) (map straight cs)
unfolding total
same_parts site [] i = refl
same_parts site (c ∷ cs) i = ap₂ ◌+ℤ◌ (sym (ap (λ es. get_or (entries_at site es) i (pos 0)) (straight_edges c))) (same_parts site cs i)

pub holds_as_curves : {site : Site} {cs : List Contour} {t : Tile} → HoldsContours site cs t → HoldsCurves site (map straight cs) t
holds_as_curves {site} {cs} h =
    let s = sums_of_holds h in
    holds_of_curve_sums
    (record {
      is_site = s.is_site;
      shaped = all_shaped cs;
      adds_up = record {
        table_is = s.adds_up.table_is
            ∙ added_same (replicate (cells_at site) (pos 0)) (λ i. total (λ c. part site c i) cs) (λ i. total (λ c. part_of contour_chords site c i) (map straight cs)) (λ i q. same_parts site cs i);
        edges_is = s.adds_up.edges_is ∙ same_count cs;
      };
      few = subst (λ n. n ≤ most_edges) (same_count cs) s.few;
      right = all_straight (reach site) cs ∙ s.right;
    })

-- and the other way round: what remains may then be built without marks
pub holds_as_points : {site : Site} {cs : List Contour} {t : Tile} → HoldsCurves site (map straight cs) t → HoldsContours site cs t
holds_as_points {site} {cs} h =
    let s = curve_sums_of_holds h in
    holds_of_sums
    (record {
      is_site = s.is_site;
      adds_up = record {
        table_is = s.adds_up.table_is
            ∙ added_same (replicate (cells_at site) (pos 0)) (λ i. total (λ c. part_of contour_chords site c i) (map straight cs)) (λ i. total (λ c. part site c i) cs) (λ i q. sym (same_parts site cs i));
        edges_is = s.adds_up.edges_is ∙ sym (same_count cs);
      };
      few = subst⁻¹ (λ n. n ≤ most_edges) (same_count cs) s.few;
      right = sym (all_straight (reach site) cs) ∙ s.right;
    })

-- ---- no empty premise: calls that are not refused
module _ {site : Site} {cs : List MarkedContour} {t : Tile} (h : HoldsCurves site cs t) where
  -- whatever its site is, a call's values and the tile's are each at most what the most edges add
  pub curve_not_refused : (k : CurveCall) → All Yes (curve_call_questions k t) → taken_out k.change (length (edges_in k)) ≤ t.edges → correct_curve_refusal k t ≡ 0
  unfolding tally
  curve_not_refused k all out =
      let s = curve_sums_of_holds h in
      let a = marked_accepted k.site k.points (k.count ∷ []) k.marks k.placement (already_in k.change t.edges) t.table all in
      let same = one_contour k.points k.count k.marks k.placement (a.marks_length ∙ omega arith) a.points_length in
      let view = site_in_view k.site a.site_yes (edges_in k) (subst (All (EdgeOnTile (depth_of (reach k.site)))) same a.within.on_tile) in
      let few : length (edges_in k) ≤ most_edges = omega (arith, a.few_edges, ap length same) in
      accepted_curve k t all (le-leb (taken_out k.change (length (edges_in k))) t.edges out)
      (ap₂ ◌&&◌ (curve_sums_in_range s)
      (added_in_range t.table (λ i. sign_of k.change *ℤ get_or (entries_at k.site (edges_in k)) i (pos 0)) (curve_sums_within s)
      (values_within k.site (edges_in k) (sign_within k.change) view few)))

  pub plain-not_refused : (k : Call) → AskedYes k t → taken_out k.change k.count ≤ t.edges → correct_refusal k t ≡ 0
  plain-not_refused k y out =
      let s = curve_sums_of_holds h in
      (call_accepted k t).1
      (record {
        about = y;
        yes13 = le-leb (taken_out k.change k.count) t.edges out;
        yes9 = ap₂ ◌&&◌ (curve_sums_in_range s)
            (added_in_range t.table (λ i. sign_of k.change *ℤ part k.site (contour_of k) i) (curve_sums_within s) (part_within k t y));
      })

  -- the edges of a contour that is in are among those that the record counts
  pub counted_in : {c : MarkedContour} {others : List MarkedContour} → Perm cs (c ∷ others) → length (contour_chords c) ≤ t.edges
  unfolding tally
  counted_in p = omega (arith, (curve_sums_of_holds h).adds_up.edges_is, tally_perm (λ c. length (contour_chords c)) p)

  pub two-yes : Yes (question2 (tile_side site) t.table)
  two-yes = (question2_means (tile_side site) t.table).1 (curve_sums_length (curve_sums_of_holds h))

-- ---- an example, on a tile of one pixel: the four curves of `roundel`, and a square of points, which remains
abbrev round_in : CurveCall
round_in = putting_curve (Alone 1) roundel 4 (1 ∷ 1 ∷ 1 ∷ 1 ∷ []) None

abbrev square_in : Call
square_in = putting 1 (pos 0 ∷ pos 0 ∷ pos 256 ∷ pos 0 ∷ pos 256 ∷ pos 256 ∷ pos 0 ∷ pos 256 ∷ []) 4 None

abbrev round_out : CurveCall
round_out = taking_curve (Alone 1) roundel 4 (1 ∷ 1 ∷ 1 ∷ 1 ∷ []) None

pub mixed : CurveSeries (Alone 1) (empty_tile 1) [] (marked round_in ∷ plain square_in ∷ marked round_out ∷ []) (straight_in square_in ∷ [])
unfolding placed tally joined sides_from marked_contours chords_of splits_from tabulate
mixed =
    let empty : HoldsCurves (Alone 1) [] (empty_tile 1) = holds_no_curves (Alone 1) refl in
    let first : correct_curve_refusal round_in (empty_tile 1) ≡ 0 =
    curve_not_refused empty round_in (refl, (refl, (refl, (refl, (refl, (refl, (refl, (refl, tt)))))))) (omega arith) in
    let one = corrected_curve round_in (empty_tile 1) in
    let holds_one = holds_put_curve round_in (empty_tile 1) first refl empty in
    let few : (question5_beside one.edges (4 ∷ [])).answer ≡ true =
    ap (λ t. (question5_beside t.edges (4 ∷ [])).answer) (corrected_curve_is round_in (empty_tile 1) first Put refl) in
    let second = plain-not_refused holds_one square_in
    (record { site = refl; yes2 = two-yes holds_one; yes4 = refl; yes5 = few; yes3 = refl; yes12 = refl; yes6 = refl }) (omega arith) in
    let two = corrected square_in one in
    let holds-two = holds_put_plain square_in one second refl holds_one in
    let p : Perm (straight_in square_in ∷ contour_in round_in ∷ []) (contour_in round_out ∷ straight_in square_in ∷ []) = mathlib.Core.List.Perm.swap (contour_in round_in) (straight_in square_in) [] in
    let third = curve_not_refused holds-two round_out (refl, (two-yes holds-two, (refl, (refl, (refl, (refl, (refl, (refl, tt)))))))) (counted_in holds-two p) in
    (put first refl (put second refl (taken third refl p none)), (tt, (tt, (tt, tt))))
