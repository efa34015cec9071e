-- What a tile that holds contours, alone or on a sheet, does not refuse: taking out one that it holds, and putting in what passes the questions about a contour,
-- as long as there are not too many edges; and no call is answered 9. So there are series of corrections, and two examples are such.
--
-- Main results
--   never_9                      no call on a tile that holds contours is answered 9
--   put_accepted                 points that pass questions 4, 3, 12 and 6 can be put in, if there is room (5)
--   take-accepted                a contour that is in can be taken out
--   take_as_it_lies              and also with no placement, by the points that it has as placed
--   example                      a series: two calls that are refused, two contours put in, one by a shift, and that one taken out as it lies; the other remains
--   example_on_sheet             a contour that crosses tiles, put into one of them
use Rattle.std.specs.Prelude.{◌≡◌, true, false, ◌&&◌, ◌≢◌, ℕ, ◌+◌, ℤ, pos}
use Rattle.std.proofs.Math.Path.{refl, ap, subst⁻¹}
use Rattle.std.proofs.Common.{sym, ◌∙◌, ap₂, subst, true≢false, arith}
use mathlib.Core.List.{List, [], ◌∷◌, ◌++◌, Perm}
use borrow.Author.Tests.{le-leb}
use Rattle.std.proofs.Math.ListN.{length}
use Rattle.std.specs.Float.{fin}
use Rattle.integers.specs.Units.{most_edges}
use Rattle.integers.proofs.Theorems.ListSum.{all_front, tally_perm}
use Rattle.integers.specs.ListSum.{tally}
use Rattle.integers.specs.Tests.{every}
use Rattle.integers.proofs.Theorems.Tests.{and_true_means}
use Rattle.integers.proofs.Theorems.Every.{every_perm}
use Rattle.integers.specs.Rounding.{round_half_up, floor}
use Rattle.placement.specs.declared.Placement.{Placement}
use Rattle.placement.specs.declared.Placement.TheVariants.{None, Shift}
use Rattle.placement.specs.Parts.{parts_of, is_multiple}
use Rattle.placement.specs.Placed.{placed}
use Rattle.placement.proofs.Laws.PlacedPoints.{placed_none}
use Rattle.accuracy.specs.Outline.{points_of, edge_count}
use Rattle.tile.specs.Questions.{Yes, question2, question3, question4, question5_beside, question6, question12}
use Rattle.tile.proofs.Theorems.Refusals.{question2_means, question3_means}
use Rattle.tile.specs.Written.{Contour, coordinates_of}
use Rattle.tile.proofs.Laws.FirstNo.{decided_yes, decided_no}
use Rattle.tile.proofs.Laws.Written.{back_points, coordinates_of-length}
use Rattle.sheet.specs.declared.SheetTile.{SheetTile}
use Rattle.sheet.specs.declared.Site.{Site}
use Rattle.sheet.specs.declared.Site.TheVariants.{Alone, OnSheet}
use Rattle.sheet.specs.Sites.{tile_side, reach, SiteYes}
use Rattle.corrections.specs.declared.Change.TheVariants.{Put, Take}
use Rattle.corrections.specs.Corrections.{Tile, Call, call_of, putting, taking, putting_on, taking_on, contour_of, question13, question9_twice, taken_out, would_leave, contour_questions, correct_refusal, corrected}
use Rattle.corrections.proofs.Theorems.CorrectingRefusals.{decided9}
use Rattle.corrections.specs.Holding.{empty_tile, HoldsContours}
use Rattle.corrections.specs.Series.{none, refused, put, taken, Series}
use Rattle.corrections.proofs.Theorems.SeriesTheorem.{holds-empty}
use Rattle.corrections.proofs.Laws.Answered.{AskedYes, asked_yes, call_accepted}
use Rattle.corrections.proofs.Laws.Accepted.{is_contour}
use Rattle.corrections.proofs.Laws.Held.{sums_of_holds, sums_length, sums_in_range}
use Rattle.corrections.proofs.Laws.AskedContour.{contour_count, contour_coordinates}
use Rattle.corrections.proofs.Laws.Kept.{corrected_is, holds_put, left_in_range}

-- ---- in a tile that holds contours
module _ {site : Site} {cs : List Contour} {t : Tile} (h : HoldsContours site cs t) where
  is_site : SiteYes site
  is_site = (sums_of_holds h).is_site

  yes2 : Yes (question2 (tile_side site) t.table)
  yes2 = (question2_means (tile_side site) t.table).1 (sums_length (sums_of_holds h))

  -- the table is in range, and so is the one that a call would leave, whatever its site
  yes9 : (k : Call) → AskedYes k t → Yes (question9_twice t.table (would_leave k t))
  yes9 k y = ap₂ ◌&&◌ (sums_in_range (sums_of_holds h)) (left_in_range k t y (sums_of_holds h))

  pub never_9 : (k : Call) → correct_refusal k t ≢ 9
  never_9 k n =
      let nine = question9_twice t.table (would_leave k t) in
      let thirteen = question13 (taken_out k.change k.count) t.edges ∷ [] in
      let asked = contour_questions k t ++ thirteen in
      let d = decided9 k.change k.points k.count k.placement t k.site n in
      let y = (asked_yes k t).0 (all_front Yes (contour_questions k t) thirteen (decided_yes asked nine d)) in
      true≢false (sym (yes9 k y) ∙ decided_no asked nine d)

  -- questions 13 and 9 come after those about the contour
  accepted_by : (k : Call) → AskedYes k t → Yes (question13 (taken_out k.change k.count) t.edges) → correct_refusal k t ≡ 0
  accepted_by k y out = (call_accepted k t).1 (record { about = y; yes13 = out; yes9 = yes9 k y })

  -- what is left to ask is about the call itself, and whether there are too many edges
  module _ (points : List ℤ) (count : ℕ) (placement : Placement) where
    abbrev put_in : Call
    put_in = call_of Put site points count placement

    pub put_accepted : Yes (question4 (count ∷ [])) → Yes (question5_beside t.edges (count ∷ [])) → Yes (question3 points (count ∷ []))
        → Yes (question12 placement points) → Yes (question6 (reach site) (placed placement points)) → correct_refusal put_in t ≡ 0
    put_accepted yes4 yes5 yes3 yes12 yes6 =
        accepted_by put_in (record { site = is_site; yes2 = yes2; yes4 = yes4; yes5 = yes5; yes3 = yes3; yes12 = yes12; yes6 = yes6 }) (le-leb 0 t.edges (omega arith))

    -- A contour that is in: what is left to ask is only that there are two coordinates for each point, and that the placement is one.
    module _ {others : List Contour} (p : Perm cs (points_of (placed placement points) ∷ others)) (yes3 : Yes (question3 points (count ∷ [])))
        (yes12 : Yes (question12 placement points)) where
      abbrev take_out : Call
      take_out = call_of Take site points count placement

      abbrev contour : Contour
      contour = contour_of take_out

      counted : tally length cs ≡ count + tally length others
      unfolding tally
      counted = tally_perm length p ∙ ap (λ n. n + tally length others) (contour_count take_out yes3)

      right : Yes (question4 (length contour ∷ [])) × Yes (question6 (reach site) (coordinates_of contour))
      right =
          let test = is_contour (reach site) in
          let all : every test (contour ∷ others) ≡ true = sym (every_perm test p) ∙ (sums_of_holds h).right in
          (and_true_means (question4 (length contour ∷ [])).answer (question6 (reach site) (coordinates_of contour)).answer).0
          ((and_true_means (test contour) (every test others)).0 all).0

      pub take-accepted : correct_refusal take_out t ≡ 0
      unfolding tally
      take-accepted =
          let s = sums_of_holds h in
          accepted_by take_out
          (record {
            site = is_site;
            yes2 = yes2;
            yes4 = ap (λ n. (question4 (n ∷ [])).answer) (sym (contour_count take_out yes3)) ∙ right.0;
            yes5 = le-leb (0 + edge_count (count ∷ [])) most_edges (omega (arith, s.few, counted));
            yes3 = yes3;
            yes12 = yes12;
            yes6 = ap (λ l. (question6 (reach site) l).answer) (sym (contour_coordinates take_out yes3)) ∙ right.1;
          })
          (le-leb count t.edges (omega (arith, s.adds_up.edges_is, counted)))

  -- whatever placement it was put in with
  pub take_as_it_lies : (c : Contour) {others : List Contour} → Perm cs (c ∷ others) → correct_refusal (call_of Take site (coordinates_of c) (length c) None) t ≡ 0
  unfolding tally
  take_as_it_lies c {others} p =
      let same : points_of (placed None (coordinates_of c)) ≡ c = ap points_of (placed_none (coordinates_of c)) ∙ back_points c in
      take-accepted (coordinates_of c) (length c) None (subst⁻¹ (λ d. Perm cs (d ∷ others)) same p)
      ((question3_means (coordinates_of c) (length c ∷ [])).1 (coordinates_of-length c ∙ omega arith)) refl

-- ---- an example, on a tile of 2 pixels: a triangle at its upper right, which is put in from one pixel further left, and a square that remains
abbrev triangle : List ℤ
triangle = pos 256 ∷ pos 0 ∷ pos 512 ∷ pos 0 ∷ pos 256 ∷ pos 256 ∷ []

abbrev square : List ℤ
square = pos 0 ∷ pos 256 ∷ pos 256 ∷ pos 256 ∷ pos 256 ∷ pos 512 ∷ pos 0 ∷ pos 512 ∷ []

-- nothing is in yet; and another side
abbrev early : Call
early = taking 2 triangle 3 None

abbrev elsewhere : Call
elsewhere = putting 4 triangle 3 None

abbrev shifted : Call
shifted = putting 2 (pos 0 ∷ pos 0 ∷ pos 256 ∷ pos 0 ∷ pos 0 ∷ pos 256 ∷ []) 3 (Shift (fin false 1 (pos 8)) (fin false 0 (pos 0)))

abbrev plain : Call
plain = putting 2 square 4 None

abbrev lying : Call
lying = taking 2 triangle 3 None

too_early : correct_refusal early (empty_tile 2) ≡ 13
unfolding placed tally
too_early = refl

other_side : correct_refusal elsewhere (empty_tile 2) ≡ 2
other_side = refl

same_contour : contour_of shifted ≡ contour_of lying
unfolding placed parts_of round_half_up floor points_of
same_contour = refl

pub example : Series (Alone 2) (empty_tile 2) [] (early ∷ elsewhere ∷ shifted ∷ plain ∷ lying ∷ []) (contour_of plain ∷ [])
unfolding placed points_of parts_of is_multiple round_half_up floor tally
example =
    let empty : HoldsContours (Alone 2) [] (empty_tile 2) = holds-empty (Alone 2) refl in
    let first : correct_refusal shifted (empty_tile 2) ≡ 0 = put_accepted empty shifted.points 3 shifted.placement refl refl refl refl refl in
    let one = corrected shifted (empty_tile 2) in
    let holds_one = holds_put shifted (empty_tile 2) first refl empty in
    let few : (question5_beside one.edges (4 ∷ [])).answer ≡ true =
    ap (λ t. (question5_beside t.edges (4 ∷ [])).answer) (corrected_is shifted (empty_tile 2) first Put refl) in
    let second = put_accepted holds_one square 4 None refl few refl refl refl in
    let two = corrected plain one in
    let holds-two = holds_put plain one second refl holds_one in
    let p : Perm (contour_of plain ∷ contour_of shifted ∷ []) (contour_of lying ∷ contour_of plain ∷ []) =
    subst (λ c. Perm (contour_of plain ∷ contour_of shifted ∷ []) (c ∷ contour_of plain ∷ [])) same_contour (mathlib.Core.List.Perm.swap (contour_of shifted) (contour_of plain) []) in
    let out = take-accepted holds-two triangle 3 None p refl refl in (
      refused (λ (z : correct_refusal early (empty_tile 2) ≡ 0). absurd (omega (arith, sym too_early ∙ z)))
          (refused (λ (z : correct_refusal elsewhere (corrected early (empty_tile 2)) ≡ 0). absurd (omega (arith, sym other_side ∙ z))) (put first refl (put second refl (taken out refl p none)))),
      (tt, (tt, (tt, (tt, (tt, tt))))),
    )

-- ---- and on a sheet of 4 pixels, in its upper right tile of 2: a square of 2 pixels in the middle of the sheet, a quarter of which lies on the tile
abbrev corner : SheetTile
corner = record { sheet = 4; side = 2; column = 1; row = 0 }

abbrev crossing : Call
crossing = putting_on corner (pos 256 ∷ pos 256 ∷ pos 768 ∷ pos 256 ∷ pos 768 ∷ pos 768 ∷ pos 256 ∷ pos 768 ∷ []) 4 None

abbrev back_out : Call
back_out = taking_on corner crossing.points 4 None

too_early_on_sheet : correct_refusal back_out (empty_tile 2) ≡ 13
unfolding placed tally
too_early_on_sheet = refl

-- it cannot be taken out before it is put in, and can be then
pub example_on_sheet : Series (OnSheet corner) (empty_tile 2) [] (back_out ∷ crossing ∷ back_out ∷ []) []
unfolding placed tally
example_on_sheet =
    let empty : HoldsContours (OnSheet corner) [] (empty_tile 2) = holds-empty (OnSheet corner) (refl, refl) in
    let in_it = put_accepted empty crossing.points 4 None refl refl refl refl refl in
    let p : Perm (contour_of crossing ∷ []) (contour_of back_out ∷ []) = mathlib.Core.List.Perm.refl (contour_of crossing ∷ []) in
    let out = take-accepted (holds_put crossing (empty_tile 2) in_it refl empty) crossing.points 4 None p refl refl in (
      refused (λ (z : correct_refusal back_out (empty_tile 2) ≡ 0). absurd (omega (arith, sym too_early_on_sheet ∙ z)))
          (put in_it refl (taken out refl p none)),
      (refl, (refl, (refl, tt))),
    )
