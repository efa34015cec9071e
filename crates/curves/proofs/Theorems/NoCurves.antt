-- Laws of what specs/NoCurves.antt defines. The head of that file lists the main results.
use Rattle.std.specs.Prelude.{◌≡◌, refl, true, ◌&&◌, List, ◌↔◌, ℕ, zero, suc, ◌*◌, length, replicate, ℤ}
use Rattle.std.proofs.Common.{sym, ◌∙◌, ap, ap₂, arith}
use Rattle.std.proofs.lemmas.List.{length-replicate}
use Rattle.integers.specs.Tests.{every}
use Rattle.integers.proofs.Theorems.Tests.{eqb_means}
use Rattle.placement.specs.declared.Placement.{Placement}
use Rattle.placement.specs.Placed.{placed}
use Rattle.placement.proofs.Laws.PlacedPoints.{placed-length}
use Rattle.accuracy.specs.Outline.{edge_count}
use Rattle.accuracy.proofs.Laws.Coordinates.{contours_of-count}
use Rattle.chords.proofs.Theorems.AllStraight.{straight_outline, zeros-numbers}
use Rattle.tile.specs.Questions.{Yes, question3, question5}
use Rattle.tile.specs.Outcomes.{edges_of, placed_refusal, placed_result, placed_table}
use Rattle.tile.proofs.Theorems.Refusals.{placed_refusals, question3_means, question5_means}
use Rattle.tile.proofs.Laws.IfDone.{if_done_lem}
use Rattle.sheet.specs.declared.SheetTile.{SheetTile}
use Rattle.sheet.specs.declared.Site.TheVariants.{Alone, OnSheet}
use Rattle.sheet.specs.SheetOutcomes.{tile_entries, sheet_refusal, sheet_result, sheet_table}
use Rattle.sheet.proofs.Theorems.SheetRefusals.{sheet_refusals}
use Rattle.sheet.specs.Sites.{entries_at}
use Rattle.curves.specs.MarkedQuestions.{is_mark, question16, question3_marked, question5_chords, edges_marked}
use Rattle.curves.specs.CurveOutcomes.{curves_refusal, curves_result, curves_table}
use Rattle.curves.proofs.Theorems.CurveRefusals.{question3_marked_means, question5_chords_means}
use Rattle.curves.proofs.Theorems.CurveTheorem.{curves_zero}
use Rattle.curves.specs.NoCurves.{zeros}

pub no_curves_edges : (points : List ℤ) (counts : List ℕ) (placement : Placement) → length points ≡ 2 * edge_count counts
    → edges_marked points counts (zeros counts) placement ≡ edges_of (placed placement points) counts
no_curves_edges points counts placement long = straight_outline counts (placed placement points) (placed-length placement points ∙ long)

-- ---- the questions that differ
pub marks_yes : (n : ℕ) → every is_mark (replicate n 0) ≡ true
marks_yes zero = refl
marks_yes (suc n) = marks_yes n

module _ (points : List ℤ) (counts : List ℕ) (placement : Placement) where
  yes16 : Yes (question16 counts (zeros counts))
  yes16 = ap₂ ◌&&◌ (marks_yes (edge_count counts)) ((eqb_means (length (zeros counts)) (edge_count counts)).1 (length-replicate {A = ℕ} (edge_count counts) 0))

  same3 : Yes (question3_marked points (zeros counts)) ↔ Yes (question3 points counts)
  same3 =
      let marked = question3_marked_means points (zeros counts) in
      let plain = question3_means points counts in
      let two = zeros-numbers (edge_count counts) in
      (λ y. plain.1 (marked.0 y ∙ two), λ y. marked.1 (plain.0 y ∙ sym two))

  module _ (long : length points ≡ 2 * edge_count counts) where
    edge-count : length (edges_marked points counts (zeros counts) placement) ≡ edge_count counts
    edge-count =
        ap length (no_curves_edges points counts placement long)
        ∙ contours_of-count counts (placed placement points) (omega (arith, placed-length placement points, long))

    same5 : Yes (question5_chords 0 (edges_marked points counts (zeros counts) placement)) ↔ Yes (question5 counts)
    same5 =
        let marked = question5_chords_means 0 (edges_marked points counts (zeros counts) placement) in
        let plain = question5_means counts in
        (λ y. plain.1 (omega (arith, edge-count, marked.0 y)), λ y. marked.1 (omega (arith, edge-count, plain.0 y)))

-- ---- a tile alone
module _ (side : ℕ) (points : List ℤ) (counts : List ℕ) (placement : Placement) (before : List ℤ) where
  pub no_curves_alone : (curves_refusal (Alone side) points counts (zeros counts) placement before ≡ 0) ↔ (placed_refusal side points counts placement before ≡ 0)
  no_curves_alone =
      let marked = curves_zero (Alone side) points counts (zeros counts) placement 0 before in
      let plain = (placed_refusals side points counts placement before).accepted in (
        λ done. (let y = marked.0 done in
            let three = (same3 points counts placement).0 y.1.1.1.1.0 in
            let long = (question3_means points counts).0 three in
            plain.1
            (y.0, (y.1.0, (y.1.1.0, ((same5 points counts placement long).0 y.1.1.1.1.1.1.1.0, (three, (y.1.1.1.1.1.0, (y.1.1.1.1.1.1.0, tt)))))))),
        λ done. (let y = plain.0 done in
            let three = y.1.1.1.1.0 in
            let long = (question3_means points counts).0 three in
            marked.1 (
              y.0,
              (
                y.1.0,
                (
                  y.1.1.0,
                  (
                    yes16 points counts placement,
                    ((same3 points counts placement).1 three, (y.1.1.1.1.1.0, (y.1.1.1.1.1.1.0, ((same5 points counts placement long).1 y.1.1.1.0, tt)))),
                  ),
                ),
              ),
            )),
      )

  pub no_curves_alone_same : placed_refusal side points counts placement before ≡ 0
      → (curves_result (Alone side) points counts (zeros counts) placement before ≡ placed_result side points counts placement before)
      × (curves_table (Alone side) points counts (zeros counts) placement before ≡ placed_table side points counts placement before)
  no_curves_alone_same done =
      let with = no_curves_alone.1 done in
      let long = (question3_means points counts).0 ((placed_refusals side points counts placement before).accepted.0 done).1.1.1.1.0 in (
        ap₂ (λ m k. record { number = m; edges = k }) (with ∙ sym done) (if_done_lem _ 0 with ∙ edge-count points counts placement long ∙ sym (if_done_lem _ 0 done)),
        if_done_lem _ before with ∙ ap (entries_at (Alone side)) (no_curves_edges points counts placement long) ∙ sym (if_done_lem _ before done),
      )

-- ---- a tile of a sheet
module _ (place : SheetTile) (points : List ℤ) (counts : List ℕ) (placement : Placement) (before : List ℤ) where
  pub no_curves_on_sheet : (curves_refusal (OnSheet place) points counts (zeros counts) placement before ≡ 0) ↔ (sheet_refusal place points counts placement before ≡ 0)
  no_curves_on_sheet =
      let marked = curves_zero (OnSheet place) points counts (zeros counts) placement 0 before in
      let plain = (sheet_refusals place points counts placement before).accepted in (
        λ done. (let y = marked.0 done in
            let three = (same3 points counts placement).0 y.1.1.1.1.1.0 in
            let long = (question3_means points counts).0 three in
            plain.1 (
              y.0,
              (
                y.1.0,
                (
                  y.1.1.0,
                  (
                    y.1.1.1.0,
                    (
                      (same5 points counts placement long).0 y.1.1.1.1.1.1.1.1.0,
                      (three, (y.1.1.1.1.1.1.0, (y.1.1.1.1.1.1.1.0, tt))),
                    ),
                  ),
                ),
              ),
            )),
        λ done. (let y = plain.0 done in
            let three = y.1.1.1.1.1.0 in
            let long = (question3_means points counts).0 three in
            marked.1 (
              y.0,
              (
                y.1.0,
                (
                  y.1.1.0,
                  (
                    y.1.1.1.0,
                    (
                      yes16 points counts placement,
                      (
                        (same3 points counts placement).1 three,
                        (y.1.1.1.1.1.1.0, (y.1.1.1.1.1.1.1.0, ((same5 points counts placement long).1 y.1.1.1.1.0, tt))),
                      ),
                    ),
                  ),
                ),
              ),
            )),
      )

  pub no_curves_on_sheet_same : sheet_refusal place points counts placement before ≡ 0
      → (curves_result (OnSheet place) points counts (zeros counts) placement before ≡ sheet_result place points counts placement before)
      × (curves_table (OnSheet place) points counts (zeros counts) placement before ≡ sheet_table place points counts placement before)
  no_curves_on_sheet_same done =
      let with = no_curves_on_sheet.1 done in
      let long = (question3_means points counts).0 ((sheet_refusals place points counts placement before).accepted.0 done).1.1.1.1.1.0 in (
        ap₂ (λ m k. record { number = m; edges = k }) (with ∙ sym done) (if_done_lem _ 0 with ∙ edge-count points counts placement long ∙ sym (if_done_lem _ 0 done)),
        if_done_lem _ before with ∙ ap (tile_entries place) (no_curves_edges points counts placement long) ∙ sym (if_done_lem _ before done),
      )
