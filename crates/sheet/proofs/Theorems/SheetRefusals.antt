-- Laws of what specs/SheetRefusals.antt defines. The head of that file lists the main results.
use Rattle.std.specs.Prelude.{◌≡◌, ◌&&◌, List, ◌↔◌, ℕ, ◌/◌, ◌<◌, ◌≤◌, leb, ltb, ℤ}
use Rattle.std.proofs.Common.{arith}
use Rattle.integers.specs.Tests.{one_of, OneOf}
use Rattle.integers.proofs.Theorems.Tests.{one_of_means, leb_means, ltb_means, and_means}
use Rattle.placement.specs.declared.Placement.{Placement}
use Rattle.placement.specs.Placed.{placed}
use Rattle.accuracy.specs.Outline.{edge_count}
use Rattle.tile.specs.Questions.{Yes}
use Rattle.tile.specs.Outcomes.{edges_of}
use Rattle.tile.proofs.Laws.IfDone.{if_refused}
use Rattle.tile.proofs.Laws.FirstNo.{each_number, first_no_among}
use Rattle.sheet.specs.declared.SheetTile.{SheetTile}
use Rattle.sheet.specs.SheetQuestions.{sheet_sides, tile_sides, question14, question15, sheet_questions}
use Rattle.sheet.specs.SheetOutcomes.{tile_entries, sheet_refusal, sheet_result, sheet_table}
use Rattle.sheet.specs.SheetRefusals.{SheetRefusals}

module _ (place : SheetTile) (points : List ℤ) (counts : List ℕ) (placement : Placement) (table : List ℤ) where
  pub sheet_refusals : SheetRefusals place points counts placement table
  sheet_refusals =
      let each = each_number (sheet_questions place points counts placement table) tt in
      record {
        refused14 = each.0;
        refused15 = each.1.0;
        refused2 = each.1.1.0;
        refused4 = each.1.1.1.0;
        refused5 = each.1.1.1.1.0;
        refused3 = each.1.1.1.1.1.0;
        refused12 = each.1.1.1.1.1.1.0;
        refused6 = each.1.1.1.1.1.1.1.0;
        accepted = each.1.1.1.1.1.1.1.1;
        no_other = first_no_among (sheet_questions place points counts placement table);
      }

  nonzero : 0 < sheet_refusal place points counts placement table → sheet_refusal place points counts placement table ≡ 0 → ⊥
  nonzero h e = omega (arith, h, e)

  pub refused_sheet_edges : 0 < sheet_refusal place points counts placement table → (sheet_result place points counts placement table).edges ≡ 0
  refused_sheet_edges h = if_refused (edge_count counts) 0 (nonzero h)

  pub refused_sheet_table : 0 < sheet_refusal place points counts placement table → sheet_table place points counts placement table ≡ table
  refused_sheet_table h = if_refused (tile_entries place (edges_of (placed placement points) counts)) table (nonzero h)

-- ---- the questions
pub question14_means : (sheet side : ℕ) → Yes (question14 sheet side)
    ↔ (OneOf sheet sheet_sides × OneOf side tile_sides × (side ≤ sheet))
question14_means sheet side =
    let wide = one_of_means sheet sheet_sides in
    let narrow = one_of_means side tile_sides in
    let both = and_means (one_of sheet sheet_sides) (one_of side tile_sides) wide narrow in
    let all = and_means (one_of sheet sheet_sides && one_of side tile_sides) (leb side sheet) both (leb_means side sheet) in
    (λ y. (let h = all.0 y in (h.0.0, h.0.1, h.1)), λ h. all.1 ((h.0, h.1), h.2))

pub question15_means : (place : SheetTile) → Yes (question15 place) ↔ ((place.column < place.sheet / place.side) × (place.row < place.sheet / place.side))
question15_means place =
    let tiles = place.sheet / place.side in
    and_means (ltb place.column tiles) (ltb place.row tiles) (ltb_means place.column tiles) (ltb_means place.row tiles)
