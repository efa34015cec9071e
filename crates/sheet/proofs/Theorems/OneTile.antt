-- A sheet that is one tile is a tile alone: with the sheet's side the tile's, one of up to 32, building answers and leaves what building without a sheet does,
-- entry for entry, whatever is handed over beside the side. (02 has the root rounded for each edge; on the tile each edge's part of its area is whole.)
--
-- Main results
--   one_tile_result, one_tile_table
use Rattle.std.specs.Prelude.{◌≡◌, refl, List, [], ◌∷◌, ℕ, zero, suc, ◌*◌, ◌/◌, ◌<◌, ℤ, pos, ◌-ℤ◌}
use Rattle.std.proofs.Common.{sym, ◌∙◌, ap, ap₂, arith, zero-mul}
use Rattle.std.proofs.Math.Nat.{div_self}
use Rattle.integers.proofs.Theorems.Ring.{read, ring}
use Rattle.edge.specs.declared.Edge.{Edge}
use Rattle.edge.specs.Nested.{seen_from}
use Rattle.placement.specs.declared.Placement.{Placement}
use Rattle.placement.specs.Placed.{placed}
use Rattle.accuracy.specs.Outline.{edge_count}
use Rattle.accuracy.specs.Tile.{cell_width}
use Rattle.accuracy.specs.OutlineTable.{tile_root}
use Rattle.accuracy.specs.Sheet.{from_tile}
use Rattle.accuracy.proofs.Laws.Roots.{root_wholly_on}
use Rattle.tile.specs.Questions.{Question, Yes, depth_of, first_no, question2, question3, question4, question5, question6, question12}
use Rattle.tile.specs.Outcomes.{if_done, edges_of, table_of, table_with, placed_refusal, placed_result, placed_table}
use Rattle.sheet.specs.declared.SheetTile.{SheetTile}
use Rattle.sheet.specs.SheetQuestions.{question14, question15}
use Rattle.sheet.specs.SheetOutcomes.{tile_at, tile_entries, sheet_refusal, sheet_result, sheet_table}
use Rattle.sheet.proofs.Theorems.SheetRefusals.{question15_means}
use Rattle.sheet.proofs.Theorems.SheetTheorem.{sheet_accepted}
use Rattle.sheet.proofs.Laws.Places.{sheet_tile_side, sheet_tile_wide}

-- ---- from the origin an edge is seen as it is
unmoved : (z : ℤ) (w : ℕ) → z -ℤ pos (0 * w) ≡ z
unmoved z w = ap (λ n. z -ℤ pos n) (zero-mul w) ∙ ring (z ∷ []) (search read depth 40) tt

abbrev edge : ℤ → ℤ → ℤ → ℤ → Edge
edge x0 y0 x1 y1 = record { x0 = x0; y0 = y0; x1 = x1; y1 = y1 }

from_origin : (depth : ℕ) (es : List Edge) → from_tile depth 0 0 es ≡ es
from_origin depth [] = refl
from_origin depth (e ∷ es) =
    let w = cell_width depth 0 in
    let a = pos (0 * w) in
    let same : seen_from a a e ≡ e =
    ap₂ (λ x y. edge x y (e.x1 -ℤ a) (e.y1 -ℤ a)) (unmoved e.x0 w) (unmoved e.y0 w) ∙ ap₂ (edge e.x0 e.y0) (unmoved e.x1 w) (unmoved e.y1 w) in
    ap₂ ◌∷◌ same (from_origin depth es)

-- ---- the outcomes
if_same : {A : Type 0} (n : ℕ) {a b : A} (c : A) → (n ≡ 0 → a ≡ b) → if_done n a c ≡ if_done n b c
if_same zero c e = e refl
if_same (suc n) c e = refl

module _ (side : ℕ) (points : List ℤ) (counts : List ℕ) (placement : Placement) (table : List ℤ) (yes14 : Yes (question14 side side)) where
  abbrev place : SheetTile
  place = tile_at side side 0 0

  abbrev es : List Edge
  es = edges_of (placed placement points) counts

  -- questions 14 and 15 are answered yes, and so is question 1; the others are the same
  same_number : sheet_refusal place points counts placement table ≡ placed_refusal side points counts placement table
  same_number =
      let rest : List Question = question2 side table ∷ question4 counts ∷ question5 counts ∷ question3 points counts ∷ question12 placement points
      ∷ question6 side (placed placement points) ∷ [] in
      let one : 0 < side / side = omega (arith, div_self (sheet_tile_wide side side yes14)) in
      let yes15 : Yes (question15 place) = (question15_means place).1 (one, one) in
      ap₂ (λ a b. first_no (record { number = 14; answer = a } ∷ record { number = 15; answer = b } ∷ rest)) yes14 yes15
      ∙ sym (ap (λ a. first_no (record { number = 1; answer = a } ∷ rest)) (sheet_tile_side side side yes14))

  same_entries : sheet_refusal place points counts placement table ≡ 0 → tile_entries place es ≡ table_of side (placed placement points) counts
  same_entries done =
      let a = sheet_accepted place points counts placement table done in
      ap (λ fs. table_with side (tile_root (depth_of side) fs) fs) (from_origin (depth_of side) es)
      ∙ ap (λ r. table_with side r es) (root_wholly_on (depth_of side) a.on_sheet.closed a.on_sheet.on_tile)

  pub one_tile_result : sheet_result place points counts placement table ≡ placed_result side points counts placement table
  one_tile_result = ap (λ n. record { number = n; edges = if_done n (edge_count counts) 0 }) same_number

  pub one_tile_table : sheet_table place points counts placement table ≡ placed_table side points counts placement table
  one_tile_table =
      if_same (sheet_refusal place points counts placement table) table same_entries
      ∙ ap (λ n. if_done n (table_of side (placed placement points) counts) table) same_number
