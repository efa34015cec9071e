-- Two accepted outlines on a sheet, the edges of one those of the other, each walked backwards: a tile's greys are the same.
use Rattle.std.specs.Prelude.{◌≡◌, List, ℕ, ℤ}
use Rattle.std.proofs.Common.{◌∙◌, ap}
use Rattle.placement.specs.declared.Placement.{Placement}
use Rattle.placement.specs.Placed.{placed}
use Rattle.accuracy.proofs.Laws.Reversal.{EdgesReversed}
use Rattle.tile.specs.Outcomes.{edges_of, greys_picture}
use Rattle.tile.proofs.Theorems.EitherWay.{opposite_greys}
use Rattle.sheet.specs.declared.SheetTile.{SheetTile}
use Rattle.sheet.specs.SheetOutcomes.{sheet_refusal, sheet_table}
use Rattle.sheet.proofs.Theorems.EitherWayOnSheet.{either_way_on_sheet_table}

module _ (place : SheetTile) (points : List ℤ) (counts : List ℕ) (p : Placement) (before points' : List ℤ) (counts' : List ℕ) (p' : Placement) (other : List ℤ)
    (done : sheet_refusal place points counts p before ≡ 0) (back : EdgesReversed (edges_of (placed p points) counts) (edges_of (placed p' points') counts')) where
  module _ (done' : sheet_refusal place points' counts' p' other ≡ 0) where
    pub either_way_on_sheet_greys : (level : ℕ) (picture : List ℕ)
        → greys_picture place.side level (sheet_table place points' counts' p' other) picture
        ≡ greys_picture place.side level (sheet_table place points counts p before) picture
    either_way_on_sheet_greys level picture =
        ap (λ t. greys_picture place.side level t picture) (either_way_on_sheet_table place points counts p before points' counts' p' other done back done')
        ∙ opposite_greys place.side (sheet_table place points counts p before) level picture
