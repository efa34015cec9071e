-- Both coordinates are whole tiles, in steps.
use Rattle.std.proofs.Common.{◌≡◌, ℕ, ◌*◌, ℤ, pos, ◌∙◌, ap, ap₂}
use Rattle.integers.specs.Units.{steps_per_pixel}
use Rattle.integers.proofs.Theorems.Bits.{result_is}
use Rattle.accuracy.specs.Sheet.{corner}
use Rattle.rasterize.specs.declared.View.TheVariants.{From}
use Rattle.tile.specs.Questions.{depth_of}
use Rattle.tile.proofs.Laws.Sides.{side_power}
use Rattle.tile.proofs.Laws.Accepted.{side_width}
use Rattle.sheet.specs.declared.SheetTile.{SheetTile}
use Rattle.sheet.specs.declared.Site.TheVariants.{OnSheet}
use Rattle.sheet.specs.Sites.{SiteYes}
use Rattle.sheet.proofs.Laws.Places.{sheet_tile_side}
use Rattle.sheet.proofs.corner_of.Goals as goal

corner_is : (place : SheetTile) → SiteYes (OnSheet place) → (t : ℕ) → pos (t * (steps_per_pixel * place.side)) ≡ corner (depth_of place.side) t
corner_is place y t = ap (λ n. pos (t * n)) (side_width place.side (side_power place.side (sheet_tile_side place.sheet place.side y.0)))

pub returns : goal.returns
returns c =
    let p = c.args.place in
    ap₂ (λ (x y : ℤ). From (record { x = x; y = y })) (result_is c.steps_of.type_inv (c.steps_of.ensures ∙ corner_is p c.requires p.column))
    (result_is c.steps_of-2.type_inv (c.steps_of-2.ensures ∙ corner_is p c.requires p.row))
