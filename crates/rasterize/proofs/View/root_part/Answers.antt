-- On a sheet the tile is the cell of level 0.
use Rattle.std.proofs.Common.{◌≡◌, ℕ, sym, ◌∙◌, ap, ap₂}
use Rattle.std.proofs.Math.Path.{subst₂}
use Rattle.integers.proofs.Theorems.Bits.{result_is}
use Rattle.edge.specs.Room.{Room}
use Rattle.edge.specs.Rounded.{rounded_area}
use Rattle.accuracy.specs.Tile.{tile}
use Rattle.accuracy.proofs.Laws.Squares.{square-tile}
use Rattle.rasterize.specs.declared.Node.{Node}
use Rattle.rasterize.specs.Nodes.{node_at}
use Rattle.rasterize.specs.Views.{root_part}
use Rattle.rasterize.proofs.View.root_part.Goals as goal

square_is : {n : Node} (depth : ℕ) → n ≡ node_at depth 0 0 0 → n.square ≡ tile depth
square_is depth is = ap (λ (n : Node). n.square) is ∙ square-tile depth

pub area_in-requires : goal.area_in-requires
area_in-requires c =
    let w = c.of.ensures in
    subst₂ Room (sym w) (sym (square_is c.args.depth c.tile_of.ensures)) c.requires.1

pub returns-in-From : goal.returns-in-From
returns-in-From c =
    let a = c.args in
    result_is c.area_in.type_inv (c.area_in.ensures ∙ ap₂ rounded_area c.of.ensures (square_is a.depth c.tile_of.ensures)
    ∙ ap (λ view. root_part view a.depth a.e) (sym c.in-From.is))
