-- On the tile, the way down; and else the recursion from the tile on.
use Rattle.std.proofs.Common.{◌≡◌, refl, sym, ◌∙◌, ap, subst, List, ℕ, ◌-◌, ◌≤◌, ℤ, pos, arith}
use Rattle.std.proofs.Math.Path.{subst⁻¹}
use Rattle.integers.specs.Units.{greatest_depth}
use Rattle.integers.proofs.Theorems.Order.{pos-≤ℤ, nonneg}
use Rattle.integers.proofs.Theorems.Within.{within_le, within_self}
use Rattle.integers.specs.Bits.{back}
use Rattle.integers.proofs.Theorems.Bits.{back_is}
use Rattle.edge.specs.declared.Edge.{Edge}
use Rattle.edge.specs.Room.{coordinate_limit}
use Rattle.edge.specs.Nested.{OnCell}
use Rattle.accuracy.specs.Tile.{cell_width}
use Rattle.accuracy.proofs.Laws.EntryBounds.{tile_width_le}
use Rattle.accuracy.proofs.Laws.Squares.{square-tile}
use Rattle.rasterize.specs.declared.Node.{Node}
use Rattle.rasterize.specs.declared.stages.Stage.{Stage}
use Rattle.rasterize.specs.Nodes.{node_at}
use Rattle.rasterize.specs.Contribution.{contribution}
use Rattle.rasterize.specs.Ready.{square_of, Ready}
use Rattle.rasterize.specs.Stages.{stage_at, stage_node, StageOf}
use Rattle.rasterize.proofs.Laws.Adding.{added_none}
use Rattle.rasterize.proofs.Laws.Stages.{stage_node_lem}
use Rattle.rasterize.proofs.Laws.Contributions.{contribution-zero}
use Rattle.rasterize.proofs.add_seen.Goals as goal

-- the tile's width, read back from its bits
width_is : (depth : ℕ) → depth ≤ greatest_depth → back (pos (cell_width depth 0)) ≡ pos (cell_width depth 0)
width_is depth h =
    let narrow : cell_width depth 0 ≤ coordinate_limit = omega (arith, tile_width_le h) in
    back_is tt (within_le (pos-≤ℤ narrow) (within_self (nonneg (cell_width depth 0))))

on_tile : {n : Node} {e : Edge} (depth : ℕ) → depth ≤ greatest_depth → n ≡ node_at depth 0 0 0 → OnCell (square_of (back n.square.width)) e
    → OnCell (node_at depth 0 0 0).square e
on_tile {e = e} depth h k o =
    subst⁻¹ (λ q. OnCell q e) (square-tile depth)
    (subst (λ w. OnCell (square_of w) e) (ap (λ (n : Node). back n.square.width) k ∙ width_is depth h) o)

-- the first cell of the way is the tile
asked : {t : List ℤ} {e : Edge} {depth : ℕ} {p : Stage} → p ≡ stage_at e (node_at depth 0 0 0) → Ready t e depth (node_at depth 0 0 0)
    → OnCell (node_at depth 0 0 0).square e
    → (p.level ≤ depth) × Ready t e (depth - p.level) (stage_node p) × StageOf e depth p (stage_node p)
asked {t} {e} {depth} {p} is r o =
    let tile = node_at depth 0 0 0 in
    let node-is : stage_node p ≡ tile = ap stage_node is ∙ stage_node_lem e depth {c = tile} refl in
    let level-is = ap (λ (p : Stage). p.level) is in
    let all : depth - p.level ≡ depth = omega (arith, level-is) in (
      omega (arith, level-is),
      subst⁻¹ (λ n. Ready t e n (stage_node p)) all (subst⁻¹ (Ready t e depth) node-is r),
      subst⁻¹ (StageOf e depth p) node-is (record { of_tile = refl; is = is; on = o }),
    )

pub add_from-requires : goal.add_from-requires
add_from-requires c =
    let r = c.requires.0 in
    asked c.at.ensures r (on_tile c.args.depth (omega (arith, r.shallow)) c.tile_of-tile.ensures (c.lies_on.ensures.yes c.if-lies_on.true))

-- a tile of one pixel has no details
pub returns-else-depth-gt0 : goal.returns-else-depth-gt0
returns-else-depth-gt0 c =
    let a = c.args in
    let tile = node_at a.depth 0 0 0 in
    let flat : a.depth ≡ 0 = omega (arith, c.if-depth-gt0.false) in
    sym (added_none a.table.now (contribution a.e a.depth tile) (λ i. ap (λ d. contribution a.e d tile i) flat ∙ contribution-zero a.e tile i))
