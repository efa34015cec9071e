-- What an edge in a cell adds in the whole tile: what it adds in the cells above, and what it adds in the cell and below it.
--
-- Main results
--   cell_on_sheet_lem            an edge in a cell of the tile is on the tile, and so on one sheet with it
--   on_sheet_at                  an edge on one sheet with the tile is so with each cell of the tile
--   contribution-above           what an edge adds in the tile, from the cell that it lies in
--   contribution-join            the same after a run in that cell: above it the edge joins the run
use Rattle.std.specs.Prelude.{◌≡◌, [], ◌∷◌, ℕ, zero, suc, ◌+◌, ◌*◌, ◌-◌, ◌/◌, ◌%◌, ◌^◌, ◌<◌, ◌≤◌, ℤ, pos, ◌+ℤ◌, ◌≤ℤ◌}
use Rattle.std.proofs.Common.{sym, ◌∙◌, ap, ap₂, subst, arith, pow-suc}
use Rattle.std.proofs.Math.Path.{subst⁻¹}
use Rattle.std.proofs.Math.Nat.{div-eq_of_lt}
use Rattle.integers.specs.Units.{greatest_depth}
use Rattle.integers.proofs.Theorems.Ring.{read, ring, comb, ◌⊕◌}
use Rattle.integers.proofs.Theorems.Linear.{le, linear, lin≤}
use Rattle.edge.specs.declared.Edge.{Edge}
use Rattle.edge.specs.declared.Details.{Details}
use Rattle.edge.specs.Rounded.{details}
use Rattle.edge.specs.Nested.{OnRange, OnCell}
use Rattle.edge.proofs.Lemmas.Records.{details-eq}
use Rattle.haar.specs.Plane.{at}
use Rattle.accuracy.specs.Outline.{Point, edge_between}
use Rattle.accuracy.specs.Tile.{square, tile, EdgeOnTile, CellOf}
use Rattle.accuracy.proofs.Laws.Squares.{square-tile}
use Rattle.rasterize.specs.declared.Node.{Node}
use Rattle.rasterize.specs.Nodes.{quarter_node, node_at}
use Rattle.rasterize.specs.Contribution.{first_detail, own_part, contribution}
use Rattle.rasterize.specs.Ready.{OnSheet}
use Rattle.contours.specs.Runs.{with_area, part_in, above, triangle}
use Rattle.rasterize.proofs.Laws.Nodes.{quarter_node_at}
use Rattle.rasterize.proofs.Laws.OnSheet.{quarter_on_sheet}
use Rattle.rasterize.proofs.Laws.Contributions.{contribution-quarter}
use Rattle.rasterize.proofs.Laws.EdgesInView.{in_view_alone}
use Rattle.contours.specs.Laws.Runs.{on_ancestor, parent_on, above_zero, above-suc, above_join}

-- ---- on the tile
from_zero : {p w : ℤ} → OnRange (pos 0) w p → p ≤ℤ w
from_zero {p} {w} o = lin≤ (p ∷ w ∷ []) (le o.high) (search linear depth 40) tt

on_tile : {depth : ℕ} {e : Edge} → OnCell (tile depth) e → EdgeOnTile depth e
on_tile o = record {
  start = record { x_low = o.x0.low; x_high = from_zero o.x0; y_low = o.y0.low; y_high = from_zero o.y0 };
  end = record { x_low = o.x1.low; x_high = from_zero o.x1; y_low = o.y1.low; y_high = from_zero o.y1 };
}

pub cell_on_sheet_lem : {depth : ℕ} {e : Edge} (K x y : ℕ) → depth ≤ greatest_depth → CellOf depth K x y → OnCell (square depth K (at x y)) e
    → OnSheet e depth (node_at depth 0 0 0).square
cell_on_sheet_lem {depth} {e} K x y shallow c o =
    let whole : K - 0 ≡ K = omega arith in
    let first : (z : ℕ) → z < 2 ^ K → z / 2 ^ (K - 0) ≡ 0 = λ z h. ap (λ n. z / 2 ^ n) whole ∙ div-eq_of_lt h in
    (in_view_alone shallow (on_tile (subst (λ s. OnCell s e)
    (ap₂ (λ a b. square depth 0 (at a b)) (first x c.x_below) (first y c.y_below) ∙ square-tile depth) (on_ancestor K x y c.level_to_depth o 0 (omega arith))))
    ).on_sheet

-- ---- a cell below the tile: a quarter of its parent
parent_of : {depth K x y : ℕ} → CellOf depth (suc K) x y → CellOf depth K (x / 2) (y / 2)
parent_of {depth} {K} {x} {y} c = record {
  level_to_depth = omega (arith, c.level_to_depth);
  x_below = omega (arith, c.x_below, pow-suc 2 K);
  y_below = omega (arith, c.y_below, pow-suc 2 K);
}

abbrev in_parent : ℕ → ℕ → ℕ
in_parent x y = x % 2 + 2 * (y % 2)

in_parent_lem : (depth K x y : ℕ) → K < depth → quarter_node (node_at depth K (x / 2) (y / 2)) (in_parent x y) ≡ node_at depth (suc K) x y
in_parent_lem depth K x y h =
    let across : 2 * (x / 2) + in_parent x y % 2 ≡ x = omega arith in
    let down : 2 * (y / 2) + in_parent x y / 2 ≡ y = omega arith in
    quarter_node_at depth K (x / 2) (y / 2) (in_parent x y) h (omega arith) ∙ ap₂ (node_at depth (suc K)) across down

-- ---- from the tile down
-- no area
with_none : (w : Details) (u v : ℕ) → with_area w (pos 0) u v ≡ w
with_none w u v = details-eq (ring (w.h ∷ pos u ∷ []) (search read depth 40) tt) (ring (w.v ∷ pos v ∷ []) (search read depth 40) tt)
    (ring (w.d ∷ pos u ∷ pos v ∷ []) (search read depth 40) tt)

module _ {depth : ℕ} {e : Edge} (on : OnSheet e depth (node_at depth 0 0 0).square) where
  pub on_sheet_at : (K x y : ℕ) → CellOf depth K x y → OnSheet e (depth - K) (node_at depth K x y).square
  on_sheet_at zero x y c =
      let all : depth ≡ depth - 0 = omega arith in
      let left : 0 ≡ x = omega (arith, c.x_below) in
      let top : 0 ≡ y = omega (arith, c.y_below) in
      subst (λ s. OnSheet e (depth - 0) s) (ap₂ (λ a b. square depth 0 (at a b)) left top) (subst (λ n. OnSheet e n (node_at depth 0 0 0).square) all on)
  on_sheet_at (suc K) x y c =
      let more : depth - K ≡ suc (depth - suc K) = omega (arith, c.level_to_depth) in
      let parent = node_at depth K (x / 2) (y / 2) in
      subst (λ (n : Node). OnSheet e (depth - suc K) n.square) (in_parent_lem depth K x y (omega (arith, c.level_to_depth)))
      (quarter_on_sheet parent (in_parent x y) (omega arith) (subst (λ n. OnSheet e n parent.square) more (on_sheet_at K (x / 2) (y / 2) (parent_of c))))

  -- from a cell's parent to the cell
  step : (K x y : ℕ) → CellOf depth (suc K) x y → OnCell (square depth (suc K) (at x y)) e → (i : ℕ)
      → contribution e (depth - K) (node_at depth K (x / 2) (y / 2)) i
      ≡ part_in e (pos 0) (node_at depth K (x / 2) (y / 2)) (x % 2) (y % 2) i +ℤ contribution e (depth - suc K) (node_at depth (suc K) x y) i
  step K x y c o i =
      let more : depth - K ≡ suc (depth - suc K) = omega (arith, c.level_to_depth) in
      let parent = node_at depth K (x / 2) (y / 2) in
      let is = in_parent_lem depth K x y (omega (arith, c.level_to_depth)) in
      ap (λ n. contribution e n parent i) more
      ∙ contribution-quarter (depth - suc K) parent (in_parent x y) (omega arith)
      (subst (λ n. OnSheet e n parent.square) more (on_sheet_at K (x / 2) (y / 2) (parent_of c))) (subst⁻¹ (λ (n : Node). OnCell n.square e) is o) i
      ∙ ap₂ (λ w n. own_part w (first_detail parent) i +ℤ contribution e (depth - suc K) n i)
      (sym (with_none (details e parent.square) (x % 2) (y % 2))) is

  pub contribution-above : (K x y : ℕ) → CellOf depth K x y → OnCell (square depth K (at x y)) e → (i : ℕ)
      → contribution e depth (node_at depth 0 0 0) i ≡ above e (pos 0) depth K x y i +ℤ contribution e (depth - K) (node_at depth K x y) i
  contribution-above zero x y c o i =
      let all : depth ≡ depth - 0 = omega arith in
      let left : 0 ≡ x = omega (arith, c.x_below) in
      let top : 0 ≡ y = omega (arith, c.y_below) in
      let here = contribution e (depth - 0) (node_at depth 0 x y) i in
      ap (λ n. contribution e n (node_at depth 0 0 0) i) all ∙ ap₂ (λ a b. contribution e (depth - 0) (node_at depth 0 a b) i) left top
      ∙ comb (above e (pos 0) depth 0 x y i ∷ here ∷ []) (sym (above_zero e (pos 0) depth x y i)) (search read depth 40) tt
  contribution-above (suc K) x y c o i =
      let parent = node_at depth K (x / 2) (y / 2) in
      comb (contribution e depth (node_at depth 0 0 0) i ∷ above e (pos 0) depth K (x / 2) (y / 2) i ∷ above e (pos 0) depth (suc K) x y i
      ∷ contribution e (depth - K) parent i ∷ part_in e (pos 0) parent (x % 2) (y % 2) i ∷ contribution e (depth - suc K) (node_at depth (suc K) x y) i ∷ [])
      (contribution-above K (x / 2) (y / 2) (parent_of c) (parent_on K x y (omega (arith, c.level_to_depth)) o) i ⊕ step K x y c o i
      ⊕ sym (above-suc e (pos 0) depth K x y i)) (search read depth 40) tt

-- ---- a run's next edge: above the cell it joins the run, and the rest is what it adds in the cell and below it
pub contribution-join : {depth : ℕ} (K x y : ℕ) → CellOf depth K x y → {s m t : Point} (a : ℤ) → OnSheet (edge_between m t) depth (node_at depth 0 0 0).square
    → OnCell (square depth K (at x y)) (edge_between s m) → OnCell (square depth K (at x y)) (edge_between m t) → (i : ℕ)
    → above (edge_between s m) a depth K x y i +ℤ contribution (edge_between m t) depth (node_at depth 0 0 0) i
    ≡ above (edge_between s t) (a +ℤ triangle s m t) depth K x y i +ℤ contribution (edge_between m t) (depth - K) (node_at depth K x y) i
contribution-join {depth} K x y c {s} {m} {t} a on o p i =
    comb (above (edge_between s m) a depth K x y i ∷ above (edge_between m t) (pos 0) depth K x y i ∷ contribution (edge_between m t) depth (node_at depth 0 0 0) i
    ∷ above (edge_between s t) (a +ℤ triangle s m t) depth K x y i ∷ contribution (edge_between m t) (depth - K) (node_at depth K x y) i ∷ [])
    (contribution-above on K x y c p i ⊕ above_join K x y c.level_to_depth a o p i) (search read depth 40) tt
