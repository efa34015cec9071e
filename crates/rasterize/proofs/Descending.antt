-- The way down to the smallest cell that the edge lies in.
--
-- Main results
--   descent_step                         from a cell to the quarter that the edge lies in
--   descent_ready, descent_rest          what adding a cell's own details asks for, and what the recursion does
--   OnWay, way_step                      the same as the loop has it, by stages
--   way_room, way_ready, way_details,
--   way_first                            what its calls ask for, and what they answer
--   descent_end, descent_last            the edge has been added: when the recursion has added the rest, and where there are no levels left
use mathlib.Core.Path.{◌≡◌, refl, sym, ◌∙◌, ap, subst, subst⁻¹}
use mathlib.Core.List.{List}
use Prim.Native.Nat.{ℕ, suc, ◌+◌, ◌*◌, ◌/◌, ◌%◌, ◌-◌, ◌<◌, ◌≤◌}
use native.Mathlib.Omega.{arith}
use lib.IntN.{ℤ, pos, nat_abs}
use lib.Signed.{◌≤ℤ◌}
use Rattle.integers.specs.Magnitude.{abs}
use Rattle.edge.specs.declared.Edge.{Edge}
use Rattle.edge.specs.declared.Details.{Details}
use Rattle.edge.specs.Rounded.{details}
use Rattle.edge.specs.Nested.{quarter, OnCell}
use Rattle.edge.specs.Walk.{dx, dy}
use Rattle.edge.specs.Code.{half_with, quarter_details}
use Rattle.edge.proofs.Laws.Cells.{half_below, quarter_on}
use Rattle.edge.proofs.Laws.InQuarter.{in_quarter}
use Rattle.haar.specs.Table.{index}
use Rattle.haar.specs.Plane.{dimensions, h_detail, at}
use Rattle.rasterize.specs.declared.stages.Stage.{Stage}
use Rattle.rasterize.specs.Stages.{stage_at, quarter_stage, StageRoom, StageOf}
use Rattle.rasterize.specs.declared.Node.{Node}
use Rattle.rasterize.specs.Added.{added}
use Rattle.rasterize.specs.Nodes.{quarters, half_width, quarter_node}
use Rattle.rasterize.specs.Contribution.{first_detail, own_part, contribution}
use Rattle.rasterize.specs.Ready.{Ready, Descent}
use Rattle.rasterize.proofs.Laws.Adding.{added-both, added_none}
use Rattle.rasterize.proofs.Laws.Nodes.{quarter_node_at}
use Rattle.rasterize.proofs.Laws.OnSheet.{half≥0, twice}
use Rattle.rasterize.proofs.Laws.Stages.{quarter_with, stage_quarter, stage_room}
use Rattle.rasterize.proofs.Laws.Spare.{spare_le}
use Rattle.rasterize.proofs.Laws.Contributions.{contribution-zero, contribution-quarter}
use Rattle.rasterize.proofs.Laws.ReadyCells.{ready-suc, ready-quarter}
use Rattle.rasterize.proofs.QuarterLoop.{OwnAdded, own_added, own_length, own_spare}

-- quarter x + 2 y is the one in half x from the left and in half y from the top
numbered_on : {e : Edge} (c : Node) (x y : ℕ) → x < 2 → OnCell (quarter c.square (half_width c.square) x y) e → OnCell (quarter_node c (x + 2 * y)).square e
numbered_on {e} c x y h o =
    let column : x ≡ (x + 2 * y) % 2 = omega arith in
    let row : y ≡ (x + 2 * y) / 2 = omega arith in
    subst (λ b. OnCell (quarter c.square (half_width c.square) ((x + 2 * y) % 2) b) e) row
    (subst (λ a. OnCell (quarter c.square (half_width c.square) a y) e) column o)

module _ {e : Edge} {start : Node} {all : ℕ} {before : List ℤ} {c : Node} {table : List ℤ} (d : Descent e start all before c table) where
  -- what the recursion asks for there; `depth` is the level below the last
  module _ {depth : ℕ} (bottom : depth ≡ start.level + all) where
    pub descent_rest : Ready table e (depth - c.level) c
    descent_rest = let same : d.left ≡ depth - c.level = omega (arith, d.levels, bottom) in subst (λ n. Ready table e n c) same d.ready

    -- the recursion adds the rest
    pub descent_end : {after : List ℤ} {left : ℕ} → left ≡ depth - c.level → after ≡ added table (contribution e left c) → after ≡ added before (contribution e all start)
    descent_end {after} {left} k a =
        let same : left ≡ d.left = omega (arith, k, d.levels, bottom) in
        a ∙ ap (λ n. added table (contribution e n c)) same ∙ d.rest

    -- there is no rest
    pub descent_last : depth ≤ c.level → table ≡ added before (contribution e all start)
    descent_last h =
        let none : 0 ≡ depth - c.level = omega arith in
        descent_end none (sym (added_none table (contribution e 0 c) (contribution-zero e c)))

  -- ---- a cell that has quarters
  module _ (h : c.level < start.level + all) where
    abbrev pub below : ℕ
    below = d.left - 1

    whole : suc below ≡ d.left
    whole = omega (arith, d.levels, h)

    pub descent_ready : Ready table e (suc below) c
    descent_ready = ready-suc (omega (arith, d.levels, h)) d.ready

    pub descent_step : {q : ℕ} {w : Details} {first : ℕ} {after : List ℤ} {next : Node} → q < quarters → OnCell (quarter_node c q).square e
        → w ≡ details e c.square → first ≡ first_detail c → after ≡ added table (own_part w first) → next ≡ quarter_node c q
        → Descent e start all before next after
    descent_step {q} {w} {first} {after} l o i j k n = subst⁻¹ (λ c. Descent e start all before c after) n (record {
      left = below;
      levels = omega (arith, d.levels, h);
      ready = ready-quarter descent_ready q l (own_length own) (spare_le (omega arith) (own_spare descent_ready own));
      on = o;
      rest = ap (λ t. added t (contribution e below (quarter_node c q))) own.sum
          ∙ added-both table (λ i. own_part (details e c.square) (first_detail c) i) (contribution e below (quarter_node c q)) (contribution e (suc below) c)
          (λ i m. sym (contribution-quarter below c q l descent_ready.on_sheet o i))
          ∙ ap (λ n. added table (contribution e n c)) whole ∙ d.rest;
    })
      where
        own : OwnAdded e c table after
        own = own_added i j k

-- ---- as the loop has it: the cell by its stage
pub record OnWay (e : Edge) (start : Node) (all : ℕ) (before : List ℤ) (p : Stage) (table : List ℤ) : Type 0 where
  pub cell : Node
  pub stage : StageOf e (start.level + all) p cell
  pub descent : Descent e start all before cell table

module _ {e : Edge} {start : Node} {all : ℕ} {before : List ℤ} {p : Stage} {table : List ℤ} (o : OnWay e start all before p table) where
  pub way_room : StageRoom p
  way_room = subst⁻¹ StageRoom o.stage.is (stage_room o.descent.ready o.descent.on)

  -- ---- a cell that has quarters, in one of which the edge lies
  module _ (h : p.level < start.level + all) (l : (abs (dx e) ≤ℤ abs p.left) × (abs (dy e) ≤ℤ abs p.above)) where
    abbrev c : Node
    c = o.cell

    abbrev q : ℕ
    q = quarter_with (stage_at e c)

    pub deeper : c.level < start.level + all
    deeper = subst (λ (p : Stage). p.level < start.level + all) o.stage.is h

    pub way_ready : Ready table e (suc (below o.descent deeper)) c
    way_ready = descent_ready o.descent deeper

    in_quarters : OnCell (quarter c.square (half_width c.square) (half_with (stage_at e c).left) (half_with (stage_at e c).above)) e
    in_quarters =
        let k = subst (λ (p : Stage). (abs (dx e) ≤ℤ abs p.left) × (abs (dy e) ≤ℤ abs p.above)) o.stage.is l in
        quarter_on c.square (half_width c.square) (twice way_ready.on_sheet) o.descent.on k.0 k.1

    few : q < quarters
    few = let i = half_below (stage_at e c).left in
        let j = half_below (stage_at e c).above in
        omega (arith, i, j)

    -- what is added
    pub way_details : {w : Details} → w ≡ quarter_details (pos p.width) p.left p.above (dx e) (dy e) → w ≡ details e c.square
    way_details i =
        let s = c.square in
        let k = way_ready.on_sheet.halves in
        let width : pos (nat_abs s.width) ≡ s.width = ap (λ z. pos (nat_abs z)) k ∙ sym k in
        i ∙ ap (λ (p : Stage). quarter_details (pos p.width) p.left p.above (dx e) (dy e)) o.stage.is
        ∙ ap (λ z. quarter_details z (stage_at e c).left (stage_at e c).above (dx e) (dy e)) width
        ∙ sym (in_quarter e s (twice way_ready.on_sheet) (half≥0 way_ready.on_sheet) in_quarters)

    pub way_first : {first : ℕ} → first ≡ index dimensions p.level (at p.x p.y) h_detail → first ≡ first_detail c
    way_first j = j ∙ ap (λ (p : Stage). index dimensions p.level (at p.x p.y) h_detail) o.stage.is

    pub way_step : {w : Details} {first : ℕ} {after : List ℤ} {next : Stage} → w ≡ details e c.square → first ≡ first_detail c
        → after ≡ added table (own_part w first) → next ≡ quarter_stage p → OnWay e start all before next after
    way_step {w} {first} {after} i j k n = record {
      cell = quarter_node c q;
      stage = record {
        of_tile = ap (λ c. quarter_node c q) o.stage.of_tile ∙ quarter_node_at (start.level + all) c.level c.x c.y q deeper few;
        is = n ∙ ap quarter_stage o.stage.is ∙ stage_quarter c way_ready.on_sheet;
        on = on_quarter;
      };
      descent = descent_step o.descent deeper few on_quarter i j k refl;
    }
      where
        on_quarter : OnCell (quarter_node c q).square e
        on_quarter = numbered_on c (half_with (stage_at e c).left) (half_with (stage_at e c).above) (half_below (stage_at e c).left) in_quarters
