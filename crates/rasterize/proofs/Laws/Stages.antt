-- The way down from cell to cell, as the loop has it.
--
-- Main results
--   stage_eq                      a stage by its numbers
--   stage_quarter                 the next one is at the quarter that the edge lies in
--   stage_node_lem                a cell of the tile is worked out again from its stage
--   stage_room                    the numbers are small
--   stage_few                     a cell's numbers are below the deepest level's
--   stage_across                  and its level has at most as many cells across as that one
use Rattle.std.specs.Prelude.{◌≡◌, refl, List, [], ◌∷◌, ℕ, suc, ◌+◌, ◌*◌, ◌/◌, ◌%◌, ◌^◌, ◌<◌, ◌≤◌, ℤ, pos, ◌+ℤ◌, ◌*ℤ◌, ◌≤ℤ◌}
use Rattle.std.proofs.Common.{sym, ◌∙◌, ap, ap₂, arith, pow_mono}
use Rattle.std.proofs.Math.Path.{subst⁻¹}
use Rattle.std.proofs.Math.Nat.{pow-succ'}
use Rattle.integers.specs.Units.{greatest_depth, greatest_side}
use Rattle.integers.proofs.Theorems.Order.{nonneg, ≤ℤ-mul}
use Rattle.integers.proofs.Theorems.Linear.{le, ◌&◌, linear, lin≤}
use Rattle.integers.specs.Within.{Within}
use Rattle.integers.proofs.Theorems.Within.{within_le, within_self, nat_abs_of_within}
use Rattle.edge.specs.declared.Edge.{Edge}
use Rattle.edge.specs.Room.{coordinate_limit, extent_limit}
use Rattle.edge.specs.Nested.{OnRange, OnCell}
use Rattle.edge.specs.Code.{before_middle, half_with}
use Rattle.edge.proofs.Laws.Cells.{half_below, before_half_lem}
use Rattle.rasterize.specs.declared.Node.{Node}
use Rattle.rasterize.specs.declared.stages.Stage.{Stage}
use Rattle.rasterize.specs.Nodes.{half_width, quarter_node, node_at}
use Rattle.rasterize.specs.Stages.{stage_at, quarter_stage, stage_node, StageRoom}
use Rattle.rasterize.specs.Ready.{OnSheet, Ready}
use Rattle.rasterize.proofs.Laws.OnSheet.{twice}

pub stage_eq : {l l' n n' x x' y y' w w' : ℕ} {u u' v v' : ℤ} → l ≡ l' → n ≡ n' → x ≡ x' → y ≡ y' → w ≡ w' → u ≡ u' → v ≡ v'
    → ◌≡◌ {A = Stage} (record { level = l; across = n; x = x; y = y; width = w; left = u; above = v })
    (record { level = l'; across = n'; x = x'; y = y'; width = w'; left = u'; above = v' })
stage_eq {l} {l'} {n} {n'} {x} {x'} {y} {y'} {w} {w'} {u} {u'} {v} {v'} a b c d e f g =
    ap₂ (λ l n. record { level = l; across = n; x = x; y = y; width = w; left = u; above = v }) a b
    ∙ ap₂ (λ x y. record { level = l'; across = n'; x = x; y = y; width = w; left = u; above = v }) c d
    ∙ ap₂ (λ w u. record { level = l'; across = n'; x = x'; y = y'; width = w; left = u; above = v }) e f
    ∙ ap (λ v. record { level = l'; across = n'; x = x'; y = y'; width = w'; left = u'; above = v }) g

-- quarter i + 2 j is the one in half i from the left and in half j from the top
column : (i j : ℕ) → i < 2 → i ≡ (i + 2 * j) % 2
column i j h = omega arith

row : (i j : ℕ) → i < 2 → j ≡ (i + 2 * j) / 2
row i j h = omega arith

-- the quarter that the edge lies in, by its number
abbrev pub quarter_with : Stage → ℕ
quarter_with p = half_with p.left + 2 * half_with p.above

pub stage_quarter : {e : Edge} {left : ℕ} (c : Node) → OnSheet e (suc left) c.square
    → quarter_stage (stage_at e c) ≡ stage_at e (quarter_node c (quarter_with (stage_at e c)))
stage_quarter {e} c p =
    let s = c.square in
    let half = half_width s in
    let u = before_middle s.left s.width e.x0 e.x1 in
    let v = before_middle s.top s.width e.y0 e.y1 in
    let i = column (half_with u) (half_with v) (half_below u) in
    let j = row (half_with u) (half_with v) (half_below u) in
    stage_eq refl (sym (pow-succ' 2 c.level)) (ap (λ n. 2 * c.x + n) i) (ap (λ n. 2 * c.y + n) j) refl
    (sym (before_half_lem s.left s.width half e.x0 e.x1 (twice p)) ∙ ap (λ n. before_middle (s.left +ℤ pos n *ℤ half) half e.x0 e.x1) i)
    (sym (before_half_lem s.top s.width half e.y0 e.y1 (twice p)) ∙ ap (λ n. before_middle (s.top +ℤ pos n *ℤ half) half e.y0 e.y1) j)

pub stage_node_lem : (e : Edge) (depth : ℕ) {c : Node} → c ≡ node_at depth c.level c.x c.y → stage_node (stage_at e c) ≡ c
stage_node_lem e depth {c} k = ap (λ n. stage_node (stage_at e n)) k ∙ sym k

-- ---- room
before_within : {side w p q b : ℤ} → OnRange side w p → OnRange side w q → w ≤ℤ b → Within b (before_middle side w p q)
before_within {side} {w} {p} {q} {b} i j k = record {
  low = lin≤ (side ∷ w ∷ p ∷ q ∷ b ∷ []) (le i.high & le j.high & le k) (search linear depth 40) tt;
  high = lin≤ (side ∷ w ∷ p ∷ q ∷ b ∷ []) (le i.low & le j.low & le k) (search linear depth 40) tt;
}

pub stage_room : {t : List ℤ} {e : Edge} {left : ℕ} {c : Node} → Ready t e left c → OnCell c.square e → StageRoom (stage_at e c)
stage_room {c = c} r o = record {
  shallow = omega (arith, r.shallow);
  across = refl;
  x_below = r.x_below;
  y_below = r.y_below;
  wide = nat_abs_of_within (within_le wide (within_self width≥0));
  left = before_within o.x0 o.x1 extent;
  above = before_within o.y0 o.y1 extent;
}
  where
    width≥0 : pos 0 ≤ℤ c.square.width
    width≥0 = let p = r.on_sheet in subst⁻¹ (λ z. pos 0 ≤ℤ z) p.halves (nonneg _)

    -- the sheet is at least one step wide
    wide : c.square.width ≤ℤ pos coordinate_limit
    wide =
        let p = r.on_sheet in
        lin≤ (p.sheet.width ∷ c.square.width ∷ []) (le (≤ℤ-mul p.is_sheet.width width≥0) & le p.narrow) (search linear depth 40) tt

    extent : c.square.width ≤ℤ pos extent_limit
    extent = lin≤ (c.square.width ∷ []) (le wide) (search linear depth 40) tt

pub stage_few : {n level : ℕ} → n < 2 ^ level → level ≤ greatest_depth → n < greatest_side
stage_few {n} {level} h k = omega (arith, pow_mono {i = level} {j = greatest_depth} k)

pub stage_across : {p : Stage} → StageRoom p → p.across ≤ greatest_side
stage_across {p} r = omega (arith, r.across, pow_mono {i = p.level} {j = greatest_depth} r.shallow)
