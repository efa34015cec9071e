-- The root's part, and what is added from the cell on.
use Rattle.std.proofs.Common.{◌≡◌, refl, ◌∙◌, ap, ap₂, List, ℕ, zero, suc, ◌+◌, ◌*◌, ◌-◌, ◌^◌, ◌<◌, ◌≤◌, length, get_or, set, ℤ, pos, ◌+ℤ◌, arith}
use Rattle.std.proofs.Math.Path.{subst⁻¹}
use Rattle.std.proofs.Math.Nat.{one-le-pow}
use Rattle.integers.proofs.Theorems.Order.{pos-≤ℤ}
use Rattle.integers.specs.Units.{detail_limit}
use Rattle.integers.specs.Within.{Within}
use Rattle.integers.proofs.Theorems.Within.{within_le, within_zero}
use Rattle.integers.proofs.Theorems.Bits.{result_is}
use Rattle.edge.specs.declared.Edge.{Edge}
use Rattle.edge.specs.Rounded.{root_term}
use Rattle.haar.specs.Cells.{children}
use Rattle.haar.specs.Plane.{dimensions}
use Rattle.rasterize.specs.declared.Spot.{Spot}
use Rattle.rasterize.specs.declared.stages.Stage.{Stage}
use Rattle.rasterize.specs.Added.{added, at_root}
use Rattle.rasterize.specs.Nodes.{node_at}
use Rattle.rasterize.specs.Contribution.{contribution}
use Rattle.rasterize.specs.Ready.{sum_limit, visits, Spare, Ready, ReadyIn}
use Rattle.rasterize.specs.Stages.{stage_at, stage_node, StageOf}
use Rattle.rasterize.proofs.Laws.Adding.{added-length, added-added}
use Rattle.rasterize.proofs.Laws.Spare.{spare_added}
use Rattle.rasterize.proofs.Laws.Stages.{stage_node_lem}
use Rattle.rasterize.proofs.Laws.EdgeAdded.{rooted_added}
use Rattle.rasterize.proofs.add_within.Goals as goal

at_root_lem : {r : ℤ} → Within (pos detail_limit) r → (i : ℕ) → Within (pos (1 * detail_limit)) (at_root r i)
at_root_lem w zero = w
at_root_lem w (suc i) = within_zero detail_limit

module _ {t : List ℤ} {e : Edge} {depth : ℕ} {c : Spot} (f : ReadyIn t e depth (node_at depth c.level c.x c.y)) where
  root-inside : 0 < length t
  root-inside = omega (arith, f.exact, one-le-pow depth (children dimensions) (omega arith))

  -- the table once the root has its part
  module _ {u : List ℤ} {r : ℤ} (term : r ≡ root_term e) (written : u ≡ set t 0 (get_or t 0 (pos 0) +ℤ r)) where
    rooted : u ≡ added t (at_root (root_term e))
    rooted = written ∙ ap (λ r. set t 0 (get_or t 0 (pos 0) +ℤ r)) term ∙ rooted_added t (root_term e) root-inside

    ready : Ready u e (depth - c.level) (node_at depth c.level c.x c.y)
    ready = record {
      shallow = omega (arith, f.shallow, f.level_to_depth);
      x_below = f.x_below;
      y_below = f.y_below;
      long = let all : c.level + (depth - c.level) ≡ depth = omega (arith, f.level_to_depth) in
          omega (arith, ap (λ k. children dimensions ^ k) all, ap length rooted, added-length t (at_root (root_term e)), f.exact);
      spare = subst⁻¹ (λ l. Spare l (visits (depth - c.level))) rooted
          (spare_added 1 (visits (depth - c.level)) (at_root (root_term e)) (λ i h. at_root_lem f.root i) f.spare);
      on_sheet = f.on_sheet;
    }

    -- the cell, by its stage
    module _ {p : Stage} (is : p ≡ stage_at e (node_at depth c.level c.x c.y)) where
      node-is : stage_node p ≡ node_at depth c.level c.x c.y
      node-is = ap stage_node is ∙ stage_node_lem e depth {c = node_at depth c.level c.x c.y} refl

      level-is : p.level ≡ c.level
      level-is = ap (λ (p : Stage). p.level) is

      asked : (p.level ≤ depth) × Ready u e (depth - p.level) (stage_node p) × StageOf e depth p (stage_node p)
      asked = (
        omega (arith, level-is, f.level_to_depth),
        subst⁻¹ (λ n. Ready u e (depth - n) (stage_node p)) level-is (subst⁻¹ (Ready u e (depth - c.level)) node-is ready),
        subst⁻¹ (StageOf e depth p) node-is (record { of_tile = refl; is = is; on = f.on }),
      )

      -- both additions
      both : {v : List ℤ} → v ≡ added u (contribution e (depth - p.level) (stage_node p))
          → v ≡ added t (λ i. at_root (root_term e) i +ℤ contribution e (depth - c.level) (node_at depth c.level c.x c.y) i)
      both k =
          let below = contribution e (depth - c.level) (node_at depth c.level c.x c.y) in
          k ∙ ap₂ (λ n s. added u (contribution e (depth - n) s)) level-is node-is ∙ ap (λ l. added l below) rooted
          ∙ added-added t (at_root (root_term e)) below

pub add_at-requires : goal.add_at-requires
add_at-requires c =
    let f = c.requires in
    let r = f.spare.room in (
      root-inside f,
      within_le (pos-≤ℤ (let b : f.spare.bound ≤ sum_limit = omega arith in b)) (f.spare.each 0),
      subst⁻¹ (Within (pos detail_limit)) (result_is c.root_term.type_inv c.root_term.ensures) f.root,
    )

pub add_from-requires : goal.add_from-requires
add_from-requires c = asked c.requires (result_is c.root_term.type_inv c.root_term.ensures) c.add_at.ensures c.at-start.ensures

pub returns : goal.returns
returns c = both c.requires (result_is c.root_term.type_inv c.root_term.ensures) c.add_at.ensures c.at-start.ensures c.add_from.ensures
