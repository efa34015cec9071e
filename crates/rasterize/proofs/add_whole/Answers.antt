-- The root's part, and the details.
use Rattle.std.proofs.Common.{◌≡◌, ◌∙◌, ap, subst, ◌≤◌, List, get_or, set, ℤ, pos, ◌+ℤ◌, arith}
use Rattle.std.proofs.Math.Path.{subst⁻¹}
use Rattle.integers.proofs.Theorems.Order.{pos-≤ℤ}
use Rattle.integers.specs.Units.{detail_limit}
use Rattle.integers.specs.Within.{Within}
use Rattle.integers.proofs.Theorems.Within.{within_le}
use Rattle.integers.proofs.Theorems.Bits.{result_is}
use Rattle.edge.specs.Room.{Room}
use Rattle.accuracy.proofs.Laws.Squares.{square-tile}
use Rattle.rasterize.specs.Added.{added}
use Rattle.rasterize.specs.Nodes.{node_at}
use Rattle.rasterize.specs.Contribution.{contribution}
use Rattle.rasterize.specs.Ready.{sum_limit}
use Rattle.rasterize.proofs.Laws.EdgeAdded.{measured_in, room_in, root_part_small, root-inside, tile-ready, edge-added}
use Rattle.rasterize.proofs.add_whole.Goals as goal

-- the table once the root has its part
rooted : (t : List ℤ) {u : List ℤ} {r s : ℤ} → r ≡ s → u ≡ set t 0 (get_or t 0 (pos 0) +ℤ r) → u ≡ set t 0 (get_or t 0 (pos 0) +ℤ s)
rooted t e k = k ∙ ap (λ z. set t 0 (get_or t 0 (pos 0) +ℤ z)) e

pub root_part-requires : goal.root_part-requires
root_part-requires c = (c.requires.0.shallow, subst (Room c.args.e) (square-tile c.args.depth) (room_in c.requires.1))

pub add_at-requires : goal.add_at-requires
add_at-requires c =
    let f = c.requires.0 in
    let r = f.spare.room in (
      root-inside f c.requires.1,
      within_le (pos-≤ℤ (let b : f.spare.bound ≤ sum_limit = omega arith in b)) (f.spare.each 0),
      subst⁻¹ (Within (pos detail_limit)) (result_is c.root_part.type_inv c.root_part.ensures) (root_part_small c.requires.1),
    )

pub add_seen-requires : goal.add_seen-requires
add_seen-requires c =
    let r = c.requires in
    (tile-ready r.0 r.1 (rooted _ (result_is c.root_part.type_inv c.root_part.ensures) c.add_at.ensures), measured_in r.1)

pub returns : goal.returns
returns c =
    let a = c.args in
    edge-added c.requires.0 c.requires.1
    (c.add_seen.ensures
    ∙ ap (λ l. added l (contribution a.e a.depth (node_at a.depth 0 0 0))) (rooted _ (result_is c.root_part.type_inv c.root_part.ensures) c.add_at.ensures))
