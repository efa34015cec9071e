-- An edge that is as the tile has it: what the functions ask of it, and what it adds to a whole table.
--
-- Main results
--   measured_in, room_in             its coordinates are in `edge`'s range, and it has room in the tile's square
--   root_part_small                  its part of the root is no larger than a detail
--   root-inside                      a table has a root
--   tile-ready                       so a table with room for it can be given to the recursion, once the root has its part
--   rooted_added                     something added at the root is an addition to every entry, of nothing elsewhere
--   edge_entry_lem, edge-added       the root's part and the recursion's are what the edge adds
use Rattle.std.specs.Prelude.{◌≡◌, List, [], ◌∷◌, ℕ, zero, suc, ◌+◌, ◌*◌, ◌-◌, ◌/◌, ◌^◌, ◌<◌, ◌≤◌, length, get_or, set, ℤ, pos, ◌+ℤ◌}
use Rattle.std.proofs.Common.{sym, ◌∙◌, ap, arith, length-set, get_or-set_same, get_or-set_other}
use Rattle.std.proofs.Math.Path.{subst⁻¹}
use Rattle.std.proofs.Math.Nat.{one-le-pow}
use Rattle.integers.specs.Units.{steps_per_pixel, greatest_depth, detail_limit}
use Rattle.integers.proofs.Theorems.Order.{nonneg}
use Rattle.integers.proofs.Theorems.Ring.{read, ring}
use Rattle.integers.specs.Within.{Within}
use Rattle.integers.proofs.Theorems.Within.{within_zero}
use Rattle.edge.specs.declared.Edge.{Edge}
use Rattle.edge.specs.Room.{Measured, Even, Room}
use Rattle.edge.proofs.Laws.Cells.{sheet_measured, sheet_room}
use Rattle.haar.specs.Cells.{children}
use Rattle.haar.specs.Plane.{dimensions}
use Rattle.haar.proofs.Laws.Entries.{entries-root}
use Rattle.accuracy.specs.Tile.{cell_width}
use Rattle.rasterize.specs.declared.View.{View}
use Rattle.rasterize.specs.Added.{added, at_root, entry_of}
use Rattle.rasterize.specs.Nodes.{node_at}
use Rattle.rasterize.specs.Contribution.{contribution}
use Rattle.rasterize.specs.Ready.{visits, Spare, Ready, Fits}
use Rattle.rasterize.specs.Views.{root_part, Seen, seen_table}
use Rattle.rasterize.proofs.Laws.Adding.{added_unique, added-both}
use Rattle.rasterize.proofs.Laws.Spare.{spare_le, spare_added}
use Rattle.rasterize.proofs.Laws.EdgeEntries.{contribution-root, edge-entries}

-- ---- the edge, as the tile has it
-- a tile is an even number of steps wide
tile_even : (depth : ℕ) → Even (pos (cell_width depth 0))
tile_even depth = record {
  half = pos (steps_per_pixel / 2 * 2 ^ (depth - 0));
  half≥0 = nonneg (steps_per_pixel / 2 * 2 ^ (depth - 0));
  twice = ap pos (omega arith);
}

module _ {view : View} {depth : ℕ} {e : Edge} (v : Seen view depth e) where
  pub measured_in : Measured e
  measured_in = sheet_measured v.on_sheet.is_sheet v.on_sheet.edge_on

  pub room_in : Room e (node_at depth 0 0 0).square
  room_in = sheet_room v.on_sheet.is_sheet v.on_sheet.edge_on v.on_sheet.square_on (tile_even depth) v.on_sheet.narrow

  pub root_part_small : Within (pos detail_limit) (root_part view depth e)
  root_part_small = v.small.root_within

-- ---- the root's part
pub rooted_added : (t : List ℤ) (z : ℤ) → 0 < length t → set t 0 (get_or t 0 (pos 0) +ℤ z) ≡ added t (at_root z)
rooted_added t z h = added_unique t (set t 0 (get_or t 0 (pos 0) +ℤ z)) (at_root z) (length-set t 0 (get_or t 0 (pos 0) +ℤ z)) entry
  where
    nothing : (x : ℤ) → x ≡ x +ℤ pos 0
    nothing x = ring (x ∷ []) (search read depth 40) tt

    entry : (i : ℕ) → i < length t → get_or (set t 0 (get_or t 0 (pos 0) +ℤ z)) i (pos 0) ≡ get_or t i (pos 0) +ℤ at_root z i
    entry zero k = get_or-set_same t 0 (get_or t 0 (pos 0) +ℤ z) (pos 0) h
    entry (suc i) k = get_or-set_other t 0 (suc i) (get_or t 0 (pos 0) +ℤ z) (pos 0) (λ q. omega arith) ∙ nothing (get_or t (suc i) (pos 0))

visits-mono : (m n : ℕ) → m ≤ n → visits m ≤ visits n
unfolding visits
visits-mono zero n h = omega arith
visits-mono (suc m) zero h = absurd (omega arith)
visits-mono (suc m) (suc n) h = omega (arith, visits-mono m n (omega arith))

-- an entry is the root's part or a detail
pub edge_entry_lem : (view : View) (depth : ℕ) (e : Edge) (i : ℕ) → i < children dimensions ^ depth
    → at_root (root_part view depth e) i +ℤ contribution e depth (node_at depth 0 0 0) i ≡ entry_of depth (seen_table view depth e) i
edge_entry_lem view depth e zero h =
    let root = root_part view depth e in
    let plain : root +ℤ pos 0 ≡ root = ring (root ∷ []) (search read depth 40) tt in
    ap (λ z. root +ℤ z) (contribution-root e depth (node_at depth 0 0 0)) ∙ plain ∙ sym (entries-root dimensions depth (seen_table view depth e))
edge_entry_lem view depth e (suc i) h =
    let below = contribution e depth (node_at depth 0 0 0) (suc i) in
    let plain : pos 0 +ℤ below ≡ below = ring (below ∷ []) (search read depth 40) tt in
    plain ∙ edge-entries (root_part view depth e) e depth (suc i) (omega arith) h

module _ {t : List ℤ} {view : View} {depth : ℕ} {e : Edge} (fits : Fits t depth 1) (v : Seen view depth e) where
  abbrev root : ℤ
  root = root_part view depth e

  abbrev rooted : List ℤ
  rooted = set t 0 (get_or t 0 (pos 0) +ℤ root)

  pub root-inside : 0 < length t
  root-inside = omega (arith, fits.exact, one-le-pow depth (children dimensions) (omega arith))

  root_part_within : (i : ℕ) → Within (pos (1 * detail_limit)) (at_root root i)
  root_part_within zero = root_part_small v
  root_part_within (suc i) = within_zero detail_limit

  pub tile-ready : {u : List ℤ} → u ≡ rooted → Ready u e depth (node_at depth 0 0 0)
  tile-ready {u} q =
      let is_added : u ≡ added t (at_root root) = q ∙ rooted_added t root root-inside in
      let far : 0 + depth ≡ depth = omega arith in
      let fewer : 1 + visits depth ≤ 1 + visits greatest_depth = omega (arith, visits-mono depth greatest_depth fits.shallow) in
      record {
        shallow = omega (arith, fits.shallow);
        x_below = omega arith;
        y_below = omega arith;
        long = omega (arith, ap (λ k. children dimensions ^ k) far, ap length q, length-set t 0 (get_or t 0 (pos 0) +ℤ root), fits.exact);
        spare =
            subst⁻¹ (λ l. Spare l (visits depth)) is_added
            (spare_added 1 (visits depth) (at_root root) (λ i h. root_part_within i) (spare_le fewer fits.spare));
        on_sheet = v.on_sheet;
      }

  -- both parts together
  pub edge-added : {u : List ℤ} → u ≡ added rooted (contribution e depth (node_at depth 0 0 0)) → u ≡ added t (entry_of depth (seen_table view depth e))
  edge-added {u} q =
      let below = contribution e depth (node_at depth 0 0 0) in
      q ∙ ap (λ l. added l below) (rooted_added t root root-inside) ∙ added-both t (at_root root) below (entry_of depth (seen_table view depth e)) (λ i h. edge_entry_lem view depth e i (omega (arith, fits.exact)))
