-- A table, an edge and a cell that the recursion is ready for: what it asks for in the cell, and that it is ready for the quarters too.
--
-- Main results
--   ready-suc                                        at least one level is left
--   ready-splits, ready_own, ready_first             then the cell has quarters, and its own three details have room and their places in the table
--   ready-quarter, ready-room                        and its quarters are ready too; with levels below, the edge has room in them
use Rattle.std.specs.Prelude.{◌≡◌, List, [], ◌∷◌, ℕ, suc, ◌+◌, ◌-◌, ◌^◌, ◌<◌, ◌≤◌, length, ℤ, pos, ◌≤ℤ◌}
use Rattle.std.proofs.Common.{subst, arith, pow-suc}
use Rattle.std.proofs.Math.Path.{subst⁻¹}
use Rattle.integers.proofs.Theorems.Order.{≤ℤ-mul}
use Rattle.integers.proofs.Theorems.Linear.{le, ◌&◌, linear, lin≤}
use Rattle.edge.specs.declared.Edge.{Edge}
use Rattle.edge.specs.Room.{coordinate_limit, Room}
use Rattle.haar.specs.Cells.{children}
use Rattle.haar.specs.Table.{index}
use Rattle.haar.specs.Plane.{dimensions, h_detail, d_detail, at}
use Rattle.haar.proofs.Laws.Layout.{index_within, index_plane}
use Rattle.rasterize.specs.declared.Node.{Node}
use Rattle.rasterize.specs.Nodes.{quarters, quarter_node}
use Rattle.rasterize.specs.Contribution.{first_detail}
use Rattle.rasterize.specs.Ready.{visits, Spare, OnSheet, Ready, Splits}
use Rattle.rasterize.proofs.Laws.Spare.{spare_le}
use Rattle.rasterize.proofs.Laws.OnSheet.{on_sheet_width, on_sheet_room, quarter_on_sheet}

-- ---- a table, an edge and a cell, with the cell's level left and perhaps more
pub ready-suc : {t : List ℤ} {e : Edge} {left : ℕ} {c : Node} → 1 ≤ left → Ready t e left c → Ready t e (suc (left - 1)) c
ready-suc {t} {e} {left} {c} h r = subst (λ n. Ready t e n c) (omega arith) r

module _ {t : List ℤ} {e : Edge} {left : ℕ} {c : Node} (r : Ready t e (suc left) c) where
  pub ready-splits : Splits c
  ready-splits =
      let room = on_sheet_room r.on_sheet in
      record {
        shallow = omega (arith, r.shallow);
        x_below = r.x_below;
        y_below = r.y_below;
        left = room.left;
        top = room.top;
        even = room.even;
        wide = wide;
      }
    where
      -- the sheet is at least one step wide
      wide : c.square.width ≤ℤ pos coordinate_limit
      wide =
          let p = r.on_sheet in
          lin≤ (p.sheet.width ∷ c.square.width ∷ []) (le (≤ℤ-mul p.is_sheet.width (on_sheet_width p)) & le p.narrow) (search linear depth 40) tt

  -- room for the cell's own details
  pub ready_own : Spare t 1
  unfolding visits
  ready_own = spare_le (omega arith) r.spare

  -- the last of the three details has its place in the table, and so have the two before it
  pub ready_first : {first : ℕ} → first ≡ first_detail c → first + 2 < length t
  ready_first f =
      let cell = at c.x c.y in
      let last : index dimensions c.level cell d_detail < children dimensions ^ (c.level + suc left) =
      index_within (omega arith) (record { inside = (r.x_below, (r.y_below, tt)); first = omega arith; last = omega arith }) in
      omega (arith, f, last, r.long, index_plane c.level c.x c.y h_detail, index_plane c.level c.x c.y d_detail)

  pub ready-quarter : (q : ℕ) → q < quarters → {t' : List ℤ} → length t' ≡ length t → Spare t' (visits left) → Ready t' e left (quarter_node c q)
  ready-quarter q h {t'} k s = record {
    shallow = omega (arith, r.shallow);
    x_below = omega (arith, r.x_below, pow-suc 2 c.level);
    y_below = omega (arith, r.y_below, pow-suc 2 c.level);
    long = subst (λ n. children dimensions ^ n ≤ length t') {x = c.level + suc left} {y = suc c.level + left} (omega arith) (omega (arith, k, r.long));
    spare = s;
    on_sheet = quarter_on_sheet c q h r.on_sheet;
  }

  -- where there are levels below, the edge has room in a quarter too
  pub ready-room : {q : ℕ} {quarter : Node} → 1 ≤ left → q < quarters → quarter ≡ quarter_node c q → Room e quarter.square
  ready-room {q} h l k = subst⁻¹ (λ (n : Node). Room e n.square) k
      (on_sheet_room (subst (λ n. OnSheet e n (quarter_node c q).square) {y = suc (left - 1)} (omega arith) (quarter_on_sheet c q l r.on_sheet)))
