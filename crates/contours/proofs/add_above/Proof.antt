-- Level by level, up to the tile.
use mathlib.Core.Path.{◌≡◌, refl, ◌∙◌, ap, ap₂, subst, subst⁻¹}
use Prim.Native.Nat.{suc, ◌-◌, ◌/◌, ◌%◌, ◌^◌, ◌<◌}
use native.Mathlib.Omega.{arith}
use lib.IntN.{pos, ◌+ℤ◌}
use mir.Syntax.{w64}
use mir.Val.{to_z}
use mir.Facts.{to_z-of_z}
use Rattle.integers.specs.Units.{greatest_depth, greatest_side, greatest_coordinate}
use Rattle.integers.specs.Within.{Within}
use Rattle.integers.specs.Bits.{back}
use Rattle.integers.proofs.Theorems.Bits.{back_is, within_back, fits_within}
use Rattle.haar.specs.Table.{index}
use Rattle.haar.specs.Plane.{dimensions, h_detail, at}
use Rattle.rasterize.specs.declared.Spot.{Spot}
use Rattle.rasterize.specs.Added.{added}
use Rattle.rasterize.specs.Nodes.{node_at}
use Rattle.rasterize.specs.Contribution.{first_detail}
use Rattle.rasterize.specs.Ready.{SmallDetails}
use Rattle.rasterize.proofs.Laws.Spare.{spare_le}
use Rattle.contours.specs.Runs.{square_at, parent_spot, with_area, details_in, above, AboveReady}
use Rattle.contours.specs.Laws.RunCells.{on_cell_small}
use Rattle.contours.proofs.AboveLoop.{Climb, climb_start, climb_end, climb_few, climb_at, climb_wide, part, climb_details, climb_small, climb_step, climb_first}
use Rattle.contours.proofs.add_above.Statement.{statement}
use Rattle.contours.proofs.add_above.Tie as tie

abbrev invariant-loop : tie.invariant-loop-p
invariant-loop table₀ e area depth c w₀ table p w = Climb e (to_z w64 area) depth c table₀ p.level p.x p.y (to_z w64 w) table

abbrev decreases-loop : tie.decreases-loop-p
decreases-loop table₀ e area depth c w₀ table p w = p.level

module _ (s : tie.Start invariant-loop decreases-loop) where
  -- the area, read back from its bits
  ready : AboveReady s.args.table.now s.args.e (back s.args.area) s.args.depth s.args.c
  ready = subst⁻¹ (λ z. AboveReady s.args.table.now s.args.e z s.args.depth s.args.c) (to_z-of_z s.ranges.area) s.requires

-- ---- one level up
module _ (n : tie.After-parent_of-p invariant-loop decreases-loop) where
  abbrev here : tie.At-loop-p invariant-loop decreases-loop
  here = n.before.before.before.before.before

  abbrev s : tie.Start invariant-loop decreases-loop
  s = here.before

  abbrev p : Spot
  p = here.loop-p.p

  some : 0 < p.level
  some = n.before.before.before.loop-p-test.true

  climb : Climb s.args.e (back s.args.area) s.args.depth s.args.c s.args.table.now (suc (p.level - 1)) p.x p.y (to_z w64 here.loop-p.w-bits) here.loop-p.table
  climb = subst (λ l. Climb s.args.e (back s.args.area) s.args.depth s.args.c s.args.table.now l p.x p.y (to_z w64 here.loop-p.w-bits) here.loop-p.table)
      (omega (arith, some)) here.loop-p.invariant

  parent_is : n.parent_of-p.result ≡ parent_spot p
  parent_is = n.parent_of-p.ensures

  wide : Within (pos greatest_coordinate) (to_z w64 here.loop-p.w-bits +ℤ to_z w64 here.loop-p.w-bits)
  wide = climb_wide (ready s) climb

add-w : tie.Need-overflow_add-w invariant-loop decreases-loop
add-w n = fits_within tt (wide n)

details-above-requires : tie.Need-details_above-s-requires invariant-loop decreases-loop
details-above-requires n κs =
    let z = s n in
    let r = ready z in
    let f = climb_few r (climb n) in (
      on_cell_small z.args.c r.x_below r.y_below (omega (arith, r.level, r.shallow)) r.on,
      r.small,
      subst⁻¹ (λ (q : Spot). q.x < greatest_side) (parent_is n) f.0,
      subst⁻¹ (λ (q : Spot). q.y < greatest_side) (parent_is n) f.1,
      within_back (fits_within tt (wide n)) (wide n),
      omega arith,
      omega arith,
    )

first-detail-requires : tie.Need-first_detail-requires invariant-loop decreases-loop
first-detail-requires c κs =
    let n = c.before.before in
    let f = climb_at (ready (s n)) (climb n) in (
      subst⁻¹ (λ (q : Spot). q.level < greatest_depth) (parent_is n) f.0,
      subst⁻¹ (λ (q : Spot). q.x < 2 ^ q.level) (parent_is n) f.1,
      subst⁻¹ (λ (q : Spot). q.y < 2 ^ q.level) (parent_is n) f.2,
    )

-- what the calls answer
module _ (c : tie.After-first_detail invariant-loop decreases-loop) where
  abbrev m : tie.After-parent_of-p invariant-loop decreases-loop
  m = c.before.before.before

  details-are : c.before.before.details_above-s.result ≡ part (ready (s m)) (climb m)
  details-are =
      climb_details (ready (s m)) (climb m)
      (c.before.before.details_above-s.ensures
      ∙ ap₂ (λ q z. with_area (details_in (s m).args.e (square_at q z) ((p m).x % 2) ((p m).y % 2)) (back (s m).args.area) ((p m).x % 2) ((p m).y % 2)) (parent_is m) (back_is tt (wide m)))

  first-is : c.first_detail.result ≡ first_detail (node_at (s m).args.depth ((p m).level - 1) ((p m).x / 2) ((p m).y / 2))
  first-is = c.first_detail.ensures ∙ ap (λ (q : Spot). index dimensions q.level (at q.x q.y) h_detail) (parent_is m)

add-details-requires : tie.Need-add_details-requires invariant-loop decreases-loop
add-details-requires c κs =
    let r = ready (s (m c)) in
    let k = climb (m c) in (
      climb_first r k (first-is c),
      spare_le (omega arith) k.spare,
      subst⁻¹ SmallDetails (details-are c) (climb_small r k),
    )

loop-less : tie.Need-loop-p-smaller invariant-loop decreases-loop
loop-less c =
    let n = c.before.before.before.before.before in
    let up : n.parent_of-p.result.level ≡ (p n).level - 1 = ap (λ (q : Spot). q.level) (parent_is n) in
    omega (arith, up, some n)

loop-again : tie.Need-loop-p-preserved invariant-loop decreases-loop
loop-again c =
    let f = c.before.before in
    let n = m f in
    let z = s n in
    let a = z.args in
    subst⁻¹ (λ (q : Spot). Climb a.e (back a.area) a.depth a.c a.table.now q.level q.x q.y (back (to_z w64 (here n).loop-p.w-bits +ℤ to_z w64 (here n).loop-p.w-bits)) c.before.add_details.new.table) (parent_is n)
    (subst⁻¹ (λ w. Climb a.e (back a.area) a.depth a.c a.table.now ((p n).level - 1) ((p n).x / 2) ((p n).y / 2) w c.before.add_details.new.table) (back_is tt (wide n))
    (climb_step (ready z) (climb n) (details-are f) (first-is f) c.before.add_details.ensures))

-- ---- at the tile
module _ (c : tie.After-loop-p invariant-loop decreases-loop) where
  abbrev at-tile : tie.At-loop-p invariant-loop decreases-loop
  at-tile = c.before.before

  ended : at-tile.loop-p.table ≡ added at-tile.before.args.table.now (above at-tile.before.args.e (back at-tile.before.args.area) at-tile.before.args.depth
      at-tile.before.args.c.level at-tile.before.args.c.x at-tile.before.args.c.y)
  ended =
      let z = at-tile.before in
      let a = z.args in
      let none : at-tile.loop-p.p.level ≡ 0 = omega (arith, c.loop-p-test.false) in
      climb_end (ready z) (subst (λ l. Climb a.e (back a.area) a.depth a.c a.table.now l at-tile.loop-p.p.x at-tile.loop-p.p.y (to_z w64 at-tile.loop-p.w-bits) at-tile.loop-p.table)
      none at-tile.loop-p.invariant)

same_length : tie.Need-shape_of-table invariant-loop decreases-loop
same_length c = c.before.before.loop-p.invariant.as_long

returns : tie.Need-returns invariant-loop decreases-loop
returns c =
    let a = c.before.before.before.args in
    ended c ∙ ap (λ z. added a.table.now (above a.e z a.depth a.c.level a.c.x a.c.y)) (to_z-of_z c.before.before.before.ranges.area)

pub add_above_spec : {M : Type 1} → statement M
add_above_spec =
    tie.close
    (tie.spec
    invariant-loop
    decreases-loop
    (λ c. climb_start (ready c) refl)
    (λ c κs. c.before.before.loop-p-test.true)
    add-w
    details-above-requires
    first-detail-requires
    add-details-requires
    loop-less
    loop-again
    same_length
    returns)
