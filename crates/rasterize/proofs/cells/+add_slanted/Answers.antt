-- A cell's own details, and then its quarters on the way, in a loop: one level less at each call.
use Rattle.std.proofs.Common.{◌≡◌, ◌∙◌, subst, List, ℕ, suc, ◌+◌, ◌-◌, ◌<◌, ◌≤◌, ℤ, ◌≤ℤ◌, ◌<ℤ◌, SFits, w64, to_z-of_z, arith, rules}
use Rattle.std.proofs.Math.Path.{subst⁻¹}
use Rattle.integers.proofs.Theorems.Machine.{tests}
use Rattle.integers.specs.Bits.{back}
use Rattle.slanted.specs.declared.Slope.{Slope}
use Rattle.slanted.specs.declared.Piece.{Piece}
use Rattle.slanted.specs.Parts.{IsPart}
use Rattle.slanted.proofs.Laws.PieceSound.{sound_ranged}
use Rattle.rasterize.specs.declared.Spot.{Spot}
use Rattle.rasterize.specs.Nodes.{quarters}
use Rattle.rasterize.specs.Ready.{SmallDetails}
use Rattle.rasterize.specs.Slanted.{slope, piece, quarter_on_way, quarter_spot, SlantedReady, SlantedAdds}
use Rattle.rasterize.proofs.Laws.OnSheet.{on_sheet_details}
use Rattle.rasterize.proofs.Laws.ReadyCells.{ready-splits, ready_own, ready_first}
use Rattle.rasterize.proofs.Laws.SlantedCells.{slants_sound, slants_details, slants_even}
use Rattle.rasterize.proofs.SlantedBits.{slope-eq, piece_eq}
use Rattle.rasterize.proofs.SlantedLoop.{SlantedLoop, SlantedOwn, slanted_own, slanted_start, slanted_step, slanted_skip, slanted_asks, slanted_end, slanted_last}
use Rattle.rasterize.proofs.cells.+add_slanted.Goals as goal
use Rattle.rasterize.proofs.cells.+add_slanted.Goals.{then-r, else-r}

-- ---- the call's numbers, read back from their bits
module _ {divisor sx sy first last mx my hx hy : ℤ} (f : SFits w64 divisor) (g : SFits w64 sx) (h : SFits w64 sy) (i : SFits w64 first) (j : SFits w64 last)
    (m : SFits w64 mx) (n : SFits w64 my) (u : SFits w64 hx) (v : SFits w64 hy) where
  abbrev l : Slope
  l = slope (back divisor) (back sx) (back sy)

  abbrev k : Piece
  k = piece (back first) (back last) (back mx) (back my) (back hx) (back hy)

  slope-is : l ≡ slope divisor sx sy
  slope-is = slope-eq (to_z-of_z f) (to_z-of_z g) (to_z-of_z h)

  piece_is : k ≡ piece first last mx my hx hy
  piece_is = piece_eq (to_z-of_z i) (to_z-of_z j) (to_z-of_z m) (to_z-of_z n) (to_z-of_z u) (to_z-of_z v)

  module _ {table : List ℤ} {p : Spot} {left : ℕ} where
    given : SlantedReady table (slope divisor sx sy) p (piece first last mx my hx hy) left → SlantedReady table l p k left
    given r = subst⁻¹ (λ z. SlantedReady table z p k left) slope-is (subst⁻¹ (λ z. SlantedReady table (slope divisor sx sy) p z left) piece_is r)

    -- with at least one level
    one : 1 ≤ left → SlantedReady table (slope divisor sx sy) p (piece first last mx my hx hy) left → SlantedReady table l p k (suc (left - 1))
    one b r = subst (SlantedReady table l p k) {y = suc (left - 1)} (omega arith) (given r)

    -- and with two
    two : 1 < left → SlantedReady table (slope divisor sx sy) p (piece first last mx my hx hy) left → SlantedReady table l p k (suc (suc (left - 2)))
    two b r = subst (SlantedReady table l p k) {y = suc (suc (left - 2))} (omega arith) (given r)

    -- what has been added, with the numbers as they were given
    as-given : {after : List ℤ} → 1 ≤ left → SlantedAdds table after l p k (suc (left - 1))
        → SlantedAdds table after (slope divisor sx sy) p (piece first last mx my hx hy) left
    as-given {after} b e =
        subst (λ z. SlantedAdds table after (slope divisor sx sy) p z left) piece_is
        (subst (λ z. SlantedAdds table after z p k left) slope-is
        (subst (SlantedAdds table after l p k) {x = suc (left - 1)} (omega arith) e))

-- ---- a part of the piece, of which each field is what its bits say
abbrev held : Piece → Piece
held r = piece (back r.first) (back r.last) (back r.middle_x) (back r.middle_y) (back r.half_x) (back r.half_y)

held_is : {r : Piece} → SFits w64 r.first → SFits w64 r.last → SFits w64 r.middle_x → SFits w64 r.middle_y → SFits w64 r.half_x → SFits w64 r.half_y → held r ≡ r
held_is f g h i j k = piece_eq (to_z-of_z f) (to_z-of_z g) (to_z-of_z h) (to_z-of_z i) (to_z-of_z j) (to_z-of_z k)

module _ {l : Slope} {p : Spot} {k r : Piece} {left q : ℕ} {entry table : List ℤ} (deep : 1 < left) (g : SlantedLoop l p k (left - 1) entry table q)
    (b : q < quarters) (part : IsPart k q r) where
  below : suc (left - 2) ≡ left - 1
  below = omega arith

  reached : SlantedLoop l p k (suc (left - 2)) entry table q
  reached = subst⁻¹ (λ n. SlantedLoop l p k n entry table q) below g

  module _ {n : Spot} (same : held r ≡ r) (at : n ≡ quarter_spot p (quarter_on_way l q)) where
    -- the call for the quarter, in its numbers
    asked : {before : List ℤ} → SlantedReady before l p k (suc (suc (left - 2))) → SlantedOwn l p k (suc (left - 2)) before entry → r.first <ℤ r.last
        → SlantedReady table l n (held r) (left - 1)
    asked m own i =
        subst⁻¹ (λ z. SlantedReady table l n z (left - 1)) same
        (subst⁻¹ (λ z. SlantedReady table l z r (left - 1)) at
        (subst (SlantedReady table l (quarter_spot p (quarter_on_way l q)) r) below (slanted_asks reached b part m own i)))

    -- and what it has added
    stepped : {after called : List ℤ} → after ≡ called → SlantedAdds table called l n (held r) (left - 1) → SlantedLoop l p k (left - 1) entry after (q + 1)
    stepped {after} e a =
        subst (λ m. SlantedLoop l p k m entry after (q + 1)) below
        (slanted_step reached b part
        (subst⁻¹ (SlantedAdds table after l (quarter_spot p (quarter_on_way l q)) r) below
        (subst (λ z. SlantedAdds table after l z r (left - 1)) at
        (subst (λ z. SlantedAdds table after l n z (left - 1)) same
        (subst⁻¹ (λ z. SlantedAdds table z l n (held r) (left - 1)) e a)))))

  skipped : {after : List ℤ} → r.last ≤ℤ r.first → after ≡ table → SlantedLoop l p k (left - 1) entry after (q + 1)
  skipped {after} h e = subst (λ m. SlantedLoop l p k m entry after (q + 1)) below (slanted_skip reached b part h e)

-- ---- the goals
pub details_of-w-requires : goal.details_of-w-requires
details_of-w-requires t c =
    let f = c.ranges in
    let m = one f.divisor f.sx f.sy f.first f.last f.mx f.my f.hx f.hy c.requires.0 c.requires.1 in
    slants_sound m.slants m.ready.on_sheet m.inside

pub add_details-requires : goal.add_details-requires
add_details-requires t c =
    let f = c.ranges in
    let m = one f.divisor f.sx f.sy f.first f.last f.mx f.my f.hx f.hy c.requires.0 c.requires.1 in (
      ready_first m.ready c.first_detail.ensures,
      ready_own m.ready,
      subst⁻¹ SmallDetails (c.details_of-w.ensures ∙ slants_details m.slants m.ready.on_sheet m.inside) (on_sheet_details m.ready.on_sheet),
    )

pub loop-q-init : goal.loop-q-init
loop-q-init t c = slanted_start _ _

pub part_of-r-requires : goal.part_of-r-requires
part_of-r-requires t c =
    let f = c.ranges in
    let m = two f.divisor f.sx f.sy f.first f.last f.mx f.my f.hx f.hy c.if-left-gt1.true c.requires.1 in
    let e = slants_even m.slants m.ready.on_sheet in
    (sound_ranged (slants_sound m.slants m.ready.on_sheet m.inside), e.0, e.1, c.loop-q-test.true)

pub quarter_on-n-requires : goal.quarter_on-n-requires
quarter_on-n-requires t c =
    let f = c.ranges in
    let m = one f.divisor f.sx f.sy f.first f.last f.mx f.my f.hx f.hy c.requires.0 c.requires.1 in
    let r = ready-splits m.ready in
    let s = slants_sound m.slants m.ready.on_sheet m.inside in
    (c.loop-q-test.true, r.shallow, r.x_below, r.y_below, s.x, s.y)

pub add_slanted-requires : goal.add_slanted-requires
add_slanted-requires t c =
    let f = c.ranges in
    let m = two f.divisor f.sx f.sy f.first f.last f.mx f.my f.hx f.hy c.if-left-gt1.true c.requires.1 in
    let r = c.part_of-r.result in
    let a : SFits w64 r.first = search rules in
    let b : SFits w64 r.last = search rules in
    let i : r.first <ℤ r.last = search tests in
    let same = held_is {r = r} a b (search rules) (search rules) (search rules) (search rules) in (
      omega (arith, c.decreases, c.requires.0),
      (
        omega (arith, c.if-left-gt1.true),
        asked c.if-left-gt1.true c.loop-q.invariant c.loop-q-test.true c.part_of-r.ensures same c.quarter_on-n.ensures m
            (slanted_own m.inside c.details_of-w.ensures c.first_detail.ensures c.add_details.ensures) i,
      ),
    )

pub loop-q-preserved : goal.loop-q-preserved
loop-q-preserved t c =
    let r = c.part_of-r.result in
    let a : SFits w64 r.first = search rules in
    let b : SFits w64 r.last = search rules in
    let same = held_is {r = r} a b (search rules) (search rules) (search rules) (search rules) in
    elim c.if-r.branch [
      | then-r w ↦ stepped c.if-left-gt1.true c.loop-q.invariant c.loop-q-test.true c.part_of-r.ensures same w.quarter_on-n.ensures w.table-is w.add_slanted.ensures
      | else-r w ↦ (let e : r.last ≤ℤ r.first = search tests in
          skipped c.if-left-gt1.true c.loop-q.invariant c.loop-q-test.true c.part_of-r.ensures e w.table-is)
    ]

pub returns-after-loop-q : goal.returns-after-loop-q
returns-after-loop-q t c =
    let f = c.ranges in
    let m = one f.divisor f.sx f.sy f.first f.last f.mx f.my f.hx f.hy c.requires.0 c.requires.1 in
    as-given f.divisor f.sx f.sy f.first f.last f.mx f.my f.hx f.hy c.requires.0
    (slanted_end (slanted_own m.inside c.details_of-w.ensures c.first_detail.ensures c.add_details.ensures) c.loop-q-test.false c.loop-q.invariant)

pub returns-else-left-gt1 : goal.returns-else-left-gt1
returns-else-left-gt1 t c =
    let f = c.ranges in
    let m = one f.divisor f.sx f.sy f.first f.last f.mx f.my f.hx f.hy c.requires.0 c.requires.1 in
    let last : c.args.left - 1 ≡ 0 = omega (arith, c.if-left-gt1.false) in
    as-given f.divisor f.sx f.sy f.first f.last f.mx f.my f.hx f.hy c.requires.0
    (slanted_last (slanted_own m.inside c.details_of-w.ensures c.first_detail.ensures c.add_details.ensures) last)
