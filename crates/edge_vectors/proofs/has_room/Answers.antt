-- The product is tested. Its factors are bounded, so that it fits.
use Rattle.std.proofs.Common.{refl, sym, subst, [], ◌∷◌, ℤ, pos, ◌-ℤ◌, ◌*ℤ◌, ◌≤ℤ◌, to_z, of_z, w64, to_z-of_z}
use mir.Val.{SFits}
use Rattle.integers.specs.Units.{width_times_extent_limit}
use Rattle.integers.proofs.Theorems.Ring.{ring}
use Rattle.integers.proofs.Theorems.Linear.{le, ◌&◌, linear, lin≤}
use Rattle.integers.specs.Within.{Within}
use Rattle.integers.proofs.Theorems.Within.{bounds, within_is, within_sub}
use Rattle.integers.proofs.Theorems.Machine.{machine, linfits, box}
use Rattle.edge.specs.Room.{coordinate_limit, Even}
use Rattle.edge.proofs.Laws.Cells.{extent_times}
use Rattle.edge_vectors.proofs.has_room.Goals as goal

-- a number that is held as bits
abbrev held : ℤ → ℤ
held x = to_z w64 (of_z w64 x)

abbrev InReach : ℤ → Type 0
InReach x = Within (pos coordinate_limit) x

width≥0 : {w : ℤ} → Even w → pos 0 ≤ℤ w
width≥0 e = let half = e.half in subst (λ w. pos 0 ≤ℤ w) (sym e.twice) (lin≤ (half ∷ []) (le e.half≥0) (search linear depth 40) tt)

difference_fits : {from to : ℤ} → SFits w64 from → SFits w64 to → InReach from → InReach to → SFits w64 (held to -ℤ held from)
difference_fits {from} {to} i j p q = linfits (from ∷ to ∷ []) (bounds p & bounds q) (search machine depth 40) (tt, tt)

product_fits : {from to width : ℤ} → SFits w64 from → SFits w64 to → SFits w64 width → InReach from → InReach to → Even width
    → width ≤ℤ pos width_times_extent_limit → SFits w64 (held (held to -ℤ held from) *ℤ held width)
product_fits {from} {to} {width} i j k p q e h =
    let f = difference_fits i j p q in
    let d = within_sub q p in
    linfits (from ∷ to ∷ width ∷ []) (box d.low d.high (width≥0 e) h) (search machine depth 40) (tt, tt)

-- ---- the goals
pub overflow_mul-to : goal.overflow_mul-to
overflow_mul-to c = product_fits c.ranges.from c.ranges.to c.ranges.width c.requires.ends.0 c.requires.ends.1 c.requires.width.0 c.requires.width.1

pub returns : goal.returns
returns c = λ yes.
    let from = c.args.from in
    let to = c.args.to in
    let width = c.args.width in
    let i = c.ranges.from in
    let j = c.ranges.to in
    let k = c.ranges.width in
    let f = difference_fits i j c.requires.ends.0 c.requires.ends.1 in
    let fits = product_fits i j k c.requires.ends.0 c.requires.ends.1 c.requires.width.0 c.requires.width.1 in
    let p = subst InReach (to_z-of_z fits) (c.is_limited.ensures yes) in
    extent_times (to -ℤ from) c.requires.width.1 (within_is refl (ring (from ∷ to ∷ width ∷ []) (search machine depth 40) tt) p)
