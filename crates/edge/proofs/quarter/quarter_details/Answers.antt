-- The details of an edge in one quarter, by the distances of its ends from the sides of that quarter.
use Rattle.std.proofs.Common.{◌≡◌, ◌<◌, ◌+◌, ◌*◌, ◌^◌, ℕ, ℤ, pos, nat_abs, ◌-ℤ◌, ◌*ℤ◌, ◌≤ℤ◌, ◌<ℤ◌, sym, ◌∙◌, ap}
use Rattle.std.specs.Int.Signed.{mag}
use Rattle.std.proofs.Math.Facts.{sfits_lit}
use Rattle.integers.specs.Magnitude.{abs}
use Rattle.integers.specs.Within.{Within}
use Rattle.integers.proofs.Theorems.Machine.{tests}
use Rattle.integers.specs.Bits.{back}
use Rattle.integers.specs.Held.{Held}
use Rattle.integers.proofs.Theorems.Held.{held_number, held_sub, held-neg, held-mul, held_fits, held_back}
use Rattle.edge.specs.Room.{extent_limit}
use Rattle.edge.specs.Code.{turned}
use Rattle.edge.proofs.Lemmas.Records.{details-eq}
use Rattle.edge.proofs.Signs.{half_first, half_second}
use Rattle.edge.proofs.Sizes.{magnitude}
use Rattle.edge.proofs.quarter.quarter_details.Goals as goal
use Rattle.edge.proofs.quarter.quarter_details.Goals.{After-abs, After-abs-2, then-above-lt0, else-above-lt0}

abbrev detail_limit : ℕ
detail_limit = (extent_limit + extent_limit) * extent_limit

-- one direction: r is what `abs` answered, `d` the difference of the ends the other way
module _ {width u d r : ℤ} (i : Within (pos extent_limit) width) (j : Within (pos extent_limit) u) (k : Within (pos extent_limit) d) (f : mag r < 2 ^ 63)
    (e : r ≡ pos (nat_abs (back u))) where
  from_side : Held (extent_limit + extent_limit) (back width -ℤ back r) (width -ℤ abs u)
  from_side = held_sub (held_number tt i) (magnitude j f e)

  product : Held detail_limit (back (back width -ℤ back r) *ℤ back d) ((width -ℤ abs u) *ℤ d)
  product = held-mul (held_back tt from_side) (held_number tt k)

module _ (c : After-abs) where
  h_side : Held (extent_limit + extent_limit) (back c.args.width -ℤ back c.abs.result) (c.args.width -ℤ abs c.args.left)
  h_side = let p = c.requires in from_side p.0 p.1 p.4 c.abs.type_inv c.abs.ensures.value

  h_held : Held detail_limit (back (back c.args.width -ℤ back c.abs.result) *ℤ back c.args.dy) ((c.args.width -ℤ abs c.args.left) *ℤ c.args.dy)
  h_held = let p = c.requires in product p.0 p.1 p.4 c.abs.type_inv c.abs.ensures.value

module _ (c : After-abs-2) where
  v_side : Held (extent_limit + extent_limit) (back c.args.width -ℤ back c.abs-2.result) (c.args.width -ℤ abs c.args.above)
  v_side = let p = c.requires in from_side p.0 p.2 p.3 c.abs-2.type_inv c.abs-2.ensures.value

  v_held : Held detail_limit (back (back c.args.width -ℤ back c.abs-2.result) *ℤ back c.args.dx) ((c.args.width -ℤ abs c.args.above) *ℤ c.args.dx)
  v_held = let p = c.requires in product p.0 p.2 p.3 c.abs-2.type_inv c.abs-2.ensures.value

-- d is h, turned by the half
by_half : {i j : ℕ} (z : ℤ) → i ≡ j → turned j z ≡ turned i z
by_half z e = ap (λ k. turned k z) (sym e)

pub overflow_sub-h : goal.overflow_sub-h
overflow_sub-h c = held_fits tt (h_side c)

pub overflow_mul-h : goal.overflow_mul-h
overflow_mul-h c = held_fits tt (h_held c)

pub overflow_sub-v : goal.overflow_sub-v
overflow_sub-v c = held_fits tt (v_side c)

pub overflow_mul-v : goal.overflow_mul-v
overflow_mul-v c = held_fits tt (v_held c)

pub overflow_sub-d : goal.overflow_sub-d
overflow_sub-d c = held_fits tt (held-neg (held_back tt (h_held (goal.at.overflow_sub-d c).After-abs)))

pub overflow_sub-result : goal.overflow_sub-result
overflow_sub-result c = held_fits tt (held-neg (held_back tt (v_held (goal.at.overflow_sub-result c).After-abs-2)))

pub returns : goal.returns
returns c =
    let h = held_back tt (h_held (goal.at.returns c).After-abs) in
    let v = held_back tt (v_held (goal.at.returns c).After-abs-2) in
    let i = c.ranges.above in
    details-eq h.is (held_back tt (held-neg v)).is
    (elim c.if-above-lt0.branch [
      | then-above-lt0 w ↦ (let k : c.args.above <ℤ pos 0 = search (tests, sfits_lit) in w.d-is ∙ (held_back tt (held-neg h)).is ∙ by_half ((c.args.width -ℤ abs c.args.left) *ℤ c.args.dy) (half_second _ k))
      | else-above-lt0 w ↦ (let k : pos 0 ≤ℤ c.args.above = search (tests, sfits_lit) in w.d-is ∙ h.is ∙ by_half ((c.args.width -ℤ abs c.args.left) *ℤ c.args.dy) (half_first _ k))
    ])
