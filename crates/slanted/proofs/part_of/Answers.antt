-- The six numbers of a part.
use Rattle.std.proofs.Common.{◌≡◌, sym, ◌∙◌, ap, ap₂, [], ◌∷◌, ◌/◌, ◌%◌, ℤ, pos, ◌+ℤ◌, ◌≤ℤ◌, rules}
use Rattle.integers.specs.Units.{width_times_extent_limit}
use Rattle.integers.proofs.Theorems.Linear.{le, eq, ◌&◌, linear, lin≤}
use Rattle.integers.specs.Within.{Within}
use Rattle.integers.proofs.Theorems.Within.{bounds}
use Rattle.integers.specs.Bits.{back}
use Rattle.integers.proofs.Theorems.Bits.{back_is, result_is}
use Rattle.slanted.specs.Under.{far_limit}
use Rattle.slanted.specs.Parts.{since, until, shifted}
use Rattle.slanted.proofs.part_of.Goals as goal

-- half of a number in range, as `half_of` answers it
small : {p q : ℤ} → p ≡ q +ℤ q → pos 0 ≤ℤ q → Within (pos width_times_extent_limit) p → Within (pos far_limit) q
small {p} {q} e h w = record {
  low = lin≤ (q ∷ []) (le h) (search linear depth 40) tt;
  high = lin≤ (p ∷ q ∷ []) (eq e & le h & bounds w) (search linear depth 40) tt;
}

twice : {p q : ℤ} → Within (pos width_times_extent_limit) p → (back p ≡ q +ℤ q) × (pos 0 ≤ℤ q) → p ≡ back q +ℤ back q
twice w h =
    let e = sym (back_is tt w) ∙ h.0 in
    e ∙ sym (ap (λ z. z +ℤ z) (back_is tt (small e h.1 w)))

pub returns : goal.returns
returns c =
    let k = c.args.k in
    let r = c.requires.0 in
    let i = c.args.p % 2 in
    let j = c.args.p / 2 in
    let x = back_is tt r.middle_x_lem in
    let y = back_is tt r.middle_y_lem in
    let first : back k.first ≡ k.first = search rules in
    let last : back k.last ≡ k.last = search rules in
    record {
      half_x_lem = twice r.half_x_lem c.half_of-qx.ensures;
      half_y_lem = twice r.half_y_lem c.half_of-qy.ensures;
      middle_x_lem = result_is c.shifted.type_inv (c.shifted.ensures ∙ ap (λ m. shifted i m (back c.half_of-qx.result)) x);
      middle_y_lem = result_is c.shifted-2.type_inv (c.shifted-2.ensures ∙ ap (λ m. shifted j m (back c.half_of-qy.result)) y);
      first = result_is c.since-2.type_inv (c.since-2.ensures ∙ ap₂ (since j) (result_is c.since.type_inv (c.since.ensures ∙ ap₂ (since i) first x)) y);
      last = result_is c.until-2.type_inv (c.until-2.ensures ∙ ap₂ (until j) (result_is c.until.type_inv (c.until.ensures ∙ ap₂ (until i) last x)) y);
    }
