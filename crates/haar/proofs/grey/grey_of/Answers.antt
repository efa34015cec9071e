-- The full figure is a power of two, at most 2^29, so the shift to the left loses nothing and the sum fits.
use Rattle.std.proofs.Common.{◌≡◌, sym, ◌∙◌, subst₂, ◌*◌, ◌%◌, ◌^◌, arith, to_z-of_z}
use Rattle.std.proofs.lemmas.Nat.{pow_pos}
use Rattle.haar.specs.Greys.{SameGrey}
use Rattle.haar.proofs.grey.Numbers.{bits, full_shift, full_most, grey_quotient}
use Rattle.haar.proofs.grey.grey_of.Goals as goal

pub returns : goal.returns
returns c =
    let depth = c.args.depth in
    let small = full_most c.requires in
    let inked =
    subst₂ (λ z n. SameGrey z n c.held-ink.result) (to_z-of_z c.ranges.figure) (let e : 1 * 2 ^ bits depth % 2 ^ 64 ≡ 2 ^ bits depth = omega (arith, small) in e) c.held-ink.ensures in
    let e = full_shift depth in
    grey_quotient _ _ e (pow_pos depth) inked.few (omega arith) ∙ inked.same _ (pow_pos depth) (sym e)
