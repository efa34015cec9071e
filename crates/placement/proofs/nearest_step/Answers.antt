-- v × 65,536 is exact and whole, so it is cut to the number of its parts; half a step is added, and the sum shifted.
use Rattle.std.proofs.Common.{◌≡◌, ◌*◌, ◌≤◌, true, [], ◌∷◌, pos, ◌∙◌, le_trans, lit≤}
use Rattle.std.proofs.Math.Path.{subst⁻¹}
use Rattle.std.specs.Prelude.{Float, unsigned_abs}
use Rattle.integers.proofs.Theorems.Ring.{read, comb}
use Rattle.integers.proofs.Theorems.Machine.{machine, linfits}
use Rattle.integers.specs.Within.{Within}
use Rattle.integers.proofs.Theorems.Within.{bounds, within_of_nat_abs}
use Rattle.integers.specs.Bits.{back}
use Rattle.integers.proofs.Theorems.Bits.{result_is}
use Rattle.integers.specs.Units.{parts_per_step, placed_limit}
use Rattle.placement.specs.Parts.{Value, parts_of, is_multiple, InParts, cast_limit}
use Rattle.placement.proofs.Laws.PartsOf.{multiple_value, multiple_inside, multiple_bound}
use Rattle.placement.proofs.Laws.Comparisons.{inside-above, inside-below}
use Rattle.placement.proofs.Laws.WholeFloats.{whole_inside, cut_whole}
use Rattle.placement.proofs.Laws.InParts.{whole_parts}
use Rattle.placement.proofs.Laws.NearestStep.{shifted}
use Rattle.placement.proofs.nearest_step.Goals as goal

module _ (v : Float) (h : is_multiple placed_limit v ≡ true) where
  small : unsigned_abs (parts_of v) ≤ cast_limit
  small = le_trans (multiple_bound placed_limit v h) (lit≤ tt)

  whole : (w : Float) → InParts v w → Value w (parts_of v) 1
  whole w p = whole_parts w (parts_of v) (p.exact (parts_of v) parts_per_step (multiple_value placed_limit v h))

pub in_parts-requires : goal.in_parts-requires
in_parts-requires c = multiple_inside placed_limit c.args.v c.requires

pub truncating_f64_to_i64-parts-requires : goal.truncating_f64_to_i64-parts-requires
truncating_f64_to_i64-parts-requires c =
    let w = c.in_parts.result in
    let i = whole_inside cast_limit w (parts_of c.args.v) (whole c.args.v c.requires w c.in_parts.ensures.in_parts) (small c.args.v c.requires) in
    record { lower_bound = inside-above w i; upper_bound = inside-below w i }

cut-is : (c : goal.After-truncating_f64_to_i64-parts) → back c.truncating_f64_to_i64-parts.result ≡ parts_of c.args.v
cut-is c =
    let w = c.in_parts.result in
    result_is c.truncating_f64_to_i64-parts.type_inv
    (c.truncating_f64_to_i64-parts.ensures ∙ cut_whole w (parts_of c.args.v) (whole c.args.v c.requires w c.in_parts.ensures.in_parts) (small c.args.v c.requires))

pub overflow_add-result : goal.overflow_add-result
overflow_add-result c =
    let cut = back c.truncating_f64_to_i64-parts.result in
    let near : Within (pos (placed_limit * parts_per_step)) cut =
    subst⁻¹ (Within (pos (placed_limit * parts_per_step))) (cut-is c) (within_of_nat_abs (multiple_bound placed_limit c.args.v c.requires)) in
    linfits (cut ∷ []) (bounds near) (search machine depth 40) (tt, tt)

pub returns : goal.returns
returns c =
    let cut = back c.truncating_f64_to_i64-parts.result in
    let parts = parts_of c.args.v in
    shifted parts (overflow_add-result c) (comb (cut ∷ parts ∷ []) (cut-is c) (search read depth 40) tt)
