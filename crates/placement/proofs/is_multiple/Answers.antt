-- Both comparisons, the product, its whole part, and that as a float again.
use Rattle.std.proofs.Common.{◌≡◌, ℕ, ◌≤◌, ◌<◌, ◌^◌, true, false, T, ℤ, pos, ap, ◌∙◌, subst, le_trans, lit≤}
use Rattle.std.proofs.Math.Path.{subst⁻¹}
use Rattle.std.specs.Prelude.{Float}
use Rattle.std.specs.Int.Signed.{mag}
use Rattle.std.specs.Float.{binary64}
use Rattle.std.specs.Float.Ieee.{in_float, of_int, to_signed, eq, le, neg}
use Rattle.std.specs.Float.Ieee.Back.{round_whole}
use Rattle.std.specs.Float.Ieee.Exact.{HasValue}
use Rattle.integers.specs.Bits.{back}
use Rattle.integers.proofs.Theorems.Bits.{result_is}
use Rattle.integers.specs.Units.{offset_limit}
use Rattle.placement.specs.Parts.{parts_of, Inside, InParts}
use Rattle.placement.proofs.Laws.PartsOf.{not-inside}
use Rattle.placement.proofs.Laws.Comparisons.{inside_wider, inside_of, inside_low, inside_high}
use Rattle.placement.proofs.Laws.WholeFloats.{whole_fits}
use Rattle.placement.proofs.Laws.TestedFloats.{Tested, tested}
use Rattle.placement.proofs.is_multiple.Goals as goal
use Rattle.placement.proofs.is_multiple.Goals.{else-bound-x-via-then-bound-x+else-x-bound, else-bound-x-via-else-bound-x}

module _ (limit : ℕ) (x : Float) (h : limit ≤ offset_limit) where
  abbrev bound : Float
  bound = of_int binary64 (pos limit)

  bound-is : HasValue bound false limit 1
  unfolding of_int
  bound-is = round_whole binary64 false limit (le_trans h (lit≤ tt))

  -- an x that passed both comparisons,
  inside : le (neg bound) x ≡ true → le x bound ≡ true → Inside limit x
  inside = inside_of limit x bound bound-is

  -- and what is known of it in parts
  known : le (neg bound) x ≡ true → le x bound ≡ true → {w : Float} → InParts x w → Tested limit x w
  known a b {w} p = tested h x w (inside a b) p

cut_at : {limit : ℕ} {x w : Float} {z : ℤ} → Tested limit x w → mag z < 2 ^ 63 → z ≡ to_signed 63 w → back z ≡ parts_of x
cut_at t k e = result_is k (e ∙ t.cut_is)

pub in_parts-parts-requires : goal.in_parts-parts-requires
in_parts-parts-requires c = inside_wider (le_trans c.requires (lit≤ tt)) c.args.x (inside c.args.limit c.args.x c.requires c.if-bound-x.true c.if-x-bound.true)

pub truncating_f64_to_i64-whole-requires : goal.truncating_f64_to_i64-whole-requires
truncating_f64_to_i64-whole-requires c =
    let cut = known c.args.limit c.args.x c.requires c.if-bound-x.true c.if-x-bound.true c.in_parts-parts.ensures.in_parts in
    record { lower_bound = cut.low; upper_bound = cut.high }

pub int_to_float-result : goal.int_to_float-result
int_to_float-result c =
    let float = known c.args.limit c.args.x c.requires c.if-bound-x.true c.if-x-bound.true c.in_parts-parts.ensures.in_parts in
    let whole = c.truncating_f64_to_i64-whole in
    subst⁻¹ (λ (z : ℤ). T (in_float binary64 z)) (cut_at float whole.type_inv whole.ensures) (whole_fits _ float.small)

pub returns-then-x-bound : goal.returns-then-x-bound
returns-then-x-bound c =
    let t = known c.args.limit c.args.x c.requires c.if-bound-x.true c.if-x-bound.true c.in_parts-parts.ensures.in_parts in
    let whole = c.truncating_f64_to_i64-whole in
    ap (λ (z : ℤ). eq c.in_parts-parts.result (of_int binary64 z)) (cut_at t whole.type_inv whole.ensures) ∙ t.back

pub returns : goal.returns
returns c =
    let p = c.args in
    let low = inside_low p.limit p.x _ (bound-is p.limit p.x c.requires) in
    let high = inside_high p.limit p.x _ (bound-is p.limit p.x c.requires) in
    elim c.else-bound-x.branch [
      | else-bound-x-via-then-bound-x+else-x-bound w ↦ not-inside p.limit p.x (λ i. subst T w.if-x-bound.false (high i))
      | else-bound-x-via-else-bound-x w ↦ not-inside p.limit p.x (λ i. subst T w.if-bound-x.false (low i))
    ]
