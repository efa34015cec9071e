-- There are at most four digits, so that what they stand for fits.
use Rattle.std.proofs.Common.{◌≡◌, ℕ, ◌+◌, ◌*◌, ◌^◌, ◌≤◌, get_or, drop, sym, ap, ◌∙◌, ap₂, add-one, arith, drop_of_length-le, drop-cons, unwrap_or}
use Rattle.std.proofs.Math.Nat.{pow-succ', pow-le-pow_right}
use Rattle.frame_text.specs.Digits.{digit_value, value_from}
use Rattle.frame_text.proofs.Laws.Digits.{digit_value_le, counted_value}
use Rattle.frame_text.proofs.hex.value_of.Goals as goal

few : (i : ℕ) → i ≤ 4 → 17 ^ i ≤ 17 ^ 4
few i h = pow-le-pow_right {n = 17} (omega arith) h

-- what the next byte counts for
counted : (c : goal.After-unwrap_or) → c.unwrap_or.result ≡ digit_value (get_or c.args.digits.now c.loop-b.b-index 0)
counted c = c.unwrap_or.ensures ∙ ap (λ o. unwrap_or o 16) c.digit_value.ensures ∙ counted_value (get_or c.args.digits.now c.loop-b.b-index 0)

pub overflow_mul-v : goal.overflow_mul-v
overflow_mul-v c = record { fits = omega (arith, few c.loop-b.b-index (omega arith)) }

pub overflow_add-v : goal.overflow_add-v
overflow_add-v c =
    record { fits = omega (arith, few c.loop-b.b-index (omega arith), counted c, digit_value_le (get_or c.args.digits.now c.loop-b.b-index 0)) }

pub loop-b-preserved : goal.loop-b-preserved
unfolding value_from
loop-b-preserved c =
    let l = c.loop-b in
    let i = l.b-index in
    let digits = c.args.digits.now in
    let p : 17 ^ (i + 1) ≡ 17 * 17 ^ i = ap (λ k. 17 ^ k) (add-one i) ∙ pow-succ' 17 i in (
      omega (arith, counted c, digit_value_le (get_or digits i 0), p),
      l.invariant.1 ∙ ap (value_from l.v) (drop-cons digits i 0 c.loop-b-test.true)
          ∙ ap₂ (λ d k. value_from (16 * l.v + d) (drop k digits)) (sym (counted c)) (sym (add-one i)),
    )

pub returns : goal.returns
unfolding value_from
returns c = sym (c.loop-b.invariant.1 ∙ ap (value_from c.loop-b.v) (drop_of_length-le _ c.loop-b-test.false))
