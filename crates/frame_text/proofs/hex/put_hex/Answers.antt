-- A digit is written at the end of the others' place.
use Rattle.std.proofs.Common.{◌≡◌, ℕ, suc, ◌-◌, ◌/◌, ◌%◌, ◌<◌, List, [], ◌∷◌, ◌++◌, length, drop, set, sym, ap, ◌∙◌, ap₂, append_assoc, arith, length-set, drop-cons, get_or-set_same, drop-set-lt, lt-length-set}
use Rattle.frame_text.specs.Digits.{digit_char, hex}
use Rattle.frame_text.specs.Over.{over}
use Rattle.frame_text.proofs.Laws.Digits.{hex-length}
use Rattle.frame_text.proofs.hex.put_hex.Goals as goal

-- a digit is written: the others go before it
digit-over : (n v : ℕ) (out : List ℕ) → n < length out → over (hex n (v / 16)) (set out n (digit_char (v % 16))) ≡ over (hex (suc n) v) out
unfolding hex
digit-over n v out h =
    let digits = hex n (v / 16) in
    let d = digit_char (v % 16) in
    let after : drop n (set out n d) ≡ d ∷ drop (suc n) out =
    drop-cons (set out n d) n 0 (lt-length-set out n d h) ∙ ap₂ ◌∷◌ (get_or-set_same out n d 0 h) (drop-set-lt (suc n) out n d (omega arith)) in
    ap (λ k. digits ++ drop k (set out n d)) (hex-length n (v / 16)) ∙ ap (λ l. digits ++ l) after
    ∙ sym (ap (λ k. (digits ++ (d ∷ [])) ++ drop k out) (hex-length (suc n) v) ∙ append_assoc digits (d ∷ []) (drop (suc n) out))

pub loop-n-preserved : goal.loop-n-preserved
loop-n-preserved c =
    let l = c.loop-n in
    let n = l.n - 1 in
    let is : suc n ≡ l.n = omega arith in (
      omega arith,
      length-set l.out n _ ∙ l.invariant.1,
      ap (λ d. over (hex n (l.left / 16)) (set l.out n d)) c.digit_char.ensures
          ∙ digit-over n l.left l.out (omega arith)
          ∙ ap (λ k. over (hex k l.left) l.out) is
          ∙ l.invariant.2,
    )

pub returns : goal.returns
unfolding hex
returns c =
    let l = c.loop-n in
    let e : l.n ≡ 0 = omega arith in
    sym (ap (λ k. over (hex k l.left) l.out) e) ∙ l.invariant.2
