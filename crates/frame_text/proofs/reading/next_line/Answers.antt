-- What `position` answers is how long the first line is.
use Rattle.std.proofs.Common.{◌≡◌, ℕ, suc, ◌+◌, ◌<◌, ◌≤◌, Option, Some, None, Bool, true, false, cond, ltb, ◌==◌, List, length, take, drop, refl, sym, ◌∙◌, ap, arith, rules, ltb-true, ltb-false}
use borrow.Author.Tests.{tests}
use Rattle.std.proofs.lemmas.Iterator.{YieldsList-from_slice}
use Rattle.std.proofs.lemmas.Iterator.Search.{position_from_yields_List}
use Rattle.std.proofs.lemmas.List.Recursion.{is_position_or_len}
use Rattle.std.specs.List.{position_or_len}
use Rattle.frame_text.specs.Lines.{newline}
use Rattle.frame_text.specs.Inner.{line_length}
use Rattle.frame_text.proofs.Laws.Lines.{line_length-le}
use Rattle.frame_text.proofs.Laws.Parts.{part_is}
use Rattle.frame_text.proofs.reading.next_line.Goals as goal

length_is : (t : List ℕ) → line_length t ≡ position_or_len (λ b. b == newline) t
unfolding line_length
length_is = is_position_or_len line_length (λ b. b == newline) refl (λ x xs. ap (λ n. cond (x == newline) 0 n) (omega arith))

found : (t : List ℕ) (r : Option ℕ) → r ≡ cond (ltb (position_or_len (λ b. b == newline) t) (length t)) (Some (position_or_len (λ b. b == newline) t)) None
    → r ≡ cond (ltb (line_length t) (length t)) (Some (line_length t)) None
found t r e = e ∙ ap (λ n. cond (ltb n (length t)) (Some n) None) (sym (length_is t))

nowhere : (n m : ℕ) → None ≡ cond (ltb n m) (Some n) None → m ≤ n
nowhere n m = go (ltb n m) refl
  where
    go : (b : Bool) → ltb n m ≡ b → None ≡ cond b (Some n) None → m ≤ n
    go true e q = absurd (cc)
    go false e q = ltb-false n m e

there : (n m i : ℕ) → Some i ≡ cond (ltb n m) (Some n) None → (i ≡ n) × (n < m)
there n m i = go (ltb n m) refl
  where
    go : (b : Bool) → ltb n m ≡ b → Some i ≡ cond b (Some n) None → (i ≡ n) × (n < m)
    go true e q = (cc, ltb-true n m e)
    go false e q = absurd (cc)

pub returns-in_err-n : goal.returns-in_err-n
returns-in_err-n c =
    let t = c.args.text.now in
    let e = found t _ (position_from_yields_List _ _ _ c.position.result c.position.ensures.ran (YieldsList-from_slice t (cc)) (λ x b q k. search (rules, tests))) in
    let k = nowhere (line_length t) (length t) (sym c.in_err-n.was ∙ e) in
    let q : line_length t ≡ length t = omega (arith, k, line_length-le t) in
    rw c.from_residual.ensures q

pub returns : goal.returns
returns c =
    let t = c.args.text.now in
    let n = c.in_ok-n.n in
    let e = found t _ (position_from_yields_List _ _ _ c.position.result c.position.ensures.ran (YieldsList-from_slice t (cc)) (λ x b q k. search (rules, tests))) in
    let k = there (line_length t) (length t) n (sym c.in_ok-n.was ∙ e) in
    let s : n + 1 ≡ suc (line_length t) = omega (arith, k.0) in
    record { closed = k.1; line_is = ap (λ i. take i t) k.0; after_is = part_is (n + 1) t ∙ ap (λ i. drop i t) s }
