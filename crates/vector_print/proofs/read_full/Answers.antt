-- What was read before, and what a turn read after it.
use Rattle.std.proofs.Common.{rules, ◌≤◌, length, take, ◌≡◌, sym, ◌∙◌, ap, ℕ, ◌+◌, List, ◌++◌, arith, length-take-le}
use Rattle.std.proofs.Math.Path.{subst}
use Rattle.std.proofs.Math.Seq.{take-append-add}
use Rattle.std.proofs.lemmas.List.{take-append-le}
use Rattle.std.specs.Io.KnownBytes.{Consumes}
use Rattle.std.proofs.KnownBytes.{Consumes-trans}
use Rattle.vector_print.proofs.read_full.Goals as goal

more : (m done n : ℕ) (list front back : List ℕ) → m ≡ done + n → done ≤ length list → n ≤ length front
    → take m (take done list ++ (front ++ back)) ≡ take done list ++ take n front
more m done n list front back e h k =
    ap (λ d. take d (take done list ++ (front ++ back))) (e ∙ ap (λ d. d + n) (sym (length-take-le done list h)))
    ∙ take-append-add (take done list) (front ++ back) n
    ∙ ap (λ l. take done list ++ l) (take-append-le n front back k)

pub loop-done-preserved : goal.loop-done-preserved
loop-done-preserved g c = record {
  inside = search rules;
  consumed =
      subst (Consumes _ _) (sym (more _ c.loop-done.done c.in-Ok.n c.loop-done.list c.read.new.buf _ (omega arith) c.loop-done.invariant.inside c.in-Ok.ensures.bound.0))
      (Consumes-trans _ _ _ _ _ c.loop-done.invariant.consumed c.in-Ok.ensures.bytes.0);
}
