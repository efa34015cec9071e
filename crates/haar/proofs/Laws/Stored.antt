-- A list of entries is known by its coefficients.
--
-- Main results
--   stored_unique                two lists, each as long as a table of the depth, with the same root and details are the same
use Rattle.std.specs.Prelude.{◌≡◌, List, ℕ, zero, suc, ◌^◌, ◌<◌, length, get_or, ℤ, pos}
use Rattle.std.proofs.Common.{sym, ◌∙◌, ap, arith, ext_get_or}
use Rattle.haar.specs.Cells.{children}
use Rattle.haar.specs.Table.{stored, SameBelow}
use Rattle.haar.proofs.Laws.Layout.{index-onto}

pub stored_unique : (n depth : ℕ) (k l : List ℤ) → length k ≡ children n ^ depth → length l ≡ children n ^ depth
    → SameBelow n depth (stored n k) (stored n l) → k ≡ l
stored_unique n depth k l e f s = ext_get_or (pos 0) k l (e ∙ sym f) entry
  where
    entry : (i : ℕ) → i < length k → get_or k i (pos 0) ≡ get_or l i (pos 0)
    entry zero h = s.same_root
    entry (suc i) h =
        let d = index-onto n depth (suc i) (omega arith) (omega arith) in
        let g = d.is_detail in
        ap (λ p. get_or k p (pos 0)) d.at ∙ s.same_detail d.level d.below d.cell g.inside d.number g.first g.last
        ∙ sym (ap (λ p. get_or l p (pos 0)) d.at)
