-- The sum of the counts, one count after the other, and no further than one more than the most edges.
--
-- Main results
--   count_next, count_end            what is left of the sum at i
--   capped_within, capped_over       `capped_edges` is the sum where that is at most the most edges, and else one more than the most
--   capped_le, capped_most           so it is no more than the sum, and no more than one past the most,
--   edges_within                     and where it is at most the most edges the sum is too
use Rattle.std.specs.Prelude.{◌≡◌, cond, List, ℕ, suc, ◌+◌, ◌<◌, ◌≤◌, length, drop}
use Rattle.std.proofs.Common.{sym, ◌∙◌, add-one, arith, drop_of_length-le, drop-cons, le-leb}
use Rattle.std.proofs.Math.Path.{ap}
use Rattle.std.proofs.Math.Decide.{dec_lt}
use Rattle.std.proofs.Math.ListN.{get_or}
use Rattle.std.proofs.lemmas.Bool.{lt-leb}
use Rattle.integers.specs.Units.{most_edges}
use Rattle.integers.specs.ListSum.{tally}
use Rattle.accuracy.specs.Outline.{edge_count}
use Rattle.tile.specs.Inner.{capped_edges}

module _ (counts : List ℕ) (i : ℕ) where
  pub count_next : i < length counts → edge_count (drop i counts) ≡ get_or counts i 0 + edge_count (drop (i + 1) counts)
  unfolding tally
  count_next h = ap edge_count (drop-cons counts i 0 h) ∙ ap (λ k. get_or counts i 0 + edge_count (drop k counts)) (sym (add-one i))

  pub count_end : length counts ≤ i → edge_count (drop i counts) ≡ 0
  unfolding tally
  count_end h = ap edge_count (drop_of_length-le counts h)

module _ (counts : List ℕ) where
  pub capped_within : edge_count counts ≤ most_edges → capped_edges counts ≡ edge_count counts
  capped_within h = ap (λ b. cond b (edge_count counts) (suc most_edges)) (le-leb (edge_count counts) most_edges h)

  pub capped_over : most_edges < edge_count counts → capped_edges counts ≡ suc most_edges
  capped_over h = ap (λ b. cond b (edge_count counts) (suc most_edges)) (lt-leb (edge_count counts) most_edges h)

  capped_both : (capped_edges counts ≤ edge_count counts) × (capped_edges counts ≤ suc most_edges)
  capped_both =
      elim (dec_lt most_edges (edge_count counts)) [
        | yes p ↦ (let e = capped_over p in (omega arith, omega arith))
        | no p ↦ (let e = capped_within (omega arith) in (omega arith, omega arith))
      ]

  pub capped_le : capped_edges counts ≤ edge_count counts
  capped_le = capped_both.0

  pub capped_most : capped_edges counts ≤ suc most_edges
  capped_most = capped_both.1

  pub edges_within : capped_edges counts ≤ most_edges → edge_count counts ≤ most_edges
  edges_within h = elim (dec_lt most_edges (edge_count counts)) [ yes p ↦ (let e = capped_over p in absurd (omega arith)) | no p ↦ omega arith ]
