-- The closed form of an edge's area in a cell: a sum over at most three pieces of the steps in the cell's rows, cut where the walk crosses the cell's left and
-- right side. An edge beyond the cell in its rows has such steps too: to the right of it x is held at the width.
--
-- Main results
--   side_ordered                the cuts are steps of the walk, in order
--   rows-closed                 from the first to the last y is between the cell's sides, or on them
--   area_closed                 the closed form, where some step is in the rows
--   area_no_rows                and 0 where none is
use Rattle.std.specs.Prelude.{◌≡◌, ◌⊎◌, ℕ, ℤ, pos, ◌+ℤ◌, ◌≤ℤ◌, ◌<ℤ◌}
use Rattle.std.proofs.Common.{sym, ◌∙◌, inl, inr}
use Rattle.integers.proofs.Theorems.Order.{≤ℤ_or_<ℤ, ≤ℤ_trans, ≤ℤ_of_<ℤ, ≤ℤ-mul-nonneg, add_one_≤ℤ}
use Rattle.edge.specs.declared.Cell.{Cell}
use Rattle.edge.specs.declared.Axis.{Axis}
use Rattle.edge.specs.declared.Samples.{Samples}
use Rattle.edge.specs.Walk.{past}
use Rattle.edge.specs.Integrals.{area_on}
use Rattle.edge.specs.Inside.{Between}
use Rattle.edge.specs.Cuts.{strip_of, to_middle, rows, side_cuts}
use Rattle.edge.proofs.Lemmas.Ends.{Steady, steady_within}
use Rattle.edge.proofs.Lemmas.Steps.{Outside, Rests, between_or_outside, outside_rests}
use Rattle.edge.proofs.Lemmas.Runs.{Ordered, cuts_ordered, three_pieces, upto_all, idle_zero}
use Rattle.edge.proofs.Lemmas.Crossings.{steps-beyond, meet_low, meet_high, rows-steps}
use Rattle.edge.proofs.Lemmas.OneDirection.{ClosedRun, between_run, besideˡ, besideʳ, past-closed, past_thrice}
use Rattle.edge.proofs.Laws.Zero.{idle_past}
use Rattle.edge.proofs.Laws.ClosedForm.{three_at}

module _ (a b : Axis) (sa : Steady a) (sb : Steady b) (c : Cell) (w≥0 : pos 0 ≤ℤ c.width) (n : ℕ) where
  abbrev w : ℤ
  w = c.width

  abbrev p : ℤ
  p = (rows b c (pos n)).first

  abbrev q : ℤ
  q = (rows b c (pos n)).last

  abbrev k : Samples
  k = side_cuts a b c (pos n)

  p≥0 : pos 0 ≤ℤ p
  p≥0 = meet_low (strip_of b c.top w (pos n)) (strip_of b c.top w (pos n)) (pos n)

  q≤n : q ≤ℤ pos n
  q≤n = meet_high (strip_of b c.top w (pos n)) (strip_of b c.top w (pos n)) (pos n)

  -- y rests before p and from q on
  rests : (t : ℤ) → pos 0 ≤ℤ t → (t +ℤ pos 1) ≤ℤ pos n → ((t +ℤ pos 1) ≤ℤ p) ⊎ (q ≤ℤ t) → Rests b c.top w t
  rests t h j o = go (between_or_outside b c.top w t (steady_within sb))
    where
      go : Between b c.top w t ⊎ Outside b c.top w t → Rests b c.top w t
      go (inl i) = absurd (steps-beyond (rows-steps b sb c (pos n)) t h j o i)
      go (inr i) = outside_rests b c.top w t (≤ℤ-mul-nonneg sb.scaled w≥0) i

  pub area_no_rows : q ≤ℤ p → area_on a b c n ≡ pos 0
  area_no_rows h =
      idle_zero (past a c.left w) (past b c.top w) n (record { none = λ t i j. idle_past (past a c.left w) (rests t i j (side t (≤ℤ_or_<ℤ q t))) })
    where
      side : (t : ℤ) → (q ≤ℤ t) ⊎ (t <ℤ q) → ((t +ℤ pos 1) ≤ℤ p) ⊎ (q ≤ℤ t)
      side t (inl i) = inr i
      side t (inr i) = inl (≤ℤ_trans (add_one_≤ℤ i) h)

  module _ (some : p <ℤ q) where
    p≤q : p ≤ℤ q
    p≤q = ≤ℤ_of_<ℤ some

    pub rows-closed : ClosedRun b c.top w k.first k.fourth
    rows-closed = between_run b sb c.top w some (λ t h j. (rows-steps b sb c (pos n)).from t (≤ℤ_trans p≥0 h) (≤ℤ_trans j q≤n) h j)

    pub side_ordered : Ordered k.first k.second k.third k.fourth (pos n)
    side_ordered = cuts_ordered (to_middle a c.left (pos 0)) (to_middle a c.left w) p≥0 p≤q q≤n

    pub area_closed : area_on a b c n ≡ three_at (past a c.left w) (past b c.top w) k
    area_closed =
        sym (upto_all (past a c.left w) (past b c.top w) n)
        ∙ three_pieces (past a c.left w) (past b c.top w) side_ordered
        (record { none = λ t h j. idle_past (past a c.left w) (rests t h (≤ℤ_trans j (≤ℤ_trans p≤q q≤n)) (inl j)) })
        (past_thrice a sa c.left w (≤ℤ-mul-nonneg sa.scaled w≥0)
        (besideˡ (to_middle a c.left (pos 0)) (to_middle a c.left w) p≤q) (besideʳ (to_middle a c.left (pos 0)) (to_middle a c.left w) p≤q))
        (past-closed rows-closed side_ordered)
        (record { none = λ t h j. idle_past (past a c.left w) (rests t (≤ℤ_trans (≤ℤ_trans p≥0 p≤q) h) j (inr h)) })
