-- How large an edge's integrals in a cell are: at most the cell's width times how far the edge runs, and at most the cell's own area.
--
-- Main results, each for a cell whose width w is not negative. All but the rounded ones are of numerators, N times over.
--   h_bound, d_bound, v_bound, area_bound                       |h|, |d| ≤ |dy| w, |v| ≤ |dx| w, |area| ≤ 2 |dy| w
--   rounded_h_bound, rounded_d_bound, rounded_v_bound           the same of the rounded details
--   h_numerator_bound, d_numerator_bound,
--   v_numerator_bound, area_numerator_bound                     |h|, |d|, |v| ≤ w², |area| ≤ 2 w²; N w² written as (|dy| w) × (|dx| w)
--   NumeratorsFit, numerators_fit                               no numerator passes its limit
use Rattle.std.specs.Prelude.{◌≡◌, refl, [], ◌∷◌, ℕ, ℤ, pos, ◌*ℤ◌, ◌≤ℤ◌}
use Rattle.std.proofs.Common.{sym, ◌∙◌, ap}
use Rattle.integers.specs.Units.{width_times_extent_limit, numerator_limit}
use Rattle.integers.proofs.Theorems.Ring.{read, ring, comb, ◌⊗◌}
use Rattle.integers.proofs.Theorems.Order.{nonneg, ≤ℤ-mul, ≤ℤ-mul-nonneg}
use Rattle.integers.proofs.Theorems.Linear.{le, ◌&◌, linear, lin≤}
use Rattle.integers.specs.Magnitude.{abs}
use Rattle.integers.proofs.Theorems.Magnitude.{abs-mul}
use Rattle.integers.specs.Within.{Within}
use Rattle.integers.proofs.Theorems.Within.{within_is, within_le, within_neg}
use Rattle.integers.proofs.Theorems.RoundHalfAway.{round_half_away_within}
use Rattle.edge.specs.declared.Edge.{Edge}
use Rattle.edge.specs.declared.Cell.{Cell}
use Rattle.edge.specs.Walk.{extent, sign, dx, dy, ax, ay, steps, x_axis, y_axis}
use Rattle.edge.proofs.Laws.StepCount.{steps_pos}
use Rattle.edge.proofs.Lemmas.Ends.{sign-extent, direction}
use Rattle.edge.specs.Integrals.{area_num, h_num, v_num, d_num}
use Rattle.edge.specs.Rounded.{details}
use Rattle.edge.proofs.Lemmas.SumBounds.{SumBounds, past-past, near-past, near-near}

abs-extent : (d : ℤ) → abs (sign d) *ℤ pos (extent d) ≡ abs d
unfolding abs
abs-extent d = sym (abs-mul (sign d) (pos (extent d))) ∙ ap abs (sign-extent d)

-- What is summed is scaled by the extent of the direction that moves, and each step moves by its sign: together they are |d|.
length-extent : (d w : ℤ) (n : ℕ) → pos (extent d) *ℤ w *ℤ (abs (sign d) *ℤ pos n) ≡ abs d *ℤ w *ℤ pos n
length-extent d w n = comb (pos (extent d) ∷ abs (sign d) ∷ abs d ∷ w ∷ pos n ∷ []) ((w *ℤ pos n) ⊗ abs-extent d) (search read depth 40) tt

-- the four numerators of an edge in a cell are within their limit
pub record NumeratorsFit (e : Edge) (c : Cell) : Type 0 where
  pub area : Within (pos numerator_limit) (area_num e c)
  pub h : Within (pos numerator_limit) (h_num e c)
  pub v : Within (pos numerator_limit) (v_num e c)
  pub d : Within (pos numerator_limit) (d_num e c)

module _ (e : Edge) (c : Cell) (w≥0 : pos 0 ≤ℤ c.width) where
  -- ---- which sum each is
  area_sum : SumBounds (y_axis e) c.width (pos 2 *ℤ (pos (ay e) *ℤ c.width)) (steps e) (area_num e c)
  unfolding area_num
  area_sum = past-past (x_axis e) (y_axis e) c.left c.top (nonneg (ay e)) (nonneg (ax e)) w≥0 (direction (dy e)) (steps e)

  h_sum : SumBounds (y_axis e) c.width (pos (ay e) *ℤ c.width) (steps e) (h_num e c)
  unfolding h_num
  h_sum = near-past (x_axis e) (y_axis e) c.left c.top (nonneg (ay e)) (nonneg (ax e)) w≥0 (direction (dy e)) (steps e)

  d_sum : SumBounds (y_axis e) c.width (pos (ay e) *ℤ c.width) (steps e) (d_num e c)
  unfolding d_num
  d_sum = near-near (x_axis e) (y_axis e) c.left c.top (nonneg (ay e)) (nonneg (ax e)) w≥0 (direction (dy e)) (steps e)

  v_sum : SumBounds (x_axis e) c.width (pos (ax e) *ℤ c.width) (steps e) (v_num e c)
  unfolding v_num
  v_sum =
      let s = near-past (y_axis e) (x_axis e) c.top c.left (nonneg (ax e)) (nonneg (ay e)) w≥0 (direction (dx e)) (steps e) in
      record { by_length = within_neg s.by_length; by_width = within_neg s.by_width }

  -- ---- by how far the edge runs
  pub h_bound : Within (abs (dy e) *ℤ c.width *ℤ pos (steps e)) (h_num e c)
  h_bound = within_is (length-extent (dy e) c.width (steps e)) refl h_sum.by_length

  pub d_bound : Within (abs (dy e) *ℤ c.width *ℤ pos (steps e)) (d_num e c)
  d_bound = within_is (length-extent (dy e) c.width (steps e)) refl d_sum.by_length

  pub v_bound : Within (abs (dx e) *ℤ c.width *ℤ pos (steps e)) (v_num e c)
  v_bound = within_is (length-extent (dx e) c.width (steps e)) refl v_sum.by_length

  pub area_bound : Within (pos 2 *ℤ abs (dy e) *ℤ c.width *ℤ pos (steps e)) (area_num e c)
  area_bound = within_is twice refl area_sum.by_length
    where
      twice : pos 2 *ℤ (pos (ay e) *ℤ c.width) *ℤ (abs (sign (dy e)) *ℤ pos (steps e)) ≡ pos 2 *ℤ abs (dy e) *ℤ c.width *ℤ pos (steps e)
      twice =
          comb (pos (ax e) ∷ pos (ay e) ∷ abs (sign (dy e)) ∷ abs (dy e) ∷ c.width ∷ [])
          (pos 2 ⊗ length-extent (dy e) c.width (steps e)) (search read depth 40) tt

  -- ---- rounded, which divides by N
  pub rounded_h_bound : Within (abs (dy e) *ℤ c.width) (details e c).h
  unfolding details
  rounded_h_bound = round_half_away_within (steps_pos e) h_bound

  pub rounded_d_bound : Within (abs (dy e) *ℤ c.width) (details e c).d
  unfolding details
  rounded_d_bound = round_half_away_within (steps_pos e) d_bound

  pub rounded_v_bound : Within (abs (dx e) *ℤ c.width) (details e c).v
  unfolding details
  rounded_v_bound = round_half_away_within (steps_pos e) v_bound

  -- ---- by the cell's width
  pub h_numerator_bound : Within (pos (ay e) *ℤ c.width *ℤ (pos (ax e) *ℤ c.width)) (h_num e c)
  h_numerator_bound = h_sum.by_width

  pub d_numerator_bound : Within (pos (ay e) *ℤ c.width *ℤ (pos (ax e) *ℤ c.width)) (d_num e c)
  d_numerator_bound = d_sum.by_width

  pub v_numerator_bound : Within (pos (ay e) *ℤ c.width *ℤ (pos (ax e) *ℤ c.width)) (v_num e c)
  v_numerator_bound = within_is (ring (pos (ax e) ∷ pos (ay e) ∷ c.width ∷ []) (search read depth 40) tt) refl v_sum.by_width

  pub area_numerator_bound : Within (pos 2 *ℤ (pos (ay e) *ℤ c.width *ℤ (pos (ax e) *ℤ c.width))) (area_num e c)
  area_numerator_bound = within_is (ring (pos (ax e) ∷ pos (ay e) ∷ c.width ∷ []) (search read depth 40) tt) refl area_sum.by_width

  pub numerators_fit : (pos (ax e) *ℤ c.width) ≤ℤ pos width_times_extent_limit → (pos (ay e) *ℤ c.width) ≤ℤ pos width_times_extent_limit → NumeratorsFit e c
  numerators_fit h k = record {
    area = within_le all area_numerator_bound;
    h = within_le once h_numerator_bound;
    v = within_le once v_numerator_bound;
    d = within_le once d_numerator_bound;
  }
    where
      x≥0 : pos 0 ≤ℤ (pos (ay e) *ℤ c.width)
      x≥0 = ≤ℤ-mul-nonneg (nonneg (ay e)) w≥0

      y≥0 : pos 0 ≤ℤ (pos (ax e) *ℤ c.width)
      y≥0 = ≤ℤ-mul-nonneg (nonneg (ax e)) w≥0

      all : (pos 2 *ℤ (pos (ay e) *ℤ c.width *ℤ (pos (ax e) *ℤ c.width))) ≤ℤ pos numerator_limit
      all = lin≤ (pos (ax e) ∷ pos (ay e) ∷ c.width ∷ []) (le (≤ℤ-mul k y≥0) & le h) (search linear depth 40) tt

      once : (pos (ay e) *ℤ c.width *ℤ (pos (ax e) *ℤ c.width)) ≤ℤ pos numerator_limit
      once = lin≤ (pos (ax e) ∷ pos (ay e) ∷ c.width ∷ []) (le all & le (≤ℤ-mul-nonneg x≥0 y≥0)) (search linear depth 40) tt
