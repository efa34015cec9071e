-- The closed form: where some step of a walk lies strictly inside a cell, h, v and d are sums over at most three pieces, cut where the walk crosses the
-- cell's middle in one direction and in the other. (Where none does, they are 0: the zero law.)
--
-- Main results
--   three_at, edge_cuts                                       three pieces at the cuts; the cuts of an edge's walk
--   ordered                                                   the cuts are steps of the walk, in order
--   x_closed, y_closed                                        from the first to the last the walk is in the closed cell
--   near-past-closed, past-near-closed, near-near-closed      the closed form of a walk
--   cuts_of_inside, h_closed, v_closed, d_closed              and of an edge that comes strictly inside
use Rattle.std.specs.Prelude.{◌≡◌, [], ◌∷◌, ◌⊎◌, ℕ, ℤ, pos, ◌+ℤ◌, ◌≤ℤ◌, ◌<ℤ◌}
use Rattle.std.proofs.Common.{sym, ◌∙◌, inl, inr}
use Rattle.std.proofs.Math.Path.{ap}
use Rattle.std.proofs.Math.IntN.{neg_ℤ}
use Rattle.integers.proofs.Theorems.Order.{≤ℤ_trans, ≤ℤ_of_<ℤ, ≤ℤ-mul-nonneg}
use Rattle.integers.proofs.Theorems.Linear.{le, eq, ◌&◌, linear, lin≤}
use Rattle.edge.specs.declared.Edge.{Edge}
use Rattle.edge.specs.declared.Cell.{Cell}
use Rattle.edge.specs.declared.Axis.{Axis}
use Rattle.edge.specs.declared.Samples.{Samples}
use Rattle.edge.specs.Walk.{steps, x_axis, y_axis, past, near}
use Rattle.edge.specs.Integrals.{along, h_on, d_on, h_num, v_num, d_num}
use Rattle.edge.specs.Inside.{Between, Inside}
use Rattle.edge.proofs.Lemmas.Ends.{Steady, steady_within, x_steady, y_steady}
use Rattle.edge.proofs.Lemmas.Steps.{exchanged, Outside, Rests, between_or_outside, outside_rests}
use Rattle.edge.proofs.Lemmas.Runs.{three, Ordered, cuts_ordered, LinearThrice, three_pieces, upto_all}
use Rattle.edge.proofs.Laws.Zero.{idle_near-past, idle_near-near}
use Rattle.edge.specs.Cuts.{strip_of, span, cuts, to_middle}
use Rattle.edge.proofs.Lemmas.Crossings.{steps-beyond, span-steps, meet_low, meet_high, inside-span}
use Rattle.edge.proofs.Lemmas.OneDirection.{ClosedRun, between_run, besideˡ, besideʳ, past-closed, near_thrice}

abbrev pub three_at : (ℤ → ℤ) → (ℤ → ℤ) → Samples → ℤ
three_at f g s = three f g s.first s.second s.third s.fourth

-- ---- a walk with some step strictly inside
module _ (a b : Axis) (sa : Steady a) (sb : Steady b) (c : Cell) (half : ℤ) (even : c.width ≡ half +ℤ half) (hh : pos 0 ≤ℤ half) (n : ℕ)
    (inside : (span a b c (pos n)).first <ℤ (span a b c (pos n)).last) where
  abbrev w : ℤ
  w = c.width

  abbrev p : ℤ
  p = (span a b c (pos n)).first

  abbrev q : ℤ
  q = (span a b c (pos n)).last

  abbrev k : Samples
  k = cuts a b c half (pos n)

  w≥0 : pos 0 ≤ℤ w
  w≥0 = lin≤ (w ∷ half ∷ []) (eq even & le hh) (search linear depth 40) tt

  p≥0 : pos 0 ≤ℤ p
  p≥0 = meet_low (strip_of a c.left w (pos n)) (strip_of b c.top w (pos n)) (pos n)

  q≤n : q ≤ℤ pos n
  q≤n = meet_high (strip_of a c.left w (pos n)) (strip_of b c.top w (pos n)) (pos n)

  p≤q : p ≤ℤ q
  p≤q = ≤ℤ_of_<ℤ inside

  -- ---- inside from p to q
  both : (t : ℤ) → p ≤ℤ t → (t +ℤ pos 1) ≤ℤ q → Between a c.left w t × Between b c.top w t
  both t h j = (span-steps a b sa sb c (pos n)).from t (≤ℤ_trans p≥0 h) (≤ℤ_trans j q≤n) h j

  pub x_closed : ClosedRun a c.left w k.first k.fourth
  x_closed = between_run a sa c.left w inside (λ t h j. (both t h j).0)

  pub y_closed : ClosedRun b c.top w k.first k.fourth
  y_closed = between_run b sb c.top w inside (λ t h j. (both t h j).1)

  -- ---- outside before p and from q on
  rests : (t : ℤ) → pos 0 ≤ℤ t → (t +ℤ pos 1) ≤ℤ pos n → ((t +ℤ pos 1) ≤ℤ p) ⊎ (q ≤ℤ t) → Rests a c.left w t ⊎ Rests b c.top w t
  rests t h j o = go (between_or_outside a c.left w t (steady_within sa)) (between_or_outside b c.top w t (steady_within sb))
    where
      go : Between a c.left w t ⊎ Outside a c.left w t → Between b c.top w t ⊎ Outside b c.top w t → Rests a c.left w t ⊎ Rests b c.top w t
      go (inr x) y = inl (outside_rests a c.left w t (≤ℤ-mul-nonneg sa.scaled w≥0) x)
      go (inl x) (inr y) = inr (outside_rests b c.top w t (≤ℤ-mul-nonneg sb.scaled w≥0) y)
      go (inl x) (inl y) = absurd (steps-beyond (span-steps a b sa sb c (pos n)) t h j o (x, y))

  rests-early : (t : ℤ) → pos 0 ≤ℤ t → (t +ℤ pos 1) ≤ℤ p → Rests a c.left w t ⊎ Rests b c.top w t
  rests-early t h j = rests t h (≤ℤ_trans j (≤ℤ_trans p≤q q≤n)) (inl j)

  rests_late : (t : ℤ) → q ≤ℤ t → (t +ℤ pos 1) ≤ℤ pos n → Rests a c.left w t ⊎ Rests b c.top w t
  rests_late t h j = rests t (≤ℤ_trans (≤ℤ_trans p≥0 p≤q) h) j (inr h)

  -- ---- the cuts
  pub ordered : Ordered k.first k.second k.third k.fourth (pos n)
  ordered = cuts_ordered (to_middle a c.left half) (to_middle b c.top half) p≥0 p≤q q≤n

  near_x_lem : LinearThrice (near a c.left w) k.first k.second k.third k.fourth
  near_x_lem = near_thrice x_closed ordered sa half even (besideˡ (to_middle a c.left half) (to_middle b c.top half) p≤q)

  near_y_lem : LinearThrice (near b c.top w) k.first k.second k.third k.fourth
  near_y_lem = near_thrice y_closed ordered sb half even (besideʳ (to_middle a c.left half) (to_middle b c.top half) p≤q)

  pub near-past-closed : h_on a b c n ≡ three_at (near a c.left w) (past b c.top w) (cuts a b c half (pos n))
  near-past-closed =
      sym (upto_all (near a c.left w) (past b c.top w) n)
      ∙ three_pieces (near a c.left w) (past b c.top w) ordered (record { none = λ t h j. idle_near-past (rests-early t h j) })
      near_x_lem (past-closed y_closed ordered) (record { none = λ t h j. idle_near-past (rests_late t h j) })

  pub past-near-closed : along (near b c.top w) (past a c.left w) n ≡ three_at (near b c.top w) (past a c.left w) (cuts a b c half (pos n))
  past-near-closed =
      sym (upto_all (near b c.top w) (past a c.left w) n)
      ∙ three_pieces (near b c.top w) (past a c.left w) ordered (record { none = λ t h j. idle_near-past (exchanged (rests-early t h j)) })
      near_y_lem (past-closed x_closed ordered) (record { none = λ t h j. idle_near-past (exchanged (rests_late t h j)) })

  pub near-near-closed : d_on a b c n ≡ three_at (near a c.left w) (near b c.top w) (cuts a b c half (pos n))
  near-near-closed =
      sym (upto_all (near a c.left w) (near b c.top w) n)
      ∙ three_pieces (near a c.left w) (near b c.top w) ordered (record { none = λ t h j. idle_near-near (rests-early t h j) })
      near_x_lem near_y_lem (record { none = λ t h j. idle_near-near (rests_late t h j) })

-- ---- an edge
abbrev pub edge_cuts : Edge → Cell → ℤ → Samples
edge_cuts e c half = cuts (x_axis e) (y_axis e) c half (pos (steps e))

-- the hypothesis of what follows, for an edge that comes strictly inside
pub cuts_of_inside : (e : Edge) (c : Cell) (half : ℤ) → Inside e c → (edge_cuts e c half).first <ℤ (edge_cuts e c half).fourth
cuts_of_inside e c half i = inside-span (x_axis e) (y_axis e) (x_steady e) (y_steady e) c i

module _ (e : Edge) (c : Cell) (half : ℤ) (even : c.width ≡ half +ℤ half) (hh : pos 0 ≤ℤ half)
    (inside : (edge_cuts e c half).first <ℤ (edge_cuts e c half).fourth) where
  pub h_closed : h_num e c ≡ three_at (near (x_axis e) c.left c.width) (past (y_axis e) c.top c.width) (edge_cuts e c half)
  unfolding h_num
  h_closed = near-past-closed (x_axis e) (y_axis e) (x_steady e) (y_steady e) c half even hh (steps e) inside

  pub v_closed : v_num e c ≡ neg_ℤ (three_at (near (y_axis e) c.top c.width) (past (x_axis e) c.left c.width) (edge_cuts e c half))
  unfolding v_num
  v_closed = ap neg_ℤ (past-near-closed (x_axis e) (y_axis e) (x_steady e) (y_steady e) c half even hh (steps e) inside)

  pub d_closed : d_num e c ≡ three_at (near (x_axis e) c.left c.width) (near (y_axis e) c.top c.width) (edge_cuts e c half)
  unfolding d_num
  d_closed = near-near-closed (x_axis e) (y_axis e) (x_steady e) (y_steady e) c half even hh (steps e) inside
