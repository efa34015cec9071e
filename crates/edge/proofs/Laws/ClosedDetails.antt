-- The rounded details by the closed form, for every edge. The sums over a walk's steps are too long to compute; this computes at once.
--
-- Main results
--   closed_numerators              the closed form's numerators of h, v and d
--   no_details, closed_details     the same rounded; none where no step of the walk lies strictly inside the cell
--   details-closed                 and these are the details
use Rattle.std.specs.Prelude.{◌≡◌, [], ◌∷◌, Bool, cond, ℤ, pos, neg_ℤ, ◌+ℤ◌, ◌≤ℤ◌, ◌<ℤ◌}
use Rattle.std.proofs.Math.Path.{refl}
use Rattle.std.proofs.Common.{ap}
use Rattle.std.proofs.Math.Bool.{true, false}
use Rattle.std.specs.Int.Signed.{lt_z}
use Rattle.integers.proofs.Theorems.Order.{lt_z-true, lt_z-false}
use Rattle.integers.proofs.Theorems.Linear.{le, lt, eq, ◌&◌, linear, lin≤, lin⊥}
use Rattle.integers.specs.MinMax.{min, max}
use Rattle.integers.specs.Clamp.{clamp}
use Rattle.integers.specs.Tent.{tent}
use Rattle.integers.specs.Rounding.{round_half_away, nearestℕ}
use Rattle.edge.specs.declared.Edge.{Edge}
use Rattle.edge.specs.declared.Cell.{Cell}
use Rattle.edge.specs.declared.Details.{Details}
use Rattle.edge.specs.Walk.{extent, sign, steps, x_axis, y_axis, past, near}
use Rattle.edge.specs.Inside.{Inside}
use Rattle.edge.specs.Rounded.{details}
use Rattle.edge.specs.Cuts.{strip}
use Rattle.edge.specs.Code.{rounded_by}
use Rattle.edge.proofs.Lemmas.Records.{details-eq}
use Rattle.edge.proofs.Laws.Zero.{details-zero}
use Rattle.edge.proofs.Laws.ClosedForm.{three_at, edge_cuts, cuts_of_inside, h_closed, v_closed, d_closed}

-- `half` is half of the cell's width
abbrev pub closed_numerators : Edge → Cell → ℤ → Details
closed_numerators e c half = record {
  h = three_at (near (x_axis e) c.left c.width) (past (y_axis e) c.top c.width) (edge_cuts e c half);
  v = neg_ℤ (three_at (near (y_axis e) c.top c.width) (past (x_axis e) c.left c.width) (edge_cuts e c half));
  d = three_at (near (x_axis e) c.left c.width) (near (y_axis e) c.top c.width) (edge_cuts e c half);
}

abbrev pub no_details : Details
no_details = record { h = pos 0; v = pos 0; d = pos 0 }

-- What has to be unfolded to compute them stands on the `unfolding` line, so a proof that computes them names `closed_details` alone.
unfoldable pub closed_details : Edge → Cell → ℤ → Details
unfolding min max clamp tent extent sign strip round_half_away nearestℕ
closed_details e c half =
    cond (lt_z (edge_cuts e c half).first (edge_cuts e c half).fourth) (rounded_by (pos (steps e)) (closed_numerators e c half)) no_details

module _ (e : Edge) (c : Cell) (half : ℤ) (even : c.width ≡ half +ℤ half) (hh : pos 0 ≤ℤ half) where
  abbrev first : ℤ
  first = (edge_cuts e c half).first

  abbrev last : ℤ
  last = (edge_cuts e c half).fourth

  abbrev rounded : ℤ → ℤ
  rounded z = round_half_away z (steps e)

  outside : lt_z first last ≡ false → Inside e c → ⊥
  outside t i = lin⊥ (first ∷ last ∷ []) (le (lt_z-false {a = first} {b = last} t) & lt (cuts_of_inside e c half i)) (search linear depth 40) tt

  details_by : (b : Bool) → lt_z first last ≡ b → details e c ≡ cond b (rounded_by (pos (steps e)) (closed_numerators e c half)) no_details
  unfolding details
  details_by true t =
      let i : first <ℤ last = lt_z-true t in
      details-eq (ap rounded (h_closed e c half even hh i)) (ap rounded (v_closed e c half even hh i)) (ap rounded (d_closed e c half even hh i))
  details_by false t = details-zero e c (lin≤ (c.width ∷ half ∷ []) (eq even & le hh) (search linear depth 40) tt) (outside t)

  pub details-closed : details e c ≡ closed_details e c half
  unfolding closed_details
  details-closed = details_by (lt_z first last) refl
