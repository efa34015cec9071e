-- The numerators that the code works out at the four cuts are those of the closed form, and rounded they are the edge's details.
--
-- Main results
--   cut-details                    the details of the edge, from the cuts of its walk
--   InCell, cuts_in_cell           at the four cuts, which are in order, both directions are between their sides, or on them
--   past_samples                   there the held coordinate is the coordinate itself
--   samples_closed                 cuts of a run between the sides
--   ordered_within                 steps that are in order are bounded by their number
use mathlib.Core.Path.{◌≡◌, sym, ◌∙◌, ap, ap₂}
use mathlib.Core.List.{[], ◌∷◌}
use Prim.Native.Nat.{ℕ}
use lib.IntN.{ℤ, pos, nat_abs, ◌+ℤ◌, ◌-ℤ◌, ◌*ℤ◌}
use lib.Signed.{◌≤ℤ◌, ◌<ℤ◌, ≤ℤ_refl}
use Rattle.integers.proofs.Theorems.Ring.{read, ring}
use Rattle.integers.proofs.Theorems.Order.{≤ℤ_trans}
use Rattle.integers.proofs.Theorems.Linear.{le, ◌&◌, linear, lin≤}
use Rattle.integers.specs.Within.{Within}
use Rattle.integers.specs.MinMax.{min}
use Rattle.integers.proofs.Theorems.Clamp.{clamp-inside}
use Rattle.integers.proofs.Theorems.Tent.{tent-inside}
use Rattle.edge.specs.declared.Axis.{Axis}
use Rattle.edge.specs.declared.Cell.{Cell}
use Rattle.edge.specs.declared.Samples.{Samples}
use Rattle.edge.specs.Walk.{beyond, past, near}
use Rattle.edge.specs.Integrals.{along}
use Rattle.edge.specs.Rounded.{details}
use Rattle.edge.specs.Code.{Closed, SamplesWithin, SamplesClosed, beyond_at, near_at, piece_sum, numerators_at, rounded_by}
use Rattle.edge.specs.Cuts.{span, cuts}
use Rattle.edge.specs.WalkOf.{Course, IsWalk}
use Rattle.edge.proofs.Lemmas.Ends.{Steady}
use Rattle.edge.proofs.Lemmas.Records.{samples_eq, details-eq}
use Rattle.edge.proofs.Lemmas.Runs.{Ordered}
use Rattle.edge.proofs.Lemmas.OneDirection.{ClosedRun}
use Rattle.edge.proofs.Laws.ClosedForm.{x_closed, y_closed, ordered, near-past-closed, past-near-closed, near-near-closed}
use Rattle.edge.proofs.WalkForm.{every-walk, sums_on, walk-details}

-- ---- samples of the definitions
abbrev samples_of : (ℤ → ℤ) → Samples → Samples
samples_of f k = record { first = f k.first; second = f k.second; third = f k.third; fourth = f k.fourth }

near_samples : {a : Axis} {side w : ℤ} {k : Samples} → SamplesClosed a side w k → near_at (a.scale *ℤ w) (beyond_at a side k) ≡ samples_of (near a side w) k
near_samples {a} {side} {w} s = samples_eq (at s.first) (at s.second) (at s.third) (at s.fourth)
  where
    at : {t : ℤ} → Closed a side w t → min (beyond a side t) (a.scale *ℤ w -ℤ beyond a side t) ≡ near a side w t
    at c = sym (tent-inside c.low c.high)

pub past_samples : {a : Axis} {side w : ℤ} {k : Samples} → SamplesClosed a side w k → beyond_at a side k ≡ samples_of (past a side w) k
past_samples {a} {side} {w} s = samples_eq (at s.first) (at s.second) (at s.third) (at s.fourth)
  where
    at : {t : ℤ} → Closed a side w t → beyond a side t ≡ past a side w t
    at c = sym (clamp-inside c.low c.high)

-- ---- cuts
pub samples_closed : {a : Axis} {side w n : ℤ} {k : Samples} → Ordered k.first k.second k.third k.fourth n → ClosedRun a side w k.first k.fourth
    → SamplesClosed a side w k
samples_closed {k = k} o r =
    let end = ≤ℤ_trans o.b≥a o.q≥b in
    record {
      first = r.at k.first (≤ℤ_refl k.first) (≤ℤ_trans o.a≥p end);
      second = r.at k.second o.a≥p end;
      third = r.at k.third (≤ℤ_trans o.a≥p o.b≥a) o.q≥b;
      fourth = r.at k.fourth (≤ℤ_trans o.a≥p end) (≤ℤ_refl k.fourth);
    }

-- steps that are in order are bounded by their number
pub ordered_within : {p u v q n b : ℤ} → Ordered p u v q n → Within b n → SamplesWithin b (record { first = p; second = u; third = v; fourth = q })
ordered_within {p} {u} {v} {q} {n} {b} o w =
    let qn = o.n≥q in
    let vn = ≤ℤ_trans o.q≥b qn in
    let un = ≤ℤ_trans o.b≥a vn in
    let pn = ≤ℤ_trans o.a≥p un in
    let u0 = ≤ℤ_trans o.p≥0 o.a≥p in
    let v0 = ≤ℤ_trans u0 o.b≥a in
    let q0 = ≤ℤ_trans v0 o.q≥b in
    record { first = between o.p≥0 pn; second = between u0 un; third = between v0 vn; fourth = between q0 qn }
  where
    between : {t : ℤ} → pos 0 ≤ℤ t → t ≤ℤ n → Within b t
    between {t} h k = record {
      low = lin≤ (t ∷ n ∷ b ∷ []) (le h & le k & le w.high) (search linear depth 40) tt;
      high = ≤ℤ_trans k w.high;
    }

-- ---- a walk with some step strictly inside
pub record InCell (a b : Axis) (c : Cell) (n : ℤ) (k : Samples) : Type 0 where
  pub x : SamplesClosed a c.left c.width k
  pub y : SamplesClosed b c.top c.width k
  pub order : Ordered k.first k.second k.third k.fourth n

module _ (c : Cell) (half : ℤ) (even : c.width ≡ half +ℤ half) (hh : pos 0 ≤ℤ half) where
  module _ (a b : Axis) (sa : Steady a) (sb : Steady b) (n : ℕ) (inside : (span a b c (pos n)).first <ℤ (span a b c (pos n)).last) where
    abbrev k : Samples
    k = cuts a b c half (pos n)

    in_cell : InCell a b c (pos n) k
    in_cell =
        let o = ordered a b sa sb c half even hh n inside in
        record { x = samples_closed o (x_closed a b sa sb c half even hh n inside); y = samples_closed o (y_closed a b sa sb c half even hh n inside); order = o }

    h_at : (numerators_at a b c k).h ≡ (sums_on a b c n).h
    h_at = ap₂ piece_sum (near_samples in_cell.x) (past_samples in_cell.y) ∙ sym (near-past-closed a b sa sb c half even hh n inside)

    v_at : (numerators_at a b c k).v ≡ (sums_on a b c n).v
    v_at =
        ap (λ z. pos 0 -ℤ z) (ap₂ piece_sum (near_samples in_cell.y) (past_samples in_cell.x) ∙ sym (past-near-closed a b sa sb c half even hh n inside))
        ∙ ring (along (near b c.top c.width) (past a c.left c.width) n ∷ []) (search read depth 40) tt

    d_at : (numerators_at a b c k).d ≡ (sums_on a b c n).d
    d_at = ap₂ piece_sum (near_samples in_cell.x) (near_samples in_cell.y) ∙ sym (near-near-closed a b sa sb c half even hh n inside)

    numerators_at_lem : numerators_at a b c k ≡ sums_on a b c n
    numerators_at_lem = details-eq h_at v_at d_at

  -- ---- of an edge
  module _ {w : Course} (walk : IsWalk w) (inside : (span w.x w.y c w.steps).first <ℤ (span w.x w.y c w.steps).last) where
    pub cuts_in_cell : InCell w.x w.y c w.steps (cuts w.x w.y c half w.steps)
    cuts_in_cell = every-walk (λ a b n. (span a b c n).first <ℤ (span a b c n).last → InCell a b c n (cuts a b c half n)) in_cell walk inside

    pub cut-details : rounded_by w.divisor (numerators_at w.x w.y c (cuts w.x w.y c half w.steps)) ≡ details w.edge c
    cut-details =
        ap (rounded_by w.divisor)
        (every-walk (λ a b n. (span a b c n).first <ℤ (span a b c n).last → numerators_at a b c (cuts a b c half n) ≡ sums_on a b c (nat_abs n)) numerators_at_lem walk inside)
        ∙ walk-details walk c even hh
