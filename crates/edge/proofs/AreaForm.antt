-- The area's numerator that the code works out at the four cuts is that of the closed form, and rounded it is the edge's rounded area.
--
-- Main results
--   cut_area               the rounded area of the edge, from the cuts of its walk in the cell's rows
--   no_area                it is 0 where no step is in the rows
--   InRows, cuts_in_rows   at the cuts, which are in order, y is between the sides, or on them
use mathlib.Core.Path.{◌≡◌, sym, ◌∙◌, ap}
use Prim.Native.Nat.{ℕ}
use lib.IntN.{ℤ, pos, nat_abs, ◌*ℤ◌}
use lib.Signed.{◌≤ℤ◌, ◌<ℤ◌}
use Rattle.integers.specs.Rounding.{round_half_away}
use Rattle.edge.specs.declared.Axis.{Axis}
use Rattle.edge.specs.declared.Cell.{Cell}
use Rattle.edge.specs.declared.Samples.{Samples}
use Rattle.edge.specs.Integrals.{area_on}
use Rattle.edge.specs.Rounded.{rounded_area}
use Rattle.edge.specs.Cuts.{rows, side_cuts}
use Rattle.edge.specs.Code.{SamplesClosed, piece_sum, beyond_at, held_at, area_at}
use Rattle.edge.specs.WalkOf.{Course, IsWalk}
use Rattle.edge.proofs.Lemmas.Ends.{Steady}
use Rattle.edge.proofs.Lemmas.Runs.{Ordered}
use Rattle.edge.proofs.Laws.ClosedArea.{area_no_rows, rows-closed, side_ordered, area_closed}
use Rattle.edge.proofs.WalkForm.{every-walk, walk_area, walk-zero}
use Rattle.edge.proofs.CutForm.{past_samples, samples_closed}

-- ---- a walk with some step in the rows
pub record InRows (b : Axis) (c : Cell) (n : ℤ) (k : Samples) : Type 0 where
  pub y : SamplesClosed b c.top c.width k
  pub order : Ordered k.first k.second k.third k.fourth n

module _ (c : Cell) (w≥0 : pos 0 ≤ℤ c.width) where
  module _ (a b : Axis) (sa : Steady a) (sb : Steady b) (n : ℕ) (some : (rows b c (pos n)).first <ℤ (rows b c (pos n)).last) where
    abbrev k : Samples
    k = side_cuts a b c (pos n)

    in_rows : InRows b c (pos n) k
    in_rows = let o = side_ordered a b sa sb c w≥0 n some in record { y = samples_closed o (rows-closed a b sa sb c w≥0 n some); order = o }

    area_at_lem : area_at a b c k ≡ area_on a b c n
    area_at_lem = ap (piece_sum (held_at (a.scale *ℤ c.width) (beyond_at a c.left k))) (past_samples in_rows.y) ∙ sym (area_closed a b sa sb c w≥0 n some)

  -- ---- of an edge
  module _ {w : Course} (walk : IsWalk w) where
    pub no_area : (rows w.y c w.steps).last ≤ℤ (rows w.y c w.steps).first → rounded_area w.edge c ≡ pos 0
    no_area none =
        sym (walk_area walk c w≥0)
        ∙ ap (λ z. round_half_away z (nat_abs w.divisor))
        (every-walk (λ a b n. (rows b c n).last ≤ℤ (rows b c n).first → area_on a b c (nat_abs n) ≡ pos 0) (λ a b sa sb n. area_no_rows a b sa sb c w≥0 n) walk none)
        ∙ walk-zero walk

    module _ (some : (rows w.y c w.steps).first <ℤ (rows w.y c w.steps).last) where
      pub cuts_in_rows : InRows w.y c w.steps (side_cuts w.x w.y c w.steps)
      cuts_in_rows = every-walk (λ a b n. (rows b c n).first <ℤ (rows b c n).last → InRows b c n (side_cuts a b c n)) in_rows walk some

      pub cut_area : round_half_away (area_at w.x w.y c (side_cuts w.x w.y c w.steps)) (nat_abs w.divisor) ≡ rounded_area w.edge c
      cut_area =
          ap (λ z. round_half_away z (nat_abs w.divisor))
          (every-walk (λ a b n. (rows b c n).first <ℤ (rows b c n).last → area_at a b c (side_cuts a b c n) ≡ area_on a b c (nat_abs n)) area_at_lem walk some)
          ∙ walk_area walk c w≥0
