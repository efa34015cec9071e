-- `integers::div_round_half_away` meets its contract: the arithmetic stays in 64 bits, and each of the three ways out answers the rounded quotient.
use mathlib.Core.Path.{◌≡◌, ◌∙◌, sym, ap, ap₂, subst⁻¹, subst₂}
use mathlib.Core.List.{[], ◌∷◌}
use lib.Dec.{lit<}
use lib.IntN.{ℤ, pos, neg_ℤ, ◌+ℤ◌, ◌-ℤ◌, ◌*ℤ◌}
use lib.Signed.{quot_z, rem_z, ◌≤ℤ◌, ◌<ℤ◌, lt_z_yes}
use mir.Syntax.{w64}
use mir.Val.{SFits, to_z, of_z}
use mir.Facts.{to_z-of_z}
use Rattle.integers.proofs.Theorems.Linear.{◌&◌, le, lt, eq, lin≤, lin<}
use Rattle.integers.proofs.Theorems.Machine.{machine, linfits, range, known, bits_pos, tests}
use Rattle.integers.specs.Division.{Truncated}
use Rattle.integers.proofs.Theorems.Division.{truncated, quot_fits, rem_fits}
use Rattle.integers.proofs.Correction.{up_at_least, up_at_most, down_at_least, down_at_most, rounded_up, rounded-down, kept}
use Rattle.integers.proofs.div_round_half_away.Statement.{statement}
use Rattle.integers.proofs.div_round_half_away.Tie as tie
use Rattle.integers.proofs.div_round_half_away.Reads as reads
use Rattle.integers.proofs.div_round_half_away.Lts as lts

abbrev Start : Type 0
Start = lts.Start reads.Pre reads.Post

-- ---- the quotient and the remainder, as the machine has them: of numbers read back from their bits
abbrev back : ℤ → ℤ
back z = to_z w64 (of_z w64 z)

module _ (s : Start) where
  abbrev N : ℤ
  N = s.args.n

  abbrev D : ℤ
  D = s.args.d

  abbrev Q : ℤ
  Q = quot_z (back N) (back D)

  abbrev R : ℤ
  R = rem_z (back N) (back D)

  Q-is : Q ≡ quot_z N D
  Q-is = ap₂ quot_z (to_z-of_z s.ranges.n) (to_z-of_z s.ranges.d)

  R-is : R ≡ rem_z N D
  R-is = ap₂ rem_z (to_z-of_z s.ranges.n) (to_z-of_z s.ranges.d)

  parts : Truncated N D Q R
  parts = subst₂ (Truncated N D) (sym Q-is) (sym R-is) (truncated N D s.requires)

  Q-fits : SFits w64 Q
  Q-fits = subst⁻¹ (SFits w64) Q-is (quot_fits N D s.ranges.n s.requires)

  R-fits : SFits w64 R
  R-fits = subst⁻¹ (SFits w64) R-is (rem_fits N D s.ranges.n)

  -- ---- the greatest remainder that is less than half of d: the quotient of d − 1 by 2
  abbrev U : ℤ
  U = quot_z (back (back D -ℤ pos 1)) (pos 2)

  less-fits : SFits w64 (back D -ℤ pos 1)
  less-fits = linfits (D ∷ []) (lt s.requires & range s.ranges.d) (search machine depth 40) (tt, tt)

  U-is : U ≡ quot_z (D -ℤ pos 1) (pos 2)
  U-is = ap (λ x. quot_z x (pos 2)) (known less-fits (ap (λ x. x -ℤ pos 1) (to_z-of_z s.ranges.d)))

  U-fits : SFits w64 U
  U-fits = quot_fits (back (back D -ℤ pos 1)) (pos 2) (subst⁻¹ (SFits w64) (to_z-of_z less-fits) less-fits) (lt_z_yes tt)

  halves : Truncated (D -ℤ pos 1) (pos 2) U (rem_z (D -ℤ pos 1) (pos 2))
  halves = subst⁻¹ (λ u. Truncated (D -ℤ pos 1) (pos 2) u (rem_z (D -ℤ pos 1) (pos 2))) U-is (truncated (D -ℤ pos 1) (pos 2) (lt_z_yes tt))

  U-low : D ≤ℤ (pos 2 *ℤ (U +ℤ pos 1))
  U-low = lin≤ (D ∷ U ∷ rem_z (D -ℤ pos 1) (pos 2) ∷ []) (eq halves.whole & lt halves.below) (search machine depth 40) tt

  U-high : (pos 2 *ℤ U) <ℤ D
  U-high =
      let k : pos 0 ≤ℤ (D -ℤ pos 1) = lin≤ (D ∷ []) (lt s.requires) (search machine depth 40) tt in
      lin< (D ∷ U ∷ rem_z (D -ℤ pos 1) (pos 2) ∷ []) (eq halves.whole & le (halves.nonnegative k).1) (search machine depth 40) tt

div-q : tie.Need-nonzero_div-q
div-q s = (bits_pos w64 {z = D s} s.requires, Q-fits s)

rem-r : tie.Need-nonzero_rem-r
rem-r s = div-q s

sub-under : tie.Need-overflow_sub-under
sub-under s = less-fits s

div-under : tie.Need-nonzero_div-under
div-under s = (lit< tt, U-fits s)

-- ---- r is half of d or more
up : (c : lts.Then-r-under reads.Pre reads.Post) → D c.before ≤ℤ (pos 2 *ℤ R c.before)
up c =
    let s = c.before in
    let e = U-fits s in
    let f = R-fits s in
    let k : U s <ℤ R s = search tests in
    lin≤ (D s ∷ U s ∷ R s ∷ []) (lt k & le (U-low s)) (search machine depth 40) tt

add-result : tie.Need-overflow_add-result
add-result c =
    let s = c.before in
    let f = Q-fits s in
    linfits (N s ∷ Q s ∷ []) (le (up_at_least (parts s) s.requires (up c)) & le (up_at_most (parts s) s.requires (up c)) & range s.ranges.n) (search machine depth 40) (tt, tt)

returns : tie.Need-returns-then-r-under
returns c = let s = c.before in known (add-result c) (ap (λ q. q +ℤ pos 1) (to_z-of_z (Q-fits s)) ∙ rounded_up (parts s) s.requires (up c))

-- ---- −r is half of d or more
not-up : (c : lts.Else-r-under reads.Pre reads.Post) → (pos 2 *ℤ R c.before) <ℤ D c.before
not-up c =
    let s = c.before in
    let e = U-fits s in
    let f = R-fits s in
    let k : R s ≤ℤ U s = search tests in
    lin< (D s ∷ U s ∷ R s ∷ []) (le k & lt (U-high s)) (search machine depth 40) tt

sub-if2 : tie.Need-overflow_sub-under-else-r-under
sub-if2 c =
    let s = c.before in
    let e = U-fits s in
    linfits (D s ∷ U s ∷ []) (le (U-low s) & lt (U-high s) & lt s.requires & range s.ranges.d) (search machine depth 40) (tt, tt)

down : (c : lts.Then-r-under-2 reads.Pre reads.Post) → D c.before.before ≤ℤ (pos 2 *ℤ neg_ℤ (R c.before.before))
down c =
    let s = c.before.before in
    let e = U-fits s in
    let f = R-fits s in
    let i = sub-if2 c.before in
    let k : R s <ℤ (pos 0 -ℤ back (U s)) = search tests in
    lin≤ (D s ∷ U s ∷ R s ∷ []) (lt k & le (U-low s)) (search machine depth 40) tt

sub-result : tie.Need-overflow_sub-result
sub-result c =
    let s = c.before.before in
    let f = Q-fits s in
    linfits (N s ∷ Q s ∷ []) (le (down_at_least (parts s) s.requires (down c)) & le (down_at_most (parts s) s.requires (down c)) & range s.ranges.n) (search machine depth 40) (tt, tt)

returns-2 : tie.Need-returns-then-r-under-2
returns-2 c = let s = c.before.before in known (sub-result c) (ap (λ q. q -ℤ pos 1) (to_z-of_z (Q-fits s)) ∙ rounded-down (parts s) s.requires (down c))

-- ---- neither
not-down : (c : lts.Else-r-under-2 reads.Pre reads.Post) → (pos 2 *ℤ neg_ℤ (R c.before.before)) <ℤ D c.before.before
not-down c =
    let s = c.before.before in
    let e = U-fits s in
    let f = R-fits s in
    let i = sub-if2 c.before in
    let k : (pos 0 -ℤ back (U s)) ≤ℤ R s = search tests in
    lin< (D s ∷ U s ∷ R s ∷ []) (le k & lt (U-high s)) (search machine depth 40) tt

returns-3 : tie.Need-returns-else-r-under-2
returns-3 c = let s = c.before.before in known (Q-fits s) (kept (parts s) s.requires (not-up c.before) (not-down c))

pub div_round_half_away_spec : {M : Type 1} → statement M
div_round_half_away_spec =
    tie.close (tie.spec div-q rem-r sub-under div-under add-result sub-if2 sub-result returns returns-2 returns-3)
