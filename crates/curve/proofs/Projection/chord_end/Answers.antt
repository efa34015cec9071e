-- 2^k chords are at most 128, and n × n is 4^k.
use Rattle.std.proofs.Common.{◌≡◌, ◌∙◌, ap, ℕ, ◌^◌, ◌<◌, ◌≤◌, ℤ, pos, nat_abs, ◌*ℤ◌, w64, pow_mono, arith}
use Rattle.std.proofs.Math.Facts.{to_z_pos}
use Rattle.integers.specs.Units.{most_splits, most_chords}
use Rattle.integers.specs.Rounding.{round_half_up}
use Rattle.integers.proofs.Theorems.Bits.{result_is}
use Rattle.curve.specs.Curve.{curve_num, chord_end}
use Rattle.curve.proofs.Laws.ChordEnds.{power_square}
use Rattle.curve.proofs.Projection.chord_end.Goals as goal

-- by the numbers that the function was given
as_said : (p q r : ℤ) (k i : ℕ) {n' i' : ℤ} → n' ≡ pos (2 ^ k) → i' ≡ pos i
    → round_half_up (curve_num p q r n' i') (nat_abs (n' *ℤ n')) ≡ chord_end p q r k i
as_said p q r k i {n'} {i'} d e =
    ap (λ y. round_half_up (curve_num p q r n' y) (nat_abs (n' *ℤ n'))) e
    ∙ ap (λ n. round_half_up (curve_num p q r n (pos i)) (nat_abs (n *ℤ n))) d
    ∙ ap (round_half_up (curve_num p q r (pos (2 ^ k)) (pos i))) (power_square k)

pub returns : goal.returns
returns c =
    let a = c.args in
    let f = c.ranges in
    let n = c.chords_at.ensures in
    let few : c.chords_at.result ≤ most_chords = omega (arith, n, pow_mono {i = a.k} {j = most_splits} c.requires.0) in
    let n-small : c.chords_at.result < 2 ^ 63 = omega (arith, few) in
    let i-small : a.i < 2 ^ 63 = omega (arith, few, n, c.requires.1) in
    result_is c.at.type_inv
    (c.at.ensures
    ∙ as_said a.self.p a.self.q a.self.r a.k a.i (to_z_pos w64 n-small ∙ ap pos n) (to_z_pos w64 i-small))
