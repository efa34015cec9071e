-- Laws of what specs/ChordsNear.antt defines. The head of that file lists the main results.
use Rattle.std.specs.Prelude.{◌≡◌, refl, [], ◌∷◌, ℕ, ◌^◌, ℤ, pos, ◌*ℤ◌}
use Rattle.std.proofs.Common.{sym, ap}
use Rattle.integers.proofs.Theorems.Ring.{read, comb, ◌⊗◌}
use Rattle.integers.proofs.Theorems.Order.{nonneg, pos-≤ℤ}
use Rattle.integers.proofs.Theorems.Within.{within_is, abs_of_within}
use Rattle.curve.specs.Curve.{OnSheet, bend, IsFlat, splits}
use Rattle.curve.proofs.Laws.ChordDistance.{chord_close}
use Rattle.curve.proofs.Laws.ChordEnds.{power_square}
use Rattle.curve.proofs.Laws.Splits.{flat_on, splits-flat}
use Rattle.curve.specs.ChordsNear.{ChordsNear}

pub chords_near : (p q r : ℤ) (k : ℕ) → IsFlat k (bend p q r) → ChordsNear p q r k
chords_near p q r k f = record {
  near = λ i a b h l.
      let n = pos (2 ^ k) in
      let square : n *ℤ n ≡ pos (4 ^ k) = ap pos (power_square k) in
      abs_of_within (within_is (comb (n ∷ pos (4 ^ k) ∷ pos b ∷ []) ((pos b *ℤ pos b) ⊗ square) (search read depth 40) tt) refl
      (chord_close p q r n (pos i) (pos b) (pos a) (nonneg a) (pos-≤ℤ l)
      (within_is (comb (n ∷ pos (4 ^ k) ∷ []) (pos 4 ⊗ sym square) (search read depth 40) tt) refl f)));
}

pub curve_near : {px qx rx py qy ry : ℤ} → OnSheet px → OnSheet qx → OnSheet rx → OnSheet py → OnSheet qy → OnSheet ry
    → ChordsNear px qx rx (splits (bend px qx rx) (bend py qy ry)) × ChordsNear py qy ry (splits (bend px qx rx) (bend py qy ry))
curve_near {px} {qx} {rx} {py} {qy} {ry} a b c d e f =
    let k = splits (bend px qx rx) (bend py qy ry) in
    let flat = splits-flat (bend px qx rx) (bend py qy ry) (flat_on a b c) (flat_on d e f) in
    (chords_near px qx rx k flat.0, chords_near py qy ry k flat.1)
