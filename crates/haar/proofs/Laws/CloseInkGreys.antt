-- By 01's rule: fractions at most a 255th of the full figure apart have greys at most one apart.
use Rattle.std.specs.Prelude.{[], ◌∷◌, ℕ, ◌*◌, ◌<◌, ℤ, pos, ◌-ℤ◌, ◌*ℤ◌}
use Rattle.integers.specs.Units.{full_grey}
use Rattle.integers.proofs.Theorems.Linear.{le, linear, lin≤}
use Rattle.integers.specs.Within.{Within}
use Rattle.haar.specs.Greys.{full, ink_grey, OneApart}
use Rattle.haar.proofs.Laws.InkGreys.{one_up}

-- 255 × |a / d − b / e| ≤ full
pub ink_one_apart : {side : ℕ} → 0 < side → (a b : ℤ) {d e : ℕ} → 0 < d → 0 < e
    → Within (pos (full side * (d * e))) (pos full_grey *ℤ (a *ℤ pos e -ℤ b *ℤ pos d)) → OneApart (ink_grey side a d) (ink_grey side b e)
ink_one_apart {side} s a b {d} {e} g h w = record {
  up = one_up s a b g h w.high;
  down = one_up s b a h g (lin≤ (a ∷ b ∷ pos d ∷ pos e ∷ pos side ∷ []) (le w.low) (search linear depth 40) tt);
}
