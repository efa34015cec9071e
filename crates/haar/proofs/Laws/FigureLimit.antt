-- Question 9 keeps figures in 64 bits: of a table whose entries are within 2^40, no figure passes 2^52, either way.
--
-- Main results
--   figure_in_range               at a level, none passes 2^40 times the number of its cells
--   figure_limit_lem              and so none passes 2^52
use Rattle.std.specs.Prelude.{◌≡◌, refl, List, ℕ, ◌*◌, ◌^◌, ◌<◌, ◌≤◌, ℤ, pos}
use Rattle.std.proofs.Common.{ap, arith, mul-le-mul_right}
use Rattle.std.proofs.Math.Nat.{pow-le-pow_right}
use Rattle.integers.specs.Units.{greatest_depth, entry_limit, figure_limit}
use Rattle.integers.proofs.Theorems.Order.{pos-≤ℤ}
use Rattle.integers.specs.Within.{Within}
use Rattle.integers.proofs.Theorems.Within.{within_is, within_le}
use Rattle.haar.specs.Cells.{children}
use Rattle.haar.specs.Plane.{dimensions, at, figure_in}
use Rattle.haar.specs.Drawable.{InRange}
use Rattle.haar.proofs.Laws.FigureBounds.{bound, bound_const, figure_within, stored_bounded}

module _ {entries : List ℤ} (r : InRange entries) (level : ℕ) where
  pub figure_in_range : (cx cy : ℕ) → cx < 2 ^ level → cy < 2 ^ level → Within (pos (children dimensions ^ level * entry_limit)) (figure_in entries level cx cy)
  figure_in_range cx cy x y =
      let k = entry_limit in
      let e : bound dimensions k (λ j cell. k) level (at cx cy) ≡ children dimensions ^ level * k = omega (arith, bound_const dimensions k k level (at cx cy)) in
      within_is (ap pos e) refl (figure_within (stored_bounded dimensions level k entries r.each) level (omega arith) (at cx cy) (x, (y, tt)))

  pub figure_limit_lem : level ≤ greatest_depth → (cx cy : ℕ) → cx < 2 ^ level → cy < 2 ^ level → Within (pos figure_limit) (figure_in entries level cx cy)
  figure_limit_lem h cx cy x y =
      within_le (pos-≤ℤ (mul-le-mul_right entry_limit (pow-le-pow_right {n = children dimensions} (omega arith) h))) (figure_in_range cx cy x y)
