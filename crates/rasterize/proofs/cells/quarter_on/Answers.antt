-- Its numbers are small, and its halves are those on the way.
use Rattle.std.proofs.Common.{◌≡◌, ◌∙◌, ap, ap₂, ℕ, ◌<◌, ℤ, pos, arith}
use Rattle.integers.specs.Within.{Within}
use Rattle.integers.specs.Bits.{back}
use Rattle.integers.proofs.Theorems.Bits.{back_is}
use Rattle.slanted.specs.Parts.{half_on}
use Rattle.slanted.proofs.Laws.PieceParts.{half_on_below}
use Rattle.rasterize.specs.declared.Spot.{Spot}
use Rattle.rasterize.proofs.Laws.Nodes.{few}
use Rattle.rasterize.proofs.cells.quarter_on.Goals as goal

-- the sign, read back from its bits
half_is : {s : ℤ} {k r : ℕ} → k < 2 → Within (pos 1) s → r ≡ half_on (back s) k → (r ≡ half_on s k) × (r < 2)
half_is {s} {k} h i e =
    let j = e ∙ ap (λ z. half_on z k) (back_is tt i) in
    (j, omega (arith, j, half_on_below s h))

spot-eq : {a a' x x' y y' : ℕ} → a ≡ a' → x ≡ x' → y ≡ y' → ◌≡◌ {A = Spot} (record { level = a; x = x; y = y }) (record { level = a'; x = x'; y = y' })
spot-eq {a} {a'} {x} {x'} {y} {y'} i j k = ap₂ (λ b z. record { level = b; x = z; y = y }) i j ∙ ap (λ z. record { level = a'; x = x'; y = z }) k

pub overflow_add-result-2 : goal.overflow_add-result-2
overflow_add-result-2 c =
    let r = c.requires in
    record { fits = omega (arith, few r.2 r.1, (half_is (omega arith) r.4 c.half_on.ensures).1) }

pub overflow_add-result-3 : goal.overflow_add-result-3
overflow_add-result-3 c =
    let r = c.requires in
    record { fits = omega (arith, few r.3 r.1, (half_is (omega (arith, r.0)) r.5 c.half_on-2.ensures).1) }

pub returns : goal.returns
returns c =
    let r = c.requires in
    let a = half_is (omega arith) r.4 c.half_on.ensures in
    let b = half_is (omega (arith, r.0)) r.5 c.half_on-2.ensures in
    spot-eq (omega arith) (omega (arith, a.0, a.1, b.0, b.1)) (omega (arith, a.0, a.1, b.0, b.1))
