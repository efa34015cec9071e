-- Both lie between.
use Rattle.std.proofs.Common.{◌≡◌, sym, ◌∙◌, ap₂, [], ◌∷◌, Bool, true≢false, ℤ, pos, SFits, w64, to_z-of_z}
use Rattle.integers.proofs.Theorems.Linear.{le, linear, lin≤}
use Rattle.integers.specs.Tests.{between}
use Rattle.integers.proofs.Theorems.Tests.{between_means}
use Rattle.integers.specs.Bits.{back}
use Rattle.edge.specs.Nested.{OnRange}
use Rattle.edge.specs.WalkOf.{Decides}
use Rattle.rasterize.proofs.lie_across.Goals as goal

-- one comparison with each side
across : {b : Bool} {width p : ℤ} → SFits w64 width → SFits w64 p → b ≡ between (pos 0) (back width) (back p) → Decides b (OnRange (pos 0) width p)
across {b} {width} {p} f g h = record {
  yes = λ t. let r = (between_means (pos 0) width p).0 (sym is ∙ t) in
      record { low = r.0; high = lin≤ (width ∷ p ∷ []) (le r.1) (search linear depth 40) tt };
  no = λ t r. true≢false (sym ((between_means (pos 0) width p).1 (r.low, lin≤ (width ∷ p ∷ []) (le r.high) (search linear depth 40) tt)) ∙ sym is ∙ t);
}
  where
    is : b ≡ between (pos 0) width p
    is = h ∙ ap₂ (between (pos 0)) (to_z-of_z f) (to_z-of_z g)

pub returns-then-is_within : goal.returns-then-is_within
returns-then-is_within c =
    let p = across c.ranges.width c.ranges.p c.is_within.ensures in
    let q = across c.ranges.width c.ranges.q c.is_within-then-is_within.ensures in
    record { yes = λ t. (p.yes c.if-is_within.true, q.yes t); no = λ t r. q.no t r.1 }
