-- Both ends in x, and both in y.
use Rattle.std.proofs.Common.{sym, ◌∙◌, subst, Bool, true≢false, ℤ, pos, SFits, w64, to_z-of_z}
use Rattle.integers.specs.Within.{Within}
use Rattle.integers.specs.Bits.{back}
use Rattle.integers.proofs.Theorems.Bits.{back_is}
use Rattle.edge.specs.Room.{coordinate_limit}
use Rattle.edge.specs.Nested.{OnRange}
use Rattle.edge.specs.WalkOf.{Decides}
use Rattle.rasterize.proofs.lies_on.Goals as goal

-- what `lie_across` says, without bits
told : {b : Bool} {width p q : ℤ} → SFits w64 width → Within (pos coordinate_limit) p → Within (pos coordinate_limit) q
    → Decides b (OnRange (pos 0) (back width) (back p) × OnRange (pos 0) (back width) (back q)) → Decides b (OnRange (pos 0) width p × OnRange (pos 0) width q)
told {b} {width} {p} {q} f i j d =
    subst (λ w. Decides b (OnRange (pos 0) w p × OnRange (pos 0) w q)) (to_z-of_z f)
    (subst (λ z. Decides b (OnRange (pos 0) (back width) p × OnRange (pos 0) (back width) z)) (back_is tt j)
    (subst (λ z. Decides b (OnRange (pos 0) (back width) z × OnRange (pos 0) (back width) (back q))) (back_is tt i) d))

pub returns-then-lie_across : goal.returns-then-lie_across
returns-then-lie_across c =
    let m = c.requires in
    let x = told c.ranges.width m.x0 m.x1 c.lie_across.ensures in
    let y = told c.ranges.width m.y0 m.y1 c.lie_across-then-lie_across.ensures in
    record {
      yes = λ t. let a = x.yes c.if-lie_across.true in
          let b = y.yes t in
          record { x0 = a.0; y0 = b.0; x1 = a.1; y1 = b.1 };
      no = λ t o. y.no t (o.y0, o.y1);
    }

pub returns-else-lie_across : goal.returns-else-lie_across
returns-else-lie_across c =
    let m = c.requires in
    let x = told c.ranges.width m.x0 m.x1 c.lie_across.ensures in
    record { yes = λ t. absurd (true≢false (sym t ∙ c.if-lie_across.false)); no = λ t o. x.no t (o.x0, o.x1) }
