-- The root's grey alone, or the figures of the level above and then the greys.
use Rattle.std.proofs.Common.{◌≡◌, refl, sym, ◌∙◌, ap, List, ℕ, ◌-◌, ◌^◌, ◌≤◌, set, length-set, ℤ, arith, lit≤}
use Rattle.std.proofs.Math.Nat.{pow-zero, pow-le-pow_right}
use Rattle.std.proofs.Math.Seq.{take_all}
use Rattle.integers.specs.Units.{greatest_depth}
use Rattle.haar.specs.Greys.{grey_of}
use Rattle.haar.specs.Cells.{children}
use Rattle.haar.specs.Plane.{dimensions, figure_in, picture_in}
use Rattle.haar.specs.Drawable.{DrawablePicture}
use Rattle.haar.proofs.Stacking.{root-picture}
use Rattle.haar.proofs.greys.Goals as goal

-- a picture of level 0 has one place
picture_room : {entries : List ℤ} {level room : ℕ} → DrawablePicture entries level room → level ≡ 0 → room ≡ 1
picture_room d e = d.exact ∙ ap (λ k. children dimensions ^ k) e ∙ pow-zero (children dimensions)

pub returns-then-level-eq0 : goal.returns-then-level-eq0
returns-then-level-eq0 c =
    let e = c.if-level-eq0.true in
    let p = c.args.picture.now in
    let g = grey_of (2 ^ c.args.depth) in
    let v = g (figure_in c.args.table.now 0 0 0) in
    let one = picture_room c.requires.0 e in
    c.grey_root.ensures ∙ sym (take_all 1 (set p 0 v) (omega (arith, length-set p 0 v)))
    ∙ root-picture 0 g c.args.table.now p (omega arith) refl ∙ ap (picture_in g c.args.table.now) (sym e)

-- the cells of the level above
above_few : (level most : ℕ) → level - 1 ≤ most → children dimensions ^ (level - 1) ≤ children dimensions ^ most
above_few level most h = pow-le-pow_right {n = children dimensions} (omega arith) h

pub greys_in-requires-clause-places : goal.greys_in-requires-clause-places
greys_in-requires-clause-places c = (above_few c.args.level 3 (omega arith), lit≤ tt)

pub greys_in-requires-else-level-le-SHALLOW-clause-places : goal.greys_in-requires-else-level-le-SHALLOW-clause-places
greys_in-requires-else-level-le-SHALLOW-clause-places c = (above_few c.args.level (greatest_depth - 1) (omega (arith, c.requires.0.drawable.shallow)), lit≤ tt)
