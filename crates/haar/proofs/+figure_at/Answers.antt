-- The root's figure, or that of a child from its parent's.
use Rattle.std.proofs.Common.{◌≡◌, ◌≢◌, sym, ◌∙◌, ap, subst, ℕ, suc, ◌-◌, arith}
use Rattle.haar.specs.Plane.{figure_in}
use Rattle.haar.specs.Drawable.{DrawableCell}
use Rattle.haar.proofs.Above.{root_is, cell_above}
use Rattle.haar.proofs.+figure_at.Goals as goal

-- a level that is not 0 is the next one after another
above : (level : ℕ) → level ≢ 0 → level ≡ suc (level - 1)
above level h = omega arith

pub returns-then-level-eq0 : goal.returns-then-level-eq0
returns-then-level-eq0 t c =
    let a = c.args in
    root_is c.requires.drawable a.cx a.cy ∙ ap (λ l. figure_in a.table.now l a.cx a.cy) (sym c.if-level-eq0.true)

pub figure_at-f-requires : goal.figure_at-f-requires
figure_at-f-requires t c =
    let a = c.args in
    (omega arith, cell_above (subst (λ l. DrawableCell a.table.now l a.cx a.cy) (above a.level c.if-level-eq0.false) c.requires))
