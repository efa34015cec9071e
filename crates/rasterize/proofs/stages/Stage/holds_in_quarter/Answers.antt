-- In one half both ways, or not in x.
use Rattle.std.proofs.Common.{sym, ◌∙◌, subst, Bool, true≢false, ℤ, pos, ◌-ℤ◌, ◌≤ℤ◌}
use Rattle.integers.specs.Magnitude.{abs}
use Rattle.integers.specs.Within.{Within}
use Rattle.integers.specs.Bits.{back}
use Rattle.integers.proofs.Theorems.Bits.{back_is}
use Rattle.integers.proofs.Theorems.Held.{held_number, held_sub, held_back}
use Rattle.edge.specs.Room.{coordinate_limit, extent_limit}
use Rattle.edge.specs.WalkOf.{Decides}
use Rattle.rasterize.proofs.stages.Stage.holds_in_quarter.Goals as goal

-- What `lies_in_half` says of one direction, without bits: from p to q, and how far both lie before the middle.
told : {p q u : ℤ} {b : Bool} → Within (pos coordinate_limit) p → Within (pos coordinate_limit) q → Within (pos extent_limit) u
    → Decides b (abs (back (back q -ℤ back p)) ≤ℤ abs (back u)) → Decides b (abs (q -ℤ p) ≤ℤ abs u)
told {p} {q} {u} {b} i j k d =
    subst (λ z. Decides b (abs (q -ℤ p) ≤ℤ abs z)) (back_is tt k)
    (subst (λ z. Decides b (abs z ≤ℤ abs (back u))) (held_back tt (held_sub (held_number tt j) (held_number tt i))).is d)

pub returns-then-lies_in_half : goal.returns-then-lies_in_half
returns-then-lies_in_half c =
    let r = c.requires in
    let x = told r.1.x0 r.1.x1 r.0.left c.lies_in_half.ensures in
    let y = told r.1.y0 r.1.y1 r.0.above c.lies_in_half-then-lies_in_half.ensures in
    record { yes = λ e. (x.yes c.if-lies_in_half.true, y.yes e); no = λ e o. y.no e o.1 }

pub returns-else-lies_in_half : goal.returns-else-lies_in_half
returns-else-lies_in_half c =
    let r = c.requires in
    let x = told r.1.x0 r.1.x1 r.0.left c.lies_in_half.ensures in
    record { yes = λ t. absurd (true≢false (sym t ∙ c.if-lies_in_half.false)); no = λ t o. x.no t o.0 }
