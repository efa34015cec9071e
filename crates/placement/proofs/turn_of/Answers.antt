-- A shift and a scale are turns: their other numbers are 1 and 0.
use Rattle.std.proofs.Common.{◌≡◌, ap}
use Rattle.std.proofs.Math.Path.{subst⁻¹}
use Rattle.std.specs.Float.Ieee.{of_bits}
use Rattle.placement.specs.Parts.{nearest}
use Rattle.placement.specs.Ready.{TurnsAs}
use Rattle.placement.proofs.Laws.Turns.{shift_ready, scale_ready, shift_x, shift_y, scale_x, scale_y}
use Rattle.placement.specs.declared.Matrix.{Matrix}
use Rattle.placement.specs.declared.Placement.{Placement}
use Rattle.placement.proofs.turn_of.Goals as goal

-- p is the placement of the call, and q what an arm has found it to be
found : {p q : Placement} (m : Matrix) → p ≡ q → TurnsAs q m → TurnsAs p m
found m e t = subst⁻¹ (λ (r : Placement). TurnsAs r m) e t

pub returns-in-Shift : goal.returns-in-Shift
unfolding of_bits
returns-in-Shift c =
    let u = c.in-Shift.u in
    let v = c.in-Shift.v in
    found _ c.in-Shift.is (record { ready = λ x y. shift_ready u v; across = λ x y. ap nearest (shift_x u x y); down = λ x y. ap nearest (shift_y v x y) })

pub returns-in-Scale : goal.returns-in-Scale
unfolding of_bits
returns-in-Scale c =
    let s = c.in-Scale.s in
    found _ c.in-Scale.is (record { ready = λ x y. scale_ready s; across = λ x y. ap nearest (scale_x s x y); down = λ x y. ap nearest (scale_y s x y) })
