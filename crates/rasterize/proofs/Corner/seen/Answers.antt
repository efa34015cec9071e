-- Four differences of coordinates, each of which is in `edge`'s range.
use Rattle.std.proofs.Common.{◌≡◌, ◌∙◌, ap₂, ℤ, pos, ◌-ℤ◌, SFits, w64, to_z-of_z, rules}
use Rattle.integers.specs.Within.{Within}
use Rattle.integers.specs.Bits.{back}
use Rattle.integers.proofs.Theorems.Held.{held_back}
use Rattle.edge.specs.declared.Edge.{Edge}
use Rattle.edge.specs.Room.{coordinate_limit}
use Rattle.rasterize.proofs.Corner.seen.Goals as goal

-- of two fields, as they are read back
less : {a b : ℤ} → SFits w64 a → SFits w64 b → Within (pos coordinate_limit) (a -ℤ b) → back (back a -ℤ back b) ≡ a -ℤ b
less f g w = (held_back tt (record { is = ap₂ ◌-ℤ◌ (to_z-of_z f) (to_z-of_z g); within = w })).is

abbrev edge : ℤ → ℤ → ℤ → ℤ → Edge
edge x0 y0 x1 y1 = record { x0 = x0; y0 = y0; x1 = x1; y1 = y1 }

edge-eq : {x0 y0 x1 y1 a b c d : ℤ} → x0 ≡ a → y0 ≡ b → x1 ≡ c → y1 ≡ d → edge x0 y0 x1 y1 ≡ edge a b c d
edge-eq {x0} {y0} {x1} {y1} {a} {b} e f g h = ap₂ (λ x y. edge x y x1 y1) e f ∙ ap₂ (edge a b) g h

pub returns : goal.returns
returns c =
    let e = c.args.e in
    let o = c.args.self in
    let m = c.requires in
    let f : SFits w64 o.x = search rules in
    let g : SFits w64 o.y = search rules in
    edge-eq (less {a = e.x0} (search rules) f m.x0) (less {a = e.y0} (search rules) g m.y0) (less {a = e.x1} (search rules) f m.x1)
    (less {a = e.y1} (search rules) g m.y1)
