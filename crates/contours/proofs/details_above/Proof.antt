-- The details of the chord, and the area with its signs.
use mathlib.Core.Path.{◌≡◌, ◌∙◌, ap, ap₂}
use mathlib.Core.List.{[], ◌∷◌}
use Prim.Native.Nat.{ℕ, zero, suc, ◌+◌, ◌*◌, ◌^◌, ◌<◌, ◌≤◌}
use native.Mathlib.Omega.{arith}
use lib.IntN.{ℤ, pos, ◌+ℤ◌, ◌-ℤ◌, ◌*ℤ◌}
use lib.Signed.{mag}
use Rattle.integers.specs.Units.{greatest_side, greatest_coordinate}
use Rattle.integers.specs.HalfSign.{half_sign}
use Rattle.integers.proofs.Theorems.HalfSign.{half_sign_cases}
use Rattle.integers.proofs.Theorems.Order.{pos-≤ℤ, nonneg}
use Rattle.integers.proofs.Theorems.Ring.{read, ring}
use Rattle.integers.specs.Within.{Within}
use Rattle.integers.proofs.Theorems.Within.{within_le, within_self, within_add, within_sub, within_mul, within_sign}
use Rattle.integers.specs.Bits.{back}
use Rattle.integers.proofs.Theorems.Bits.{back_is, within_back, fits_within, result_is}
use Rattle.integers.specs.Held.{Held}
use Rattle.integers.proofs.Theorems.Held.{held_number, held-add, held_sub, held-mul, held_fits, held_back, held_within}
use Rattle.edge.specs.Walk.{dx, dy}
use Rattle.edge.specs.Code.{turned}
use Rattle.edge.proofs.Lemmas.Records.{details-eq}
use Rattle.contours.specs.Runs.{longest_run, triangle_limit, from_half}
use Rattle.contours.proofs.details_above.Statement.{statement}
use Rattle.contours.proofs.details_above.Tie as tie

abbrev areaLimit : ℕ
areaLimit = longest_run * triangle_limit

-- how far two points on the tile lie from a line on it, at most
abbrev far_limit : ℕ
far_limit = (greatest_side * greatest_coordinate + greatest_coordinate) + (greatest_side * greatest_coordinate + greatest_coordinate) + (greatest_coordinate + greatest_coordinate)

far_within : {n : ℕ} {w p q : ℤ} (i : ℕ) → n < greatest_side → Within (pos greatest_coordinate) w → Within (pos greatest_coordinate) p → Within (pos greatest_coordinate) q
    → Within (pos far_limit) (from_half i (pos n *ℤ w) w p q)
far_within {n} zero h w p q =
    let k = within_le (pos-≤ℤ (let l : n ≤ greatest_side = omega arith in l)) (within_self (nonneg n)) in
    let s = within_mul k w in
    within_le (pos-≤ℤ (omega arith)) (within_sub (within_add p q) (within_add s s))
far_within {n} (suc i) h w p q =
    let k = within_le (pos-≤ℤ (let l : n ≤ greatest_side = omega arith in l)) (within_self (nonneg n)) in
    let s = within_add (within_mul k w) w in
    within_sub (within_add s s) (within_add p q)

module _ (s : tie.Start) where
  again : {z : ℤ} → Within (pos greatest_coordinate) z → Within (pos greatest_coordinate) (back z)
  again i = within_back (fits_within tt i) i

  w-is : back s.args.w ≡ s.args.w
  w-is = back_is tt s.requires.4

  -- what `from_side` answers
  far : {r p q : ℤ} (n i : ℕ) → n < greatest_side → Within (pos greatest_coordinate) p → Within (pos greatest_coordinate) q → mag r < 2 ^ 63
      → r ≡ from_half i (pos n *ℤ back s.args.w) (back s.args.w) (back p) (back q) → Held far_limit (back r) (from_half i (pos n *ℤ s.args.w) s.args.w p q)
  far {r} {p} {q} n i h j k l e = record {
    is = result_is l (e ∙ ap (λ z. from_half i (pos n *ℤ z) z (back p) (back q)) w-is ∙ ap₂ (from_half i (pos n *ℤ s.args.w) s.args.w) (back_is tt j) (back_is tt k));
    within = far_within i h s.requires.4 j k;
  }

  run : {p q : ℤ} → Within (pos greatest_coordinate) p → Within (pos greatest_coordinate) q → Held (greatest_coordinate + greatest_coordinate) (back q -ℤ back p) (q -ℤ p)
  run i j = held_sub (held_number tt j) (held_number tt i)

  area : Held areaLimit (back s.args.area) s.args.area
  area = held_number tt s.requires.1

  area-asked : (i : ℕ) → i < 2 → Within (pos (2 ^ 40)) (back s.args.area) × (i < 2)
  area-asked i h = (within_le (pos-≤ℤ (omega arith)) (held_within area), h)

  -- what `signed_in` answers of the area
  signed : {r : ℤ} (i : ℕ) → i < 2 → mag r < 2 ^ 63 → r ≡ half_sign i *ℤ back s.args.area → Held areaLimit (back r) (half_sign i *ℤ s.args.area)
  signed i h k e = record { is = result_is k (e ∙ ap (λ z. half_sign i *ℤ z) area.is); within = within_sign (half_sign_cases i h) s.requires.1 }

abbrev product_limit : ℕ
product_limit = far_limit * (greatest_coordinate + greatest_coordinate)

-- ---- how far x lies from its side, times the run of y
module _ (c : tie.After-from_side) where
  abbrev s : tie.Start
  s = c.before.before.before

  across : Held product_limit (back c.from_side.result *ℤ back (back s.args.e.y1 -ℤ back s.args.e.y0))
      (from_half s.args.i (pos s.args.c.x *ℤ s.args.w) s.args.w s.args.e.x0 s.args.e.x1 *ℤ dy s.args.e)
  across = let m = s.requires.0 in
      held-mul (far s s.args.c.x s.args.i s.requires.2 m.x0 m.x1 c.from_side.type_inv c.from_side.ensures) (held_back tt (run s m.y0 m.y1))

module _ (c : tie.After-from_side-2) where
  abbrev first : tie.After-from_side
  first = c.before.before.before.before.before

  down : Held product_limit (back c.from_side-2.result *ℤ back (back (s first).args.e.x1 -ℤ back (s first).args.e.x0))
      (from_half (s first).args.j (pos (s first).args.c.y *ℤ (s first).args.w) (s first).args.w (s first).args.e.y0 (s first).args.e.y1 *ℤ dx (s first).args.e)
  down = let z = s first in
      let m = z.requires.0 in
      held-mul (far z z.args.c.y z.args.j z.requires.3 m.y0 m.y1 c.from_side-2.type_inv c.from_side-2.ensures) (held_back tt (run z m.x0 m.x1))

-- ---- with the area
module _ (c : tie.After-signed_in) where
  abbrev second : tie.After-from_side-2
  second = c.before.before.before

  abbrev z : tie.Start
  z = s (first second)

  h-held : Held (product_limit + areaLimit)
      (back (back (first second).from_side.result *ℤ back (back z.args.e.y1 -ℤ back z.args.e.y0)) +ℤ back c.signed_in.result)
      (from_half z.args.i (pos z.args.c.x *ℤ z.args.w) z.args.w z.args.e.x0 z.args.e.x1 *ℤ dy z.args.e +ℤ half_sign z.args.i *ℤ z.args.area)
  h-held = held-add (held_back tt (across (first second))) (signed z z.args.i z.requires.5 c.signed_in.type_inv c.signed_in.ensures)

module _ (c : tie.After-signed_in-2) where
  abbrev third : tie.After-signed_in
  third = c.before

  abbrev y : tie.Start
  y = z third

  v-held : Held (areaLimit + product_limit)
      (back c.signed_in-2.result -ℤ back (back (second third).from_side-2.result *ℤ back (back y.args.e.x1 -ℤ back y.args.e.x0)))
      (half_sign y.args.j *ℤ y.args.area -ℤ from_half y.args.j (pos y.args.c.y *ℤ y.args.w) y.args.w y.args.e.y0 y.args.e.y1 *ℤ dx y.args.e)
  v-held = held_sub (signed y y.args.j y.requires.6 c.signed_in-2.type_inv c.signed_in-2.ensures) (held_back tt (down (second third)))

-- the sign of the lower half goes through the sum
turned-sum : (i j : ℕ) → j < 2 → (h a : ℤ) → half_sign j *ℤ (h +ℤ half_sign i *ℤ a) ≡ turned j h +ℤ half_sign i *ℤ half_sign j *ℤ a
turned-sum i zero l h a = ring (h ∷ half_sign i ∷ a ∷ []) (search read depth 40) tt
turned-sum i (suc zero) l h a = ring (h ∷ half_sign i ∷ a ∷ []) (search read depth 40) tt
turned-sum i (suc (suc j)) l h a = absurd (omega arith)

returns : tie.Need-returns
returns c =
    let b = c.before in
    let t = third b in
    let q = y b in
    let i = q.args.i in
    let j = q.args.j in
    let h = from_half i (pos q.args.c.x *ℤ q.args.w) q.args.w q.args.e.x0 q.args.e.x1 *ℤ dy q.args.e in
    let v = from_half j (pos q.args.c.y *ℤ q.args.w) q.args.w q.args.e.y0 q.args.e.y1 *ℤ dx q.args.e in
    let k = half_sign j *ℤ q.args.area in
    details-eq (held_back tt (h-held t)).is ((held_back tt (v-held b)).is ∙ ring (v ∷ k ∷ []) (search read depth 40) tt)
    (result_is c.signed_in-3.type_inv c.signed_in-3.ensures ∙ ap (λ z. half_sign j *ℤ z) (held_back tt (h-held t)).is ∙ turned-sum i j q.requires.6 h q.args.area)

pub details_above_spec : {M : Type 1} → statement M
details_above_spec =
    tie.close
    (tie.spec
    (λ c κs. let s = c.before.before in (again s s.requires.0.x0, again s s.requires.0.x1, s.requires.2, again s s.requires.4, s.requires.5))
    (λ c. let z = s c.before.before in held_fits tt (run z z.requires.0.y0 z.requires.0.y1))
    (λ c. held_fits tt (across c.before.before))
    (λ c κs. let s = c.before.before.before.before.before.before.before in (again s s.requires.0.y0, again s s.requires.0.y1, s.requires.3, again s s.requires.4, s.requires.6))
    (λ c. let z = s (first c.before.before) in held_fits tt (run z z.requires.0.x0 z.requires.0.x1))
    (λ c. held_fits tt (down c.before.before))
    (λ c κs. let z = s (first c.before.before) in area-asked z z.args.i z.requires.5)
    (λ c. held_fits tt (h-held c))
    (λ c κs. area-asked (z c) (z c).args.j (z c).requires.6)
    (λ c. held_fits tt (v-held c))
    (λ c κs. (within_le (pos-≤ℤ (omega arith)) (held_within (held_back tt (h-held (third c)))), (y c).requires.6))
    returns)
