-- Edge by edge, as long as they lie on the cell.
use Rattle.std.proofs.Common.{◌≡◌, ℕ, ◌+◌, ◌*◌, ◌/◌, ◌<◌, ◌≤◌, ◌-◌, Bool, true, false, List, length, ℤ, pos, ◌+ℤ◌, refl, sym, ap, ap₂, ◌∙◌, subst, arith, pow_mono}
use Rattle.std.proofs.Math.Path.{subst⁻¹}
use Rattle.integers.specs.Units.{greatest_depth, detail_limit}
use Rattle.integers.proofs.Theorems.Within.{within_le}
use Rattle.integers.proofs.Theorems.Order.{pos-≤ℤ}
use Rattle.integers.specs.Bits.{back}
use Rattle.integers.proofs.Theorems.Bits.{back_is, result_is}
use Rattle.integers.specs.Held.{Held}
use Rattle.integers.proofs.Theorems.Held.{held_number, held-add, held_fits, held_back}
use Rattle.edge.specs.declared.Edge.{Edge}
use Rattle.edge.specs.Room.{Measured}
use Rattle.edge.specs.Rounded.{root_term}
use Rattle.edge.specs.Nested.{OnRange, OnCell}
use Rattle.edge.specs.WalkOf.{Decides}
use Rattle.accuracy.specs.Outline.{point_at}
use Rattle.placement.specs.Coordinates.{coordinates, point_count}
use Rattle.rasterize.specs.declared.Spot.{Spot}
use Rattle.contours.specs.declared.Run.{Run}
use Rattle.contours.specs.Contour.{edge_of}
use Rattle.contours.specs.Runs.{longest_run, run_square, RunReady, chord_of, Along}
use Rattle.contours.specs.Laws.RunCells.{SmallEdge, on_cell_small}
use Rattle.contours.proofs.CellTests.{on_back}
use Rattle.contours.proofs.ContourLoop.{of_all}
use Rattle.contours.proofs.RunLoop.{run_measured, along_start, along_starts, along_on, along_small, along_asks, along-step}
use Rattle.contours.proofs.add_along.Goals as goal

run-eq : {n n' : ℕ} {x x' y y' z z' : ℤ} → n ≡ n' → x ≡ x' → y ≡ y' → z ≡ z'
    → ◌≡◌ {A = Run} (record { next = n; x = x; y = y; sum = z }) (record { next = n'; x = x'; y = y'; sum = z' })
run-eq {n} {n'} {x} {x'} {y} {y'} {z} {z'} i j k l =
    ap₂ (λ a b. record { next = a; x = b; y = y; sum = z }) i j ∙ ap₂ (λ a b. record { next = n'; x = x'; y = a; sum = b }) k l

-- a number that is not the least of its range is above it
lt_of_le_of_ne : {m n : ℕ} → m ≤ n → (m ≡ n → ⊥) → m < n
lt_of_le_of_ne {m} {n} h out = omega (arith, h, out)

module _ {t points : List ℤ} {depth k : ℕ} {c : Spot} (ready : RunReady t points depth k c) {table : List ℤ} {r : Run} (l : Along depth points k c t table r)
    (h : r.next < length points / 2) where
  -- the run's last point lies on the cell
  near : SmallEdge (chord_of points k r)
  near = on_cell_small c ready.x_below ready.y_below (omega (arith, ready.level, ready.shallow)) l.on

  starts_x : back r.x ≡ (point_at points r.next).x
  starts_x = back_is tt near.x1 ∙ ap (λ p. p.x) (along_starts ready l h)

  starts_y : back r.y ≡ (point_at points r.next).y
  starts_y = back_is tt near.y1 ∙ ap (λ p. p.y) (along_starts ready l h)

  -- the next edge
  module _ {e : Edge} (w : e ≡ edge_of points (length points / 2) r.next) where
    measured : Measured e
    measured = run_measured ready h w

    on_cell : {b : Bool} → Decides b (OnRange (run_square c).left (run_square c).width (back e.x1) × OnRange (run_square c).top (run_square c).width (back e.y1))
        → b ≡ true → OnCell (run_square c) e
    on_cell d s = along_on ready l h w ((on_back (run_square c) measured.x1 measured.y1 d).yes s)

    off_cell : {b : Bool} → Decides b (OnRange (run_square c).left (run_square c).width (back e.x1) × OnRange (run_square c).top (run_square c).width (back e.y1))
        → b ≡ false → OnCell (run_square c) e → ⊥
    off_cell d s o = (on_back (run_square c) measured.x1 measured.y1 d).no s (o.x1, o.y1)

    -- the first edge lies on the cell, so one that does not is a later one
    moved_on : (OnCell (run_square c) e → ⊥) → k ≡ r.next → ⊥
    moved_on out same =
        out (subst⁻¹ (OnCell (run_square c)) w (subst (λ m. OnCell (run_square c) (edge_of points (length points / 2) m)) same ready.on))

    sum : {z : ℤ} → OnCell (run_square c) e → z ≡ root_term e → Held (longest_run * detail_limit + detail_limit) (back r.sum +ℤ z) (r.sum +ℤ root_term e)
    sum {z} o i =
        let few : r.next - k ≤ longest_run = omega (arith, l.short) in
        held-add {a = longest_run * detail_limit} (held_number tt (within_le (pos-≤ℤ (omega (arith, few))) l.sums))
        (record { is = i; within = along_small ready l h w o })

pub loop-next-init : goal.loop-next-init
loop-next-init c =
    let ready = c.requires.0 in
    let m = run_measured ready ready.from c.requires.1 in
    record {
      along = along_start ready c.requires.1 (ap₂ (λ x y. record { next = c.args.k; x = x; y = y; sum = pos 0 }) (back_is tt m.x0) (back_is tt m.y0));
      is_next = refl;
    }

pub edge_to_next-e-requires : goal.edge_to_next-e-requires
edge_to_next-e-requires c =
    let l = c.loop-next.invariant in
    let h : c.loop-next.r.next < point_count c.args.points.now = omega arith in
    let points = coordinates c.args.points.now in (
      omega arith,
      omega (arith, c.count-n.ensures),
      starts_x c.requires.0 l.along h ∙ ap (λ j. (point_at points j).x) l.is_next,
      starts_y c.requires.0 l.along h ∙ ap (λ j. (point_at points j).y) l.is_next,
    )

pub is_on_cell-requires : goal.is_on_cell-requires
is_on_cell-requires c =
    let r = c.requires.0 in
    let m = pow_mono {i = c.args.c.level} {j = greatest_depth} (omega (arith, r.level, r.shallow)) in
    (omega (arith, r.x_below, m), omega (arith, r.y_below, m))

pub returns-then-not-is_on_cell : goal.returns-then-not-is_on_cell
returns-then-not-is_on_cell c =
    let l = c.loop-next.invariant in
    let h : c.loop-next.r.next < point_count c.args.points.now = omega arith in
    let w = of_all (coordinates c.args.points.now) c.loop-next.next c.edge_to_next-e.ensures c.count-n.ensures ∙ ap (edge_of (coordinates c.args.points.now) (point_count c.args.points.now)) (sym l.is_next) in
    let out = moved_on c.requires.0 l.along h w (off_cell c.requires.0 l.along h w c.is_on_cell.ensures c.if-not-is_on_cell.true) in
    (l.along, lt_of_le_of_ne l.along.from out)

pub add_within-requires : goal.add_within-requires
add_within-requires c =
    let l = c.loop-next.invariant in
    let h : c.loop-next.r.next < point_count c.args.points.now = omega arith in
    let w = of_all (coordinates c.args.points.now) c.loop-next.next c.edge_to_next-e.ensures c.count-n.ensures ∙ ap (edge_of (coordinates c.args.points.now) (point_count c.args.points.now)) (sym l.is_next) in
    along_asks c.requires.0 l.along h w (on_cell c.requires.0 l.along h w c.is_on_cell.ensures c.if-not-is_on_cell.false)

pub root_term-requires : goal.root_term-requires
root_term-requires c =
    let h : c.loop-next.next < point_count c.args.points.now = omega arith in
    run_measured c.requires.0 h (of_all (coordinates c.args.points.now) c.loop-next.next c.edge_to_next-e.ensures c.count-n.ensures)

pub overflow_add-r-in-loop-next : goal.overflow_add-r-in-loop-next
overflow_add-r-in-loop-next c =
    let l = c.loop-next.invariant in
    let h : c.loop-next.r.next < point_count c.args.points.now = omega arith in
    let w = of_all (coordinates c.args.points.now) c.loop-next.next c.edge_to_next-e.ensures c.count-n.ensures ∙ ap (edge_of (coordinates c.args.points.now) (point_count c.args.points.now)) (sym l.is_next) in
    let o = on_cell c.requires.0 l.along h w c.is_on_cell.ensures c.if-not-is_on_cell.false in
    held_fits tt (sum c.requires.0 l.along h w o (result_is c.root_term.type_inv c.root_term.ensures))

pub loop-next-preserved : goal.loop-next-preserved
loop-next-preserved c =
    let l = c.loop-next.invariant in
    let h : c.loop-next.r.next < point_count c.args.points.now = omega arith in
    let w = of_all (coordinates c.args.points.now) c.loop-next.next c.edge_to_next-e.ensures c.count-n.ensures ∙ ap (edge_of (coordinates c.args.points.now) (point_count c.args.points.now)) (sym l.is_next) in
    let o = on_cell c.requires.0 l.along h w c.is_on_cell.ensures c.if-not-is_on_cell.false in
    let m = measured c.requires.0 l.along h w in
    let s = sum c.requires.0 l.along h w o (result_is c.root_term.type_inv c.root_term.ensures) in
    record {
      along = along-step c.requires.0 l.along h w o (omega arith) c.add_within.ensures
          (run-eq (ap (λ n. n + 1) (sym l.is_next)) (back_is tt m.x1) (back_is tt m.y1) (held_back tt s).is);
      is_next = refl;
    }
