-- The run's edges in its cell and below, and its chord and area above.
use Rattle.std.proofs.Common.{◌≡◌, ℕ, ◌*◌, ◌-◌, ◌/◌, ◌≤◌, List, length, ℤ, ◌-ℤ◌, ap, ap₂, ◌∙◌, arith}
use Rattle.std.proofs.Math.Path.{subst⁻¹}
use Rattle.integers.specs.Units.{greatest_coordinate, detail_limit}
use Rattle.integers.proofs.Theorems.Order.{pos-≤ℤ}
use Rattle.integers.proofs.Theorems.Within.{within_le}
use Rattle.integers.specs.Bits.{back}
use Rattle.integers.proofs.Theorems.Bits.{back_is, result_is}
use Rattle.integers.specs.Held.{Held}
use Rattle.integers.proofs.Theorems.Held.{held_fits, held_back, held_within}
use Rattle.edge.specs.declared.Edge.{Edge}
use Rattle.edge.specs.Room.{coordinate_limit, Measured}
use Rattle.edge.specs.Rounded.{root_term}
use Rattle.edge.specs.Nested.{OnCell}
use Rattle.rasterize.specs.declared.Spot.{Spot}
use Rattle.rasterize.specs.Added.{added}
use Rattle.rasterize.specs.Ready.{visits}
use Rattle.rasterize.proofs.Laws.Spare.{spare_le}
use Rattle.contours.specs.declared.Run.{Run}
use Rattle.contours.specs.Contour.{edge_of}
use Rattle.contours.specs.Runs.{longest_run, triangle_limit, run_square, above, RunReady, chord_of, Along}
use Rattle.contours.specs.Laws.RunCells.{SmallEdge, on_cell_small}
use Rattle.contours.proofs.RunLoop.{along_long}
use Rattle.contours.proofs.add_run.Goals as goal

edge-eq : {a a' b b' c c' d d' : ℤ} → a ≡ a' → b ≡ b' → c ≡ c' → d ≡ d'
    → ◌≡◌ {A = Edge} (record { x0 = a; y0 = b; x1 = c; y1 = d }) (record { x0 = a'; y0 = b'; x1 = c'; y1 = d' })
edge-eq {a} {a'} {b} {b'} {c} {c'} {d} {d'} i j k l =
    ap₂ (λ x y. record { x0 = x; y0 = y; x1 = c; y1 = d }) i j ∙ ap₂ (λ x y. record { x0 = a'; y0 = b'; x1 = x; y1 = y }) k l

-- ---- when the run's edges are added in its cell
module _ {t points : List ℤ} {depth k : ℕ} {c : Spot} (ready : RunReady t points depth k c) {table : List ℤ} {r : Run} (along : Along depth points k c t table r)
    {first : Edge} (first-is : first ≡ edge_of points (length points / 2) k) where
  few : r.next - k ≤ longest_run
  few = omega (arith, along.short)

  abbrev chord : Edge
  chord = chord_of points k r

  small : SmallEdge chord
  small = on_cell_small c ready.x_below ready.y_below (omega (arith, ready.level, ready.shallow)) along.on

  -- as the code has it
  abbrev built : Edge
  built = record {
    x0 = back first.x0;
    y0 = back first.y0;
    x1 = back r.x;
    y1 = back r.y;
  }

  chord-is : built ≡ chord
  chord-is =
      edge-eq (ap (λ (e : Edge). back e.x0) first-is ∙ back_is tt small.x0) (ap (λ (e : Edge). back e.y0) first-is ∙ back_is tt small.y0)
      (back_is tt small.x1) (back_is tt small.y1)

  measured : Measured built
  measured = subst⁻¹ Measured chord-is (let m = pos-≤ℤ (let n : greatest_coordinate ≤ coordinate_limit = omega arith in n) in
      record { x0 = within_le m small.x0; y0 = within_le m small.y0; x1 = within_le m small.x1; y1 = within_le m small.y1 })

  -- the area, z being the chord's root term
  module _ {z : ℤ} (i : z ≡ root_term built) where
    area : Held (longest_run * triangle_limit) (back r.sum -ℤ z) (r.sum -ℤ root_term chord)
    area = record {
      is = ap₂ ◌-ℤ◌ (back_is {b = longest_run * detail_limit} tt (within_le (pos-≤ℤ (omega (arith, few))) along.sums)) (i ∙ ap root_term chord-is);
      within = within_le (pos-≤ℤ (omega (arith, few))) along.small;
    }

    -- when it has its chord and its area too
    whole : {after : List ℤ} → after ≡ added table (above built (back (back r.sum -ℤ z)) depth c.level c.x c.y)
        → after ≡ added table (above chord (r.sum -ℤ root_term chord) depth c.level c.x c.y)
    whole e = e ∙ ap₂ (λ e m. added table (above e m depth c.level c.x c.y)) chord-is (held_back tt area).is

pub root_term-requires : goal.root_term-requires
root_term-requires c = measured c.requires.0 c.add_along-r.ensures.0 c.requires.1

pub overflow_sub-area : goal.overflow_sub-area
overflow_sub-area c = held_fits tt (area c.requires.0 c.add_along-r.ensures.0 c.requires.1 (result_is c.root_term.type_inv c.root_term.ensures))

pub add_above-requires : goal.add_above-requires
unfolding visits
add_above-requires c =
    let g = c.requires.0 in
    let l = c.add_along-r.ensures.0 in
    record {
      shallow = g.shallow;
      exact = along_long g l ∙ g.exact;
      level = g.level;
      x_below = g.x_below;
      y_below = g.y_below;
      on = subst⁻¹ (OnCell (run_square c.args.c)) (chord-is g l c.requires.1) l.on;
      small = held_within (held_back tt (area g l c.requires.1 (result_is c.root_term.type_inv c.root_term.ensures)));
      spare = spare_le (omega (arith, few g l c.requires.1)) l.spare;
    }

pub returns : goal.returns
returns c =
    let g = c.requires.0 in
    let l = c.add_along-r.ensures.0 in (
      omega (arith, c.add_along-r.ensures.1),
      omega (arith, l.from, l.to),
      whole g l c.requires.1 (result_is c.root_term.type_inv c.root_term.ensures) c.add_above.ensures ∙ l.rest,
    )
