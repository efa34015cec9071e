-- The walk of an edge: its steps lie strictly inside a cell just where some part of the edge does.
--
-- Main results
--   span_of_inside, inside_of_span        first < last just where the edge comes strictly inside
--   unit_x_steady, unit_y_steady          the directions of the unit walk are `Steady`
--   span_decides                          the same as the answer of a test
use Rattle.std.proofs.Math.Path.{subst⁻¹}
use Rattle.std.specs.Prelude.{◌<ℤ◌, [], ◌∷◌}
use Rattle.std.specs.Int.Signed.{lt_z}
use Rattle.integers.proofs.Theorems.Order.{nonneg, lt_z-true, lt_z-false}
use Rattle.integers.proofs.Theorems.Linear.{le, lt, ◌&◌, linear, lin⊥}
use Rattle.edge.specs.declared.Cell.{Cell}
use Rattle.edge.specs.declared.Edge.{Edge}
use Rattle.edge.specs.Walk.{dx, dy, x_axis, y_axis}
use Rattle.edge.specs.Inside.{Inside}
use Rattle.edge.proofs.Lemmas.Ends.{Steady, direction, x_steady, y_steady}
use Rattle.edge.specs.Cuts.{span}
use Rattle.edge.proofs.Lemmas.Crossings.{span-inside, inside-span}
use Rattle.edge.specs.Octilinear.{unit_x, unit_y}
use Rattle.edge.proofs.Laws.OctilinearEdges.{octilinear_inside, octilinear_inside_unit}
use Rattle.edge.specs.WalkOf.{Course, IsWalk, fine, unit, Decides}

pub unit_x_steady : (e : Edge) → Steady (unit_x e)
unit_x_steady e = record { scaled = nonneg 1; signed = direction (dx e) }

pub unit_y_steady : (e : Edge) → Steady (unit_y e)
unit_y_steady e = record { scaled = nonneg 1; signed = direction (dy e) }

abbrev Comes : Course → Cell → Type 0
Comes w c = (span w.x w.y c w.steps).first <ℤ (span w.x w.y c w.steps).last

pub inside_of_span : {w : Course} → IsWalk w → (c : Cell) → (span w.x w.y c w.steps).first <ℤ (span w.x w.y c w.steps).last → Inside w.edge c
inside_of_span {w} (fine o e) c =
    subst⁻¹ (λ z. Comes z c → Inside w.edge c) e (span-inside (x_axis w.edge) (y_axis w.edge) (x_steady w.edge) (y_steady w.edge) c)
inside_of_span {w} (unit s e) c =
    subst⁻¹ (λ z. Comes z c → Inside w.edge c) e
    (λ h. octilinear_inside s c (span-inside (unit_x w.edge) (unit_y w.edge) (unit_x_steady w.edge) (unit_y_steady w.edge) c h))

pub span_of_inside : {w : Course} → IsWalk w → (c : Cell) → Inside w.edge c → (span w.x w.y c w.steps).first <ℤ (span w.x w.y c w.steps).last
span_of_inside {w} (fine o e) c i =
    subst⁻¹ (λ z. Comes z c) e (inside-span (x_axis w.edge) (y_axis w.edge) (x_steady w.edge) (y_steady w.edge) c i)
span_of_inside {w} (unit s e) c i =
    subst⁻¹ (λ z. Comes z c) e (inside-span (unit_x w.edge) (unit_y w.edge) (unit_x_steady w.edge) (unit_y_steady w.edge) c (octilinear_inside_unit s c i))

pub span_decides : {w : Course} → IsWalk w → (c : Cell) → Decides (lt_z (span w.x w.y c w.steps).first (span w.x w.y c w.steps).last) (Inside w.edge c)
span_decides {w} k c = record {
  yes = λ e. inside_of_span k c (lt_z-true e);
  no = λ e i.
      let p = (span w.x w.y c w.steps).first in
      let q = (span w.x w.y c w.steps).last in
      lin⊥ (p ∷ q ∷ []) (le (lt_z-false {a = p} {b = q} e) & lt (span_of_inside k c i)) (search linear depth 40) tt;
}
