-- Laws of what specs/OutlineTable.antt defines. The head of that file lists the main results.
use Rattle.std.specs.Prelude.{◌≡◌, refl, [], ◌∷◌, pos}
use Rattle.integers.specs.MinMax.{min, max}
use Rattle.integers.specs.Clamp.{clamp}
use Rattle.integers.specs.RangeSum.{Σ<}
use Rattle.integers.specs.Trapezoid.{S}
use Rattle.integers.specs.Rounding.{nearestℕ, round_half_away}
use Rattle.integers.specs.Fraction.{common, numer}
use Rattle.integers.specs.ListSum.{total}
use Rattle.edge.specs.declared.Edge.{Edge}
use Rattle.edge.specs.Walk.{extent, sign}
use Rattle.edge.specs.Integrals.{area_num}
use Rattle.edge.specs.Rounded.{root_term, rounded_area}
use Rattle.accuracy.specs.OutlineTable.{tile_root}

-- Two checks, on a tile of one pixel. An edge to the right of it counts, with the pixel's whole width: one that runs a step down there has 256 square steps, 512
-- units. And each edge's part is rounded on its own: two of 511 1/2 units come to 1,024. (`numer`, `common` and `root_term` are
-- unfolded so that a root that is wrong, by one rounding or by the signed area, is refused by its value.)
abbrev beside : Edge
beside = record { x0 = pos 600; y0 = pos 0; x1 = pos 600; y1 = pos 1 }

abbrev across : Edge
across = record { x0 = pos 255; y0 = pos 0; x1 = pos 257; y1 = pos 1 }

edge-beside-counts : tile_root 0 (beside ∷ []) ≡ pos 512
unfolding total rounded_area area_num extent sign S Σ< clamp min max round_half_away nearestℕ numer common root_term
edge-beside-counts = refl

each_part_rounded : tile_root 0 (across ∷ across ∷ []) ≡ pos 1024
unfolding total rounded_area area_num extent sign S Σ< clamp min max round_half_away nearestℕ numer common root_term
each_part_rounded = refl
