-- The root is the tile's exact area: an edge on the tile has its term of the signed area there, and a term of its two end points, which cancels.
--
-- Main results
--   edges_whole                  of any square that the edges lie in
--   outline_whole                of the tile
use Rattle.std.specs.Prelude.{◌≡◌, List, [], ◌∷◌, ℕ, ℤ, pos, ◌+ℤ◌, ◌*ℤ◌}
use Rattle.std.proofs.Common.{◌∙◌, ap}
use Rattle.integers.proofs.Theorems.Ring.{read, ring, comb, ◌⊕◌, ◌⊗◌}
use Rattle.integers.specs.ListSum.{All, total}
use Rattle.integers.proofs.Theorems.ListSum.{all_map, total-add}
use Rattle.integers.specs.Fraction.{common, numer}
use Rattle.integers.proofs.Theorems.Fraction.{numer_cong, numer_whole}
use Rattle.edge.specs.declared.Edge.{Edge}
use Rattle.edge.specs.declared.Cell.{Cell as Square}
use Rattle.edge.specs.Walk.{steps}
use Rattle.edge.specs.Integrals.{area_num}
use Rattle.edge.specs.Rounded.{root_term}
use Rattle.edge.specs.Nested.{OnCell}
use Rattle.edge.proofs.Laws.WholeTile.{root_boundary, whole_tile}
use Rattle.haar.specs.Plane.{at}
use Rattle.accuracy.specs.Outline.{signed_area, gain, ClosedEdges}
use Rattle.accuracy.specs.Tile.{tile, ClosedOnTile}
use Rattle.accuracy.specs.ExactArea.{denominator, exact_area_num}
use Rattle.accuracy.proofs.Laws.OnTile.{on_cell}
use Rattle.accuracy.proofs.Laws.Squares.{square-tile}

pub edges_whole : {es : List Edge} → ClosedEdges es → (c : Square) → All (OnCell c) es → numer steps (λ e. area_num e c) es ≡ signed_area es *ℤ pos (denominator es)
edges_whole {es} closed c on =
    numer_cong steps (λ e. area_num e c) (λ e. term e *ℤ pos (steps e)) es (all_map each es on)
    ∙ numer_whole steps term es
    ∙ comb (total term es ∷ total root_term es ∷ total (gain (root_boundary c)) es ∷ pos (common steps es) ∷ [])
    (pos (common steps es) ⊗ total-add root_term (gain (root_boundary c)) es ⊕ pos (common steps es) ⊗ closed.cancels (root_boundary c)) (search read depth 40) tt
  where
    term : Edge → ℤ
    term e = root_term e +ℤ gain (root_boundary c) e

    each : (e : Edge) → OnCell c e → area_num e c ≡ term e *ℤ pos (steps e)
    each e h = whole_tile h ∙ ring (pos (steps e) ∷ term e ∷ []) (search read depth 40) tt

pub outline_whole : {depth : ℕ} {es : List Edge} → ClosedOnTile depth es → exact_area_num depth es 0 (at 0 0) ≡ signed_area es *ℤ pos (denominator es)
outline_whole {depth} {es} o =
    ap (λ c. numer steps (λ e. area_num e c) es) (square-tile depth) ∙ edges_whole o.closed (tile depth) (all_map (on_cell depth) es o.on_tile)
