-- Laws of what specs/Outline.antt defines. The head of that file lists the main results.
use Rattle.std.specs.Prelude.{◌≡◌, [], ◌∷◌, ℤ, pos, ◌*ℤ◌}
use Rattle.integers.proofs.Theorems.Ring.{read, ring}
use Rattle.integers.specs.ListSum.{total}
use Rattle.edge.specs.Rounded.{root_term}
use Rattle.accuracy.specs.Outline.{Point, contour_edges, signed_area, through}

-- A check: "Letters are traced clockwise as seen on the page". A square so traced, w steps wide, has its area, w² square steps, and not the opposite.
abbrev corner : ℤ → ℤ → Point
corner x y = record { x = x; y = y }

clockwise : (w : ℤ) → signed_area (contour_edges (corner (pos 0) (pos 0) ∷ corner w (pos 0) ∷ corner w w ∷ corner (pos 0) w ∷ [])) ≡ pos 2 *ℤ (w *ℤ w)
unfolding contour_edges through total root_term
clockwise w = ring (w ∷ []) (search read depth 40) tt
