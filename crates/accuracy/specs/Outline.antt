-- An outline and its edges.
--
-- Definitions
--   Point                          a point, in 01's steps of 1/256 pixel
--   points_of, contours_of         the points of a list of coordinates, x and y in turn; and the contours, by their counts
--   point_at coordinates k         point k of a list of coordinates
--   edge_count counts              the counts' sum
--   edge_between p q               the edge from p to q
--   through p qs last              the edges from p through the points qs to the last
--   contour_edges, outline_edges   the edges of one contour, and of all contours of an outline
--   signed_area es                 the signed area that edges enclose, in 01's units of half a square step
--   gain f e, ClosedEdges es       what a function of a point gains along an edge; in closed edges the gains add up to 0
use Rattle.std.specs.Prelude.{◌≡◌, List, [], ◌∷◌, ◌++◌, ℕ, ◌+◌, ◌*◌, get_or, take, drop, ℤ, pos, ◌-ℤ◌}
use Rattle.integers.specs.ListSum.{total, tally}
use Rattle.edge.specs.declared.Edge.{Edge}
use Rattle.edge.specs.Rounded.{root_term}

pub record Point : Type 0 where
  pub x : ℤ
  pub y : ℤ

-- "An outline is a list of x, y pairs and a list of counts."
unfoldable pub points_of : List ℤ → List Point
points_of [] = []
points_of (x ∷ []) = []
points_of (x ∷ y ∷ rest) = record { x = x; y = y } ∷ points_of rest

abbrev pub point_at : List ℤ → ℕ → Point
point_at coordinates k = record { x = get_or coordinates (2 * k) (pos 0); y = get_or coordinates (2 * k + 1) (pos 0) }

-- "A contour is the run of points that begins where the one before ended." Each point has two coordinates.
unfoldable pub contours_of : List ℕ → List ℤ → List (List Point)
contours_of [] coordinates = []
contours_of (n ∷ counts) coordinates = points_of (take (2 * n) coordinates) ∷ contours_of counts (drop (2 * n) coordinates)

-- "the edge count, the sum of the counts"
abbrev pub edge_count : List ℕ → ℕ
edge_count counts = tally (λ n. n) counts

abbrev pub edge_between : Point → Point → Edge
edge_between p q = record { x0 = p.x; y0 = p.y; x1 = q.x; y1 = q.y }

unfoldable pub through : Point → List Point → Point → List Edge
through p [] last = edge_between p last ∷ []
through p (q ∷ qs) last = edge_between p q ∷ through q qs last

-- "Its last point joins its first. The edges are as many as the points."
unfoldable pub contour_edges : List Point → List Edge
contour_edges [] = []
contour_edges (p ∷ ps) = through p ps p

-- an outline is a list of contours, each a list of points; none at all is one too
unfoldable pub outline_edges : List (List Point) → List Edge
outline_edges [] = []
outline_edges (c ∷ cs) = contour_edges c ++ outline_edges cs

-- "Signed area in units is the sum over edges of x0 × y1 − x1 × y0; negative for an anticlockwise contour."
abbrev pub signed_area : List Edge → ℤ
signed_area es = total root_term es

-- Each point of a contour is the end of one edge and the start of the next, so whatever is gained along its edges adds up to 0. This is all that the
-- proof of `Accurate` knows of contours; it does not depend on the order of the edges.
abbrev pub gain : (ℤ → ℤ → ℤ) → Edge → ℤ
gain f e = f e.x1 e.y1 -ℤ f e.x0 e.y0

pub record ClosedEdges (es : List Edge) : Type 0 where
  pub cancels : (f : ℤ → ℤ → ℤ) → total (gain f) es ≡ pos 0
