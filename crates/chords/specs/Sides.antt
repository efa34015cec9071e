-- A contour with curved edges: "two ends and a control point, with a mark, 0 straight or 1 curved, for each edge".
--
-- A side is an edge as it is marked, which is what the tracer wrote: a straight edge, or a curve, which is drawn as chords. An edge ends where the next one
-- begins, and the last at the contour's first point; so a curved last edge has its control point at the very end of the contour's coordinates.
--
-- Definitions
--   Side, Curve                   the code's: `Straight` of an edge, `Curved` of a curve, which has two ends and a control point
--   numbers_of m, numbers ms      how many numbers an edge with the mark m has, and edges with the marks ms
--   curve_between p c q           the curve from p to q with the control point c
--   side_to m zs q                the side with the mark m that ends at q; its own numbers are the first of zs
--   start_or first ms zs          where the sides with the marks ms begin, whose numbers zs are; `first` where there is none
--   sides_from first ms zs        the sides with the marks ms, the last of which ends at `first`
--   MarkedContour, marked_contour,
--   sides_of c                    a contour: its marks and its coordinates; and its sides
--   marked_contours               the contours of an outline, by counts, marks and coordinates
use Rattle.std.specs.Prelude.{cond, List, [], ◌∷◌, ℕ, eqb, take, drop, ℤ}
use Rattle.integers.specs.ListSum.{tally}
use Rattle.accuracy.specs.Outline.{Point, point_at, edge_between}
use Rattle.chords.specs.declared.Curve.{Curve}
use Rattle.chords.specs.declared.Side.{Side}
use Rattle.chords.specs.declared.Side.TheVariants.{Straight, Curved}

-- "two numbers for a straight edge, its start, and four for a curved one, its start and then its control point"
abbrev pub numbers_of : ℕ → ℕ
numbers_of m = cond (eqb m 0) 2 4

abbrev pub numbers : List ℕ → ℕ
numbers marks = tally numbers_of marks

abbrev pub curve_between : Point → Point → Point → Curve
curve_between p c q = record { x0 = p.x; y0 = p.y; cx = c.x; cy = c.y; x1 = q.x; y1 = q.y }

abbrev pub side_to : ℕ → List ℤ → Point → Side
side_to m zs q = cond (eqb m 0) (Straight (edge_between (point_at zs 0) q)) (Curved (curve_between (point_at zs 0) (point_at zs 1) q))

abbrev pub start_or : Point → List ℕ → List ℤ → Point
start_or first [] zs = first
start_or first (m ∷ ms) zs = point_at zs 0

unfoldable pub sides_from : Point → List ℕ → List ℤ → List Side
sides_from first [] zs = []
sides_from first (m ∷ ms) zs = side_to m zs (start_or first ms (drop (numbers_of m) zs)) ∷ sides_from first ms (drop (numbers_of m) zs)

pub record MarkedContour : Type 0 where
  pub marks : List ℕ
  pub coordinates : List ℤ

abbrev pub marked_contour : List ℕ → List ℤ → MarkedContour
marked_contour marks coordinates = record { marks = marks; coordinates = coordinates }

-- its last side ends where its first begins
abbrev pub sides_of : MarkedContour → List Side
sides_of c = sides_from (point_at c.coordinates 0) c.marks c.coordinates

-- A contour has as many marks as its count, and the numbers of these.
unfoldable pub marked_contours : List ℕ → List ℕ → List ℤ → List MarkedContour
marked_contours [] marks zs = []
marked_contours (n ∷ counts) marks zs =
    marked_contour (take n marks) (take (numbers (take n marks)) zs) ∷ marked_contours counts (drop n marks) (drop (numbers (take n marks)) zs)
