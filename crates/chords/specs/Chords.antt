-- The edges that a contour with curved edges is drawn as: its straight edges, and the chords of its curves. "Edge counts and closeness are then those of the
-- chords": all that is said of edges elsewhere, of their table, of what is drawn of it and how near that is, is said of these.
--
-- Definitions
--   splits_of c                    k, of the 2^k chords of a curve
--   chord_point c i                the ends of its chords, number 0 to 2^k
--   chords_of s                    the edges of a side
--   contour_chords, outline_chords those of a contour, and of an outline
use Rattle.std.specs.Prelude.{List, [], ◌∷◌, ℕ, suc, ◌^◌}
use Rattle.integers.specs.ListSum.{joined}
use Rattle.edge.specs.declared.Edge.{Edge}
use Rattle.curve.specs.Curve.{bend, splits, chord_end}
use Rattle.haar.specs.Pictures.{tabulate}
use Rattle.accuracy.specs.Outline.{Point, edge_between}
use Rattle.chords.specs.declared.Curve.{Curve}
use Rattle.chords.specs.declared.Side.{Side}
use Rattle.chords.specs.declared.Side.TheVariants.{Straight, Curved}
use Rattle.chords.specs.Sides.{MarkedContour, sides_of}

-- one k for both coordinates
abbrev pub splits_of : Curve → ℕ
splits_of c = splits (bend c.x0 c.cx c.x1) (bend c.y0 c.cy c.y1)

abbrev pub chord_point : Curve → ℕ → Point
chord_point c i = record { x = chord_end c.x0 c.cx c.x1 (splits_of c) i; y = chord_end c.y0 c.cy c.y1 (splits_of c) i }

-- "A curve becomes 2^k chords at equal parameter steps."
unfoldable pub chords_of : Side → List Edge
chords_of (Straight e) = e ∷ []
chords_of (Curved c) = tabulate (2 ^ splits_of c) (λ i. edge_between (chord_point c i) (chord_point c (suc i)))

abbrev pub contour_chords : MarkedContour → List Edge
contour_chords c = joined chords_of (sides_of c)

abbrev pub outline_chords : List MarkedContour → List Edge
outline_chords cs = joined contour_chords cs
