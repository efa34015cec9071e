-- Contours written as an outline, as building takes it: `contours_of` of `accuracy` reads them back (`Laws/Written`).
--
-- Definitions
--   Contour                       a contour is the list of its points, in the order in which they are joined, from the first one on
--   coordinates_of, coordinates   x and y of each point in turn, of one contour and of all
--   counts_of                     how many points each has
use Rattle.std.specs.Prelude.{List, [], ◌∷◌, ◌++◌, map, ℕ, length, ℤ}
use Rattle.accuracy.specs.Outline.{Point}

abbrev pub Contour : Type 0
Contour = List Point

unfoldable pub coordinates_of : Contour → List ℤ
coordinates_of [] = []
coordinates_of (p ∷ ps) = p.x ∷ p.y ∷ coordinates_of ps

unfoldable pub coordinates : List Contour → List ℤ
coordinates [] = []
coordinates (c ∷ cs) = coordinates_of c ++ coordinates cs

abbrev pub counts_of : List Contour → List ℕ
counts_of cs = map length cs
