-- Laws of what specs/Amending.antt defines. The head of that file lists the main results.
use Rattle.std.specs.Prelude.{◌≡◌, refl}
use Rattle.accuracy.specs.Outline.{contour_edges}
use Rattle.corrections.specs.Corrections.{Tile, Call, contour_of, tile_questions}
use Rattle.corrections.specs.Amending.{amend_questions}

-- a contour of points, by its edges
pub same_questions : (k : Call) (t : Tile) → amend_questions k.site k.change (contour_edges (contour_of k)) k.count t ≡ tile_questions k t
same_questions k t = refl
