-- What an inner function answers, and what an inner type holds.
--
-- Definitions
--   capped_chords cs              the number of an outline's edges, or one more than the most where it is greater
--   curve_of c                    the curve whose chords they are
use Rattle.std.specs.Prelude.{cond, List, ℕ, suc, leb, length}
use Rattle.integers.specs.Units.{most_edges}
use Rattle.chords.specs.declared.Curve.{Curve}
use Rattle.chords.specs.declared.curved.Chords.{Chords}
use Rattle.chords.specs.Sides.{MarkedContour}
use Rattle.chords.specs.Chords.{outline_chords}

abbrev pub capped_chords : List MarkedContour → ℕ
capped_chords cs = cond (leb (length (outline_chords cs)) most_edges) (length (outline_chords cs)) (suc most_edges)

abbrev pub curve_of : Chords → Curve
curve_of c = record { x0 = c.across.p; y0 = c.down.p; cx = c.across.q; cy = c.down.q; x1 = c.across.r; y1 = c.down.r }
