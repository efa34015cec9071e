-- Laws of what specs/NearCurves.antt defines. The head of that file lists the main results.
use Rattle.std.specs.Prelude.{List}
use Rattle.integers.specs.ListSum.{All}
use Rattle.integers.proofs.Theorems.ListSum.{all_map}
use Rattle.curve.proofs.Theorems.ChordsNear.{curve_near}
use Rattle.curve.specs.Curve.{OnSheet}
use Rattle.chords.specs.declared.Side.{Side}
use Rattle.chords.specs.declared.Side.TheVariants.{Straight, Curved}
use Rattle.chords.specs.Sides.{MarkedContour}
use Rattle.chords.specs.Laws.SidesWithin.{Right, SideWithin}
use Rattle.chords.proofs.Laws.SidesWithin.{sides_within}
use Rattle.chords.specs.NearCurves.{NearChords, outline_sides}

pub side_near : (s : Side) → SideWithin OnSheet s → NearChords s
side_near (Straight e) h = tt
side_near (Curved c) h =
    curve_near h.0 h.1 h.2 h.3 h.4 h.5

pub sides_near : (cs : List MarkedContour) → All (Right OnSheet) cs → All NearChords (outline_sides cs)
sides_near cs h = all_map side_near (outline_sides cs) (sides_within OnSheet cs h)
