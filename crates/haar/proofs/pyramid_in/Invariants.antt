-- Level after level, each from the figures of the one above.
use Rattle.std.proofs.Common.{suc, ◌≤◌, ◌^◌, length}
use Rattle.haar.specs.Greys.{grey_of}
use Rattle.haar.specs.Levels.{Parents}
use Rattle.haar.specs.Pyramid.{places}
use Rattle.haar.proofs.Stacking.{Stacked}
use Rattle.haar.proofs.pyramid_in.Given as goal

abbrev pub invariant-loop-level : goal.invariant-loop-level
invariant-loop-level g l = record {
  stacked : Stacked (grey_of (2 ^ l.depth)) l.table (places (suc l.depth)) l.pictures (suc l.level);
  parents : Parents l.table l.depth l.level (length l.initial.figures) l.figures;
  within : l.level ≤ l.depth;
}
